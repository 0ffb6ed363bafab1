-- What is so of each body that an acceptable update of a sound table puts. Assumes nothing.
use Rattle.std.proofs.Common.{◌≡◌, ℕ, ◌≤◌, eqb, [], ◌∷◌, length, Some, sym, refl, ap, ◌∙◌, arith, eqb-true}
use borrow.Author.Tests.{eqb-false}
use Rattle.format.specs.Acceptable.{Acceptable}
use Rattle.format.specs.Bytes.{Bytes}
use Rattle.format.specs.Revisions.{Revision, find, nth}
use Rattle.format.specs.Updates.{body, Update, body_length, body_bytes}
use Rattle.format.specs.Writing.{new_size}
use Rattle.tables.specs.Sound.{Sound}
use Rattle.tables.specs.Statements.{Puttable}
use Rattle.tables.proofs.Finds.{some_none, find_here, find_past}
use Rattle.tables.proofs.Cells.{worn}
use Rattle.tables.proofs.Counting.{allowed_find, known}
use Rattle.locality.proofs.Cases.{cases}

body_length_fact : (b : Bytes) → body_length (body b) ≡ length b
unfolding body_length
body_length_fact b = refl

-- a body that is found is no longer than all of them
pub found_length : (n : ℕ) (b : Bytes) (u : Update) → find n u ≡ Some (body b) → length b ≤ body_bytes u
unfolding find body_bytes
found_length n b [] e = some_none (sym e)
found_length n b (x ∷ xs) e =
    cases (eqb n x.0)
    (λ q.
    let f : find n (x ∷ xs) ≡ Some x.1 = find_here n x xs (sym (eqb-true n x.0 q)) in
    let w : x.1 ≡ body b = cc in
    let l : body_length x.1 ≡ length b = ap body_length w ∙ body_length_fact b in
    omega arith)
    (λ q. let k = found_length n b xs (sym (find_past n x xs (eqb-false n x.0 q)) ∙ e) in omega arith)

-- what is so of each body that an acceptable update of a sound table puts
pub puttable : (r : Revision) (u : Update) (n : ℕ) (b : Bytes) → Sound r → Acceptable r u → find n u ≡ Some (body b) → Puttable r u n b
puttable r u n b S A e =
    let k = allowed_find r (new_size r u) n (body b) u A.allowed e in
    let l = found_length n b u e in
    let s = A.small in
    record {
      low = k.0;
      high = k.1;
      gen = worn r.states u (new_size r u) (known r u S A) n (nth n r.states) refl k.2;
      whole = k.3;
      short = omega arith;
    }
