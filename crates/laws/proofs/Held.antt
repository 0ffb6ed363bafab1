-- Accepted puts and removes keep the open update acceptable.
use Rattle.std.proofs.Common.{◌≡◌, ℕ, suc, ◌+◌, ◌<◌, ◌≤◌, Bool, true, false, not, ◌&&◌, eqb, ltb, leb, [], ◌∷◌, length, is_some, Some, None, Ok, Option, sym, refl, ap, arith}
use Rattle.std.proofs.lemmas.Bool.{and_parts, eqb-false, eqb-true, leb-false, leb-true, le-leb, ltb-false, ltb-true, not-true}
use Rattle.faults.specs.declared.fault.Fault.{Fault}
use Rattle.format.specs.Acceptable.{Ascends, Allowed, EachAllowed, Acceptable}
use Rattle.format.specs.Book.{is_used, is_worn_out, may_put, body_answer, most_changes, most_body_bytes, has_room, decide_put, decide_remove}
use Rattle.format.specs.Bytes.{Bytes}
use Rattle.format.specs.Frames.{body_fault}
use Rattle.format.specs.Revisions.{Revision, find, nth}
use Rattle.format.specs.Updates.{Change, body, removed, Update, with_change, body_length, body_bytes, new_numbers}
use Rattle.format.specs.Writing.{new_size}
use Rattle.locality.proofs.Cases.{cases}
use Rattle.tables.proofs.Answered.{also_ok, err_ok, must_ok}

-- true is not false
pub never : {P : Type 0} → ◌≡◌ {A = Bool} true false → P
never e = let z : ◌≡◌ {A = ℕ} 0 1 = cc in absurd (omega arith)

ascends_with : (low n : ℕ) (c : Change) (u : Update) → low ≤ n → Ascends low u → Ascends low (with_change n c u)
unfolding with_change
ascends_with low n c [] h a = (h, tt)
ascends_with low n c (r ∷ rs) h a =
    cases (ltb n r.0)
    (λ e. rw (e, with_change) (h, (ltb-true n r.0 e, a.1)))
    (λ e.
    cases (eqb n r.0)
    (λ d. rw (e, d, with_change) (let q : r.0 ≡ n = sym (eqb-true n r.0 d) in (h, rw q at a.1)))
    (λ d.
    let ne = eqb-false n r.0 d in
    let ge = ltb-false n r.0 e in
    let more : suc r.0 ≤ n = omega arith in
    rw (e, d, with_change) (a.0, ascends_with (suc r.0) n c rs more a.1)))

length_with : (n : ℕ) (c : Change) (u : Update) → length (with_change n c u) ≤ suc (length u)
unfolding with_change
length_with n c [] = omega arith
length_with n c (r ∷ rs) =
    cases (ltb n r.0)
    (λ e. rw (e, with_change) (omega arith))
    (λ e.
    cases (eqb n r.0)
    (λ d. rw (e, d, with_change) (omega arith))
    (λ d. let h = length_with n c rs in rw (e, d, with_change) (omega arith)))

bytes_with : (n : ℕ) (c : Change) (u : Update) → body_bytes (with_change n c u) ≤ body_bytes u + body_length c
unfolding with_change body_bytes
bytes_with n c [] = omega arith
bytes_with n c (r ∷ rs) =
    cases (ltb n r.0)
    (λ e. rw (e, with_change) (omega arith))
    (λ e.
    cases (eqb n r.0)
    (λ d. rw (e, d, with_change) (omega arith))
    (λ d. let h = bytes_with n c rs in rw (e, d, with_change) (omega arith)))

abbrev one : Bool → ℕ
one true = 1
one false = 0

numbers_cons : (size : ℕ) (r : ℕ × Change) (rs : Update) → new_numbers size (r ∷ rs) ≡ one (leb size r.0) + new_numbers size rs
unfolding new_numbers
numbers_cons size r rs = cases (leb size r.0) (λ e. rw (e, new_numbers) (omega arith)) (λ e. rw (e, new_numbers) (omega arith))

numbers_grow : (size n : ℕ) (c : Change) (u : Update) → new_numbers size u ≤ new_numbers size (with_change n c u)
unfolding with_change
numbers_grow size n c [] = let a = numbers_cons size (n, c) [] in omega arith
numbers_grow size n c (r ∷ rs) =
    cases (ltb n r.0)
    (λ e. let a = numbers_cons size (n, c) (r ∷ rs) in rw (e, with_change) (omega arith))
    (λ e.
    cases (eqb n r.0)
    (λ d.
    let a = numbers_cons size (n, c) rs in
    let b = numbers_cons size r rs in
    let q : one (leb size n) ≡ one (leb size r.0) = ap (λ k. one (leb size k)) (eqb-true n r.0 d) in
    rw (e, d, with_change) (omega arith))
    (λ d.
    let a = numbers_cons size r (with_change n c rs) in
    let b = numbers_cons size r rs in
    let h = numbers_grow size n c rs in
    rw (e, d, with_change) (omega arith)))

numbers_new : (size n : ℕ) (c : Change) (u : Update) → is_some (find n u) ≡ false → size ≤ n → new_numbers size (with_change n c u) ≡ suc (new_numbers size u)
unfolding with_change find
numbers_new size n c [] f h =
    let a = numbers_cons size (n, c) [] in
    let b : one (leb size n) ≡ 1 = ap one (le-leb size n h) in
    omega arith
numbers_new size n c (r ∷ rs) f h =
    cases (ltb n r.0)
    (λ e.
    let a = numbers_cons size (n, c) (r ∷ rs) in
    let b : one (leb size n) ≡ 1 = ap one (le-leb size n h) in
    rw (e, with_change) (omega arith))
    (λ e.
    cases (eqb n r.0)
    (λ d. never (rw (d, find) at f))
    (λ d.
    let a = numbers_cons size r (with_change n c rs) in
    let b = numbers_cons size r rs in
    let g = numbers_new size n c rs (rw (d, find) at f) h in
    rw (e, d, with_change) (omega arith)))

allowed_grows : (r : Revision) (s t n : ℕ) (c : Change) → s ≤ t → Allowed r s n c → Allowed r t n c
allowed_grows r s t n (body b) h a = (a.0, (let l = a.1 in omega arith), a.2, a.3)
allowed_grows r s t n removed h a = a

each_grows : (r : Revision) (s t : ℕ) (u : Update) → s ≤ t → EachAllowed r s u → EachAllowed r t u
each_grows r s t [] h a = tt
each_grows r s t (c ∷ cs) h a = (allowed_grows r s t c.0 c.1 h a.0, each_grows r s t cs h a.1)

each_with : (r : Revision) (size n : ℕ) (c : Change) (u : Update) → Allowed r size n c → EachAllowed r size u → EachAllowed r size (with_change n c u)
unfolding with_change
each_with r size n c [] a es = (a, tt)
each_with r size n c (x ∷ xs) a es =
    cases (ltb n x.0)
    (λ e. rw (e, with_change) (a, es))
    (λ e.
    cases (eqb n x.0)
    (λ d. rw (e, d, with_change) (a, es.1))
    (λ d. rw (e, d, with_change) (es.0, each_with r size n c xs a es.1)))

-- An open update is acceptable before its first change.
pub acceptable_empty : (r : Revision) → Acceptable r []
unfolding body_bytes
acceptable_empty r = record { ascends = tt; allowed = tt; few = omega arith; small = omega arith }

-- one change more, where there is room for it and it is allowed
acceptable_with : (r : Revision) (u : Update) (n : ℕ) (c : Change) → Acceptable r u → has_room u (body_length c) ≡ true →
    Allowed r (new_size r (with_change n c u)) n c → Acceptable r (with_change n c u)
unfolding has_room new_size
acceptable_with r u n c a room ok =
    let parts = and_parts (ltb (length u) most_changes) (leb (body_bytes u + body_length c) most_body_bytes) room in
    let fewer = ltb-true (length u) most_changes parts.0 in
    let smaller = leb-true (body_bytes u + body_length c) most_body_bytes parts.1 in
    let more = length_with n c u in
    let heavier = bytes_with n c u in
    let grows = numbers_grow r.size n c u in
    let size : new_size r u ≤ new_size r (with_change n c u) = omega arith in
    record {
      ascends = ascends_with 0 n c u (omega arith) a.ascends;
      allowed = each_with r (new_size r (with_change n c u)) n c u ok (each_grows r (new_size r u) (new_size r (with_change n c u)) u size a.allowed);
      few = omega arith;
      small = omega arith;
    }

body_fits : (n : ℕ) (o : Option Fault) → body_answer n o ≡ Ok tt → o ≡ None
unfolding body_answer
body_fits n None e = refl
body_fits n (Some f) e = err_ok e

-- what an accepted put has met
pub record Putting (r : Revision) (u : Update) (n : ℕ) (b : Bytes) : Type 0 where
  pub may : may_put r u n ≡ true
  pub fresh : not (is_some (find n u)) ≡ true
  pub fits : body_fault b ≡ None
  pub room : has_room u (length b) ≡ true

pub putting : (r : Revision) (u : Update) (n : ℕ) (b : Bytes) → decide_put r u n b ≡ Ok tt → Putting r u n b
unfolding decide_put
putting r u n b e =
    let x = must_ok _ _ _ tt e in
    let y = must_ok _ _ _ tt x.1 in
    let z = also_ok _ _ tt y.1 in
    let w = must_ok _ _ _ tt z.2 in
    record { may = x.0; fresh = y.0; fits = body_fits n (body_fault b) z.1; room = w.0 }

-- An accepted put leaves the open update acceptable.
pub acceptable_put : (r : Revision) (u : Update) (n : ℕ) (b : Bytes) → Acceptable r u → decide_put r u n b ≡ Ok tt → Acceptable r (with_change n (body b) u)
unfolding may_put new_size body_length
acceptable_put r u n b a e =
    let p = putting r u n b e in
    let first = and_parts (leb 1 n) (leb n (new_size r u) && not (is_worn_out (nth n r.states))) p.may in
    let second = and_parts (leb n (new_size r u)) (not (is_worn_out (nth n r.states))) first.1 in
    let low = leb-true 1 n first.0 in
    let high = leb-true n (new_size r u) second.0 in
    let grows = numbers_grow r.size n (body b) u in
    let within : n < new_size r (with_change n (body b) u) =
    cases (leb r.size n)
    (λ h.
    let l = leb-true r.size n h in
    let g = numbers_new r.size n (body b) u (not-true _ p.fresh) l in
    omega arith)
    (λ h. let l = leb-false r.size n h in omega arith) in
    acceptable_with r u n (body b) a p.room (low, within, not-true _ second.1, p.fits)

-- what an accepted remove has met
pub record Removing (r : Revision) (u : Update) (n : ℕ) : Type 0 where
  pub used : is_used (nth n r.states) ≡ true
  pub free : not (eqb n r.root) ≡ true
  pub fresh : not (is_some (find n u)) ≡ true
  pub room : has_room u 0 ≡ true

pub removing : (r : Revision) (u : Update) (n : ℕ) → decide_remove r u n ≡ Ok tt → Removing r u n
unfolding decide_remove
removing r u n e =
    let x = must_ok _ _ _ tt e in
    let y = must_ok _ _ _ tt x.1 in
    let z = must_ok _ _ _ tt y.1 in
    let w = must_ok _ _ _ tt z.1 in
    record { used = x.0; free = y.0; fresh = z.0; room = w.0 }

-- An accepted remove leaves the open update acceptable.
pub acceptable_remove : (r : Revision) (u : Update) (n : ℕ) → Acceptable r u → decide_remove r u n ≡ Ok tt → Acceptable r (with_change n removed u)
unfolding body_length
acceptable_remove r u n a e =
    let p = removing r u n e in
    acceptable_with r u n removed a p.room (p.used, eqb-false n r.root (not-true _ p.free))
