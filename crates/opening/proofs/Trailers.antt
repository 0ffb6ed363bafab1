-- What a trailer's entries are, by the shapes of their values.
use Rattle.std.proofs.Common.{◌≡◌, ℕ, Bool, true, false, ◌&&◌, drop, ℤ, Some, None, codes, Option, sym, refl, ap, ◌∙◌}
use mathlib.Core.Bool.{and-false}
use Rattle.format.specs.Bytes.{Bytes, ok}
use Rattle.format.specs.Chain as format
use Rattle.format.specs.Chain.{Entry, entry_of, trailer_entry, is_absent, prev_of, size_of, root_of, told_by, Told, told}
use Rattle.format.specs.Objects.{Obj, null, boolean, integer, decimal, literal, hexadecimal, named, array, dict, ref, Entries, no_entries, entries, object_by, value_of}
use Rattle.format.specs.Strings.{turns}
use Rattle.objects.specs.Extents.{read_by, find}
use Rattle.objects.specs.Shapes.{shaped_maybe, shape_in, shape_of}
use Rattle.objects.proofs.Walks.{finds}
use Rattle.opening.specs.Trailers.{kind_in}

object_kind : (o : Obj) → kind_in (Some (shape_of o)) ≡ entry_of o
unfolding entry_of
object_kind null = refl
object_kind (boolean b) = refl
object_kind (integer z) = refl
object_kind (decimal w) = refl
object_kind (literal w) = refl
object_kind (hexadecimal w) = refl
object_kind (named d) = refl
object_kind (array os) = refl
object_kind (dict es) = refl
object_kind (ref n g) = refl

maybe_kind : (v : Option Obj) → kind_in (shaped_maybe v) ≡ elim v [ None ↦ format.absent | Some o ↦ entry_of o ]
maybe_kind None = refl
maybe_kind (Some o) = object_kind o

-- the entry for a key, by the value that a walk finds
pub entry_kind : (src : Bytes) (p : ℕ) (k : Bytes) (es : Entries) (q : ℕ) (ys : Bytes) → entries (object_by 31) turns no_entries p (drop p src) ≡ ok es q ys → kind_in (shape_in (find (read_by false 31) turns k None p (drop p src))) ≡ trailer_entry k es
unfolding trailer_entry
entry_kind src p k es q ys e = ap kind_in (finds 31 p (drop p src) es q ys k e) ∙ maybe_kind (value_of k es)

-- where one thing is missing, nothing is told
no_prev : (s : Option ℤ) (r : Option (ℕ × ℕ)) (b : Bool) → told_by s None r b ≡ None
unfolding told_by
no_prev None r b = refl
no_prev (Some z) r b = refl

no_root : (s : Option ℤ) (p : Option (Option ℤ)) (b : Bool) → told_by s p None b ≡ None
unfolding told_by
no_root None p b = refl
no_root (Some z) None b = refl
no_root (Some z) (Some p) b = refl

unwanted : (s : Option ℤ) (p : Option (Option ℤ)) (r : Option (ℕ × ℕ)) → told_by s p r false ≡ None
unfolding told_by
unwanted None p r = refl
unwanted (Some z) None r = refl
unwanted (Some z) (Some p) None = refl
unwanted (Some z) (Some p) (Some r) = refl

-- What a trailer with these entries says, by what one of them is.
module _ (es : Entries) (k : Entry) where
  pub size_unfit : k ≡ trailer_entry (codes "Size") es → None ≡ size_of k → None ≡ told es
  unfolding told told_by
  size_unfit h e =
      let f : None ≡ size_of (trailer_entry (codes "Size") es) = e ∙ ap size_of h in
      ap (λ s. told_by s (prev_of (trailer_entry (codes "Prev") es)) (root_of (trailer_entry (codes "Root") es)) (is_absent (trailer_entry (codes "Encrypt") es) && is_absent (trailer_entry (codes "XRefStm") es))) f

  pub prev_unfit : k ≡ trailer_entry (codes "Prev") es → None ≡ prev_of k → None ≡ told es
  unfolding told
  prev_unfit h e =
      let f : None ≡ prev_of (trailer_entry (codes "Prev") es) = e ∙ ap prev_of h in
      sym (no_prev (size_of (trailer_entry (codes "Size") es)) (root_of (trailer_entry (codes "Root") es)) (is_absent (trailer_entry (codes "Encrypt") es) && is_absent (trailer_entry (codes "XRefStm") es)))
      ∙ ap (λ p. told_by (size_of (trailer_entry (codes "Size") es)) p (root_of (trailer_entry (codes "Root") es)) (is_absent (trailer_entry (codes "Encrypt") es) && is_absent (trailer_entry (codes "XRefStm") es))) f

  pub root_unfit : k ≡ trailer_entry (codes "Root") es → None ≡ root_of k → None ≡ told es
  unfolding told
  root_unfit h e =
      let f : None ≡ root_of (trailer_entry (codes "Root") es) = e ∙ ap root_of h in
      sym (no_root (size_of (trailer_entry (codes "Size") es)) (prev_of (trailer_entry (codes "Prev") es)) (is_absent (trailer_entry (codes "Encrypt") es) && is_absent (trailer_entry (codes "XRefStm") es)))
      ∙ ap (λ r. told_by (size_of (trailer_entry (codes "Size") es)) (prev_of (trailer_entry (codes "Prev") es)) r (is_absent (trailer_entry (codes "Encrypt") es) && is_absent (trailer_entry (codes "XRefStm") es))) f

  some_unwanted : is_absent (trailer_entry (codes "Encrypt") es) && is_absent (trailer_entry (codes "XRefStm") es) ≡ false → None ≡ told es
  unfolding told
  some_unwanted e =
      sym (unwanted (size_of (trailer_entry (codes "Size") es)) (prev_of (trailer_entry (codes "Prev") es)) (root_of (trailer_entry (codes "Root") es)))
      ∙ ap (told_by (size_of (trailer_entry (codes "Size") es)) (prev_of (trailer_entry (codes "Prev") es)) (root_of (trailer_entry (codes "Root") es))) (sym e)

  pub encrypt_unwanted : k ≡ trailer_entry (codes "Encrypt") es → false ≡ is_absent k → None ≡ told es
  encrypt_unwanted h e = some_unwanted (ap (λ b. b && is_absent (trailer_entry (codes "XRefStm") es)) (sym (e ∙ ap is_absent h)))

  pub stream_unwanted : k ≡ trailer_entry (codes "XRefStm") es → false ≡ is_absent k → None ≡ told es
  stream_unwanted h e = some_unwanted (ap (λ b. is_absent (trailer_entry (codes "Encrypt") es) && b) (sym (e ∙ ap is_absent h)) ∙ and-false (is_absent (trailer_entry (codes "Encrypt") es)))

-- where all five fit
pub all_fit : (es : Entries) (a b c d e : Entry) (z : ℤ) (p : Option ℤ) (n g : ℕ) → a ≡ trailer_entry (codes "Size") es → b ≡ trailer_entry (codes "Prev") es → c ≡ trailer_entry (codes "Root") es → d ≡ trailer_entry (codes "Encrypt") es → e ≡ trailer_entry (codes "XRefStm") es →
    Some z ≡ size_of a → Some p ≡ prev_of b → Some (n, g) ≡ root_of c → true ≡ is_absent d → true ≡ is_absent e → Some (record { size = z; prev = p; root = n; root_gen = g }) ≡ told es
unfolding told told_by
all_fit es a b c d e z p n g a-is b-is c-is d-is e-is size prev root encrypt stream =
    let s : Some z ≡ size_of (trailer_entry (codes "Size") es) = size ∙ ap size_of a-is in
    let t : Some p ≡ prev_of (trailer_entry (codes "Prev") es) = prev ∙ ap prev_of b-is in
    let r : Some (n, g) ≡ root_of (trailer_entry (codes "Root") es) = root ∙ ap root_of c-is in
    let x : true ≡ is_absent (trailer_entry (codes "Encrypt") es) = encrypt ∙ ap is_absent d-is in
    let y : true ≡ is_absent (trailer_entry (codes "XRefStm") es) = stream ∙ ap is_absent e-is in
    (λ i. told_by (s i) (t i) (r i) (x i && y i))
