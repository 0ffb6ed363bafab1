-- Where no byte is left.
use Rattle.std.proofs.Common.{◌≡◌, ℕ, ◌≤◌, true, false, [], length, drop, None, sym, refl, ap, ◌∙◌}
use Rattle.std.proofs.lemmas.List.{at_drop_all}
use Rattle.faults.specs.declared.reason.Reason.TheVariants.{BytesEnd}
use Rattle.format.specs.Bytes.{Bytes, bad}
use Rattle.format.specs.Failures.{object_fault}
use Rattle.format.specs.Space.{skip}
use Rattle.format.specs.Strings.{turns}
use Rattle.format.specs.Tokens.{start_at, token_at}
use Rattle.format.specs.Objects.{Reader, no_entries, of_token, one, object, object_by, next, entry_at, entries}
use Rattle.format.specs.Frames.{body_at}
use Rattle.objects.specs.Extents.{entries_by, read_by, reached, find_at, find}
use Rattle.objects.specs.Shapes.{shaped}
use Rattle.objects.specs.Nexts.{entry_from, entry_in}
use Rattle.objects.specs.Steps.{bare}
use Rattle.objects.proofs.Extents.{entries_checked, read_checked}

object_none : (p : ℕ) → object p [] ≡ bad (object_fault BytesEnd p)
unfolding object object_by one of_token token_at start_at skip
object_none p = refl

-- no object starts there
pub object_past : (src : Bytes) (p : ℕ) → length src ≤ p → bad (object_fault BytesEnd p) ≡ shaped (object p (drop p src))
object_past src p h = sym (ap shaped (at_drop_all (object p) src p h ∙ object_none p))

body_none : (p : ℕ) → body_at p [] ≡ bad (object_fault BytesEnd p)
unfolding body_at object object_by one of_token token_at start_at skip
body_none p = refl

-- no body starts there
pub body_past : (src : Bytes) (p : ℕ) → length src ≤ p → bad (object_fault BytesEnd p) ≡ bare (body_at p (drop p src))
body_past src p h = sym (ap bare (at_drop_all (body_at p) src p h ∙ body_none p))

entries_none : (elem : Reader) (p : ℕ) → entries elem turns no_entries p [] ≡ bad (object_fault BytesEnd p)
unfolding entries entry_at next token_at start_at skip
entries_none elem p = refl

-- no entry stands there
pub entries_past : (src : Bytes) (p : ℕ) → length src ≤ p → bad (object_fault BytesEnd p) ≡ bare (entries (object_by 31) turns no_entries p (drop p src))
entries_past src p h = sym (ap bare (at_drop_all (entries (object_by 31) turns no_entries p) src p h ∙ entries_none (object_by 31) p))

-- entries that are read with the check
pub entries_read : (p : ℕ) (xs : Bytes) → bare (entries_by true (read_by true 31) turns no_entries p xs) ≡ bare (entries (object_by 31) turns no_entries p xs)
entries_read p xs =
    let checked : read_by true 31 ≡ object_by 31 = λ i q ys. read_checked 31 q ys i in
    ap (λ (r : Reader). bare (entries_by true r turns no_entries p xs)) checked ∙ ap bare (entries_checked (object_by 31) turns no_entries p xs)

-- an object that is read with the check
pub object_read : (p : ℕ) (xs : Bytes) → shaped (read_by true 32 p xs) ≡ shaped (object p xs)
unfolding object
object_read p xs = ap shaped (read_checked 32 p xs)

find_none : (elem : Reader) (k : Bytes) (p : ℕ) → find elem turns k None p [] ≡ None
unfolding find reached find_at next token_at start_at skip
find_none elem k p = refl

-- no value stands there
pub find_past : (src k : Bytes) (p : ℕ) → length src ≤ p → None ≡ find (read_by false 31) turns k None p (drop p src)
find_past src k p h = sym (at_drop_all (find (read_by false 31) turns k None p) src p h ∙ find_none (read_by false 31) k p)

entry_none : (elem : Reader) (p : ℕ) → entry_from elem (token_at p []) (next (token_at p []).from (token_at p []).kind) ≡ None
unfolding next token_at start_at skip
entry_none elem p = refl

-- no entry stands there
pub entry_past : (src : Bytes) (p : ℕ) → length src ≤ p → None ≡ entry_in src p
entry_past src p h =
    sym (at_drop_all (λ ys. entry_from (read_by false 31) (token_at p ys) (next (token_at p ys).from (token_at p ys).kind)) src p h ∙ entry_none (read_by false 31) p)
