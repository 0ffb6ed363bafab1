-- What a new trailer says.
use Rattle.std.proofs.Common.{◌≡◌, ℕ, Bool, true, false, ◌&&◌, ℤ, pos, Some, None, codes, Option, sym, refl, ap, ◌∙◌}
use Rattle.format.specs.Bytes.{Bytes, same}
use Rattle.format.specs.Chain.{entry_of, trailer_entry, is_absent, Told, prev_of, size_of, root_of, told_by, told}
use Rattle.format.specs.Objects.{Entries, no_entries, more_entries, value_of}
use Rattle.format.specs.Writing.{is_rewritten}
use Rattle.locality.specs.LocalityTrailers.{copied_entries, joined_entries, prev_entry, size_entries, new_entries, prev_told}
use Rattle.locality.proofs.Cases.{cases, cases_o}
use Rattle.locality.proofs.Objects.{same_eq}
use Rattle.locality.proofs.Tests.{clash}

-- a key that is written anew is looked up behind those copied
value_anew : (k : Bytes) (es fs : Entries) → is_rewritten k ≡ true → value_of k (joined_entries (copied_entries es) fs) ≡ value_of k fs
unfolding value_of copied_entries joined_entries
value_anew k no_entries fs h = refl
value_anew k (more_entries j jb vb o es) fs h =
    cases (is_rewritten j)
    (λ e. rw (e, copied_entries) (value_anew k es fs h))
    (λ e.
    cases (same k j)
    (λ a. clash (let q : k ≡ j = same_eq k j a in let z : is_rewritten k ≡ false = ap is_rewritten q ∙ e in cc))
    (λ a. rw (e, copied_entries) (rw (a, value_of) (value_anew k es fs h))))

-- any other key is looked up among those copied, as it was
value_kept : (k : Bytes) (es fs : Entries) → is_rewritten k ≡ false → value_of k fs ≡ None → value_of k (joined_entries (copied_entries es) fs) ≡ value_of k es
unfolding value_of copied_entries joined_entries
value_kept k no_entries fs h g = g
value_kept k (more_entries j jb vb o es) fs h g =
    cases (same k j)
    (λ a. let e : is_rewritten j ≡ false = ap is_rewritten (sym (same_eq k j a)) ∙ h in rw (e, copied_entries) (rw (a, value_of) refl))
    (λ a.
    cases (is_rewritten j)
    (λ e. rw (e, copied_entries) (rw (a, value_of) (value_kept k es fs h g)))
    (λ e. rw (e, copied_entries) (rw (a, value_of) (value_kept k es fs h g))))

entry_by : (k : Bytes) (es fs : Entries) → value_of k es ≡ value_of k fs → trailer_entry k es ≡ trailer_entry k fs
unfolding trailer_entry
entry_by k es fs e =
    cases_o (value_of k fs)
    (λ a. rw (e ∙ a, trailer_entry) (rw (a, trailer_entry) refl))
    (λ o a. rw (e ∙ a, trailer_entry) (rw (a, trailer_entry) refl))

anew : (k : Bytes) (es : Entries) (size : ℕ) (prev : Option ℕ) → is_rewritten k ≡ true → trailer_entry k (new_entries es size prev) ≡ trailer_entry k (size_entries size prev)
unfolding new_entries
anew k es size prev h = entry_by k (new_entries es size prev) (size_entries size prev) (value_anew k es (size_entries size prev) h)

kept : (k : Bytes) (es : Entries) (size : ℕ) (prev : Option ℕ) → is_rewritten k ≡ false → value_of k (size_entries size prev) ≡ None → trailer_entry k (new_entries es size prev) ≡ trailer_entry k es
unfolding new_entries
kept k es size prev h g = entry_by k (new_entries es size prev) es (value_kept k es (size_entries size prev) h g)

size_told : (size : ℕ) (prev : Option ℕ) → size_of (trailer_entry (codes "Size") (size_entries size prev)) ≡ Some (pos size)
unfolding size_of trailer_entry value_of size_entries entry_of same
size_told size prev = refl

prev_told_fact : (size : ℕ) (prev : Option ℕ) → prev_of (trailer_entry (codes "Prev") (size_entries size prev)) ≡ Some (prev_told prev)
unfolding prev_of trailer_entry value_of size_entries prev_entry entry_of same
prev_told_fact size None = refl
prev_told_fact size (Some b) = refl

none_of : (size : ℕ) (prev : Option ℕ) → (value_of (codes "Root") (size_entries size prev) ≡ None) × (value_of (codes "Encrypt") (size_entries size prev) ≡ None) × (value_of (codes "XRefStm") (size_entries size prev) ≡ None)
unfolding value_of size_entries prev_entry same
none_of size None = (refl, refl, refl)
none_of size (Some b) = (refl, refl, refl)

record Rewritten : Type 0 where
  size : is_rewritten (codes "Size") ≡ true
  prev : is_rewritten (codes "Prev") ≡ true
  root : is_rewritten (codes "Root") ≡ false
  encrypt : is_rewritten (codes "Encrypt") ≡ false
  stream : is_rewritten (codes "XRefStm") ≡ false

rewritten : Rewritten
unfolding is_rewritten same
rewritten = record { size = refl; prev = refl; root = refl; encrypt = refl; stream = refl }

root_of_fact : (a : Option ℤ) (b : Option (Option ℤ)) (c : Option (ℕ × ℕ)) (d : Bool) (t : Told) → told_by a b c d ≡ Some t → (c ≡ Some (t.root, t.root_gen)) × (d ≡ true)
unfolding told_by
root_of_fact (Some z) (Some p) (Some r) true t e =
    let u : record { size = z; prev = p; root = r.0; root_gen = r.1 } ≡ t = cc in
    (let x : r.0 ≡ t.root = ap (λ (v : Told). v.root) u in let y : r.1 ≡ t.root_gen = ap (λ (v : Told). v.root_gen) u in λ i. Some (x i, y i), refl)
root_of_fact (Some z) (Some p) (Some r) false t e = clash (cc)
root_of_fact (Some z) (Some p) None d t e = clash (cc)
root_of_fact (Some z) None c d t e = clash (cc)
root_of_fact None b c d t e = clash (cc)

made : (m : ℕ) (b : Option ℕ) (u : Told) → told_by (Some (pos m)) (Some (prev_told b)) (Some (u.root, u.root_gen)) true ≡ Some (record { size = pos m; prev = prev_told b; root = u.root; root_gen = u.root_gen })
unfolding told_by
made m b u = refl

-- a new trailer says its Size and Prev, and Root as before
pub new_told : (es : Entries) (size : ℕ) (prev : Option ℕ) (t : Told) → told es ≡ Some t →
    told (new_entries es size prev) ≡ Some (record { size = pos size; prev = prev_told prev; root = t.root; root_gen = t.root_gen })
unfolding told
new_told es size prev t e =
    let r = root_of_fact (size_of (trailer_entry (codes "Size") es)) (prev_of (trailer_entry (codes "Prev") es)) (root_of (trailer_entry (codes "Root") es)) (is_absent (trailer_entry (codes "Encrypt") es) && is_absent (trailer_entry (codes "XRefStm") es)) t e in
    let n = none_of size prev in
    rw (anew (codes "Size") es size prev rewritten.size, size_told size prev, anew (codes "Prev") es size prev rewritten.prev, prev_told_fact size prev)
    (rw (kept (codes "Root") es size prev rewritten.root n.0, kept (codes "Encrypt") es size prev rewritten.encrypt n.1, kept (codes "XRefStm") es size prev rewritten.stream n.2)
    (rw (r.0, r.1) (made size prev t)))
