-- An object by how it starts, and what stands inside it.
use Rattle.std.proofs.Common.{◌≡◌, ℕ, zero, suc, Bool, drop, sym, refl, ap, ◌∙◌, arith}
use Rattle.faults.specs.declared.fault.Fault.{Fault}
use Rattle.faults.specs.declared.reason.Reason.TheVariants.{TooDeep}
use Rattle.format.specs.Bytes.{Bytes, Got, ok, bad, then}
use Rattle.format.specs.Failures.{object_fault}
use Rattle.format.specs.Strings.{turns}
use Rattle.format.specs.Objects.{Obj, array, dict, no_entries, Reader, items, one, too_deep, in_array}
use Rattle.objects.specs.declared.shape.Shape.{Shape}
use Rattle.objects.specs.declared.shape.Shape.TheVariants.{Array, Dictionary}
use Rattle.objects.specs.Shapes.{shape_of, shaped}
use Rattle.objects.specs.Extents.{entries_by, in_dict_by, read_by}
use Rattle.objects.specs.Steps.{bare}

inside_ok : {A : Type 0} (r : Got A) (f : A → Obj) (s : Shape) (e : ℕ) (ys : Bytes) → ((a : A) → s ≡ shape_of (f a)) → ok tt e ys ≡ bare r → ok s e ys ≡ shaped (then r (λ a q zs. ok (f a) q zs))
inside_ok (ok a q zs) f s e ys h g = let w = h a in cc
inside_ok (bad f) g s e ys h i = absurd (let z : ◌≡◌ {A = ℕ} 0 1 = cc in omega arith)

inside_bad : {A : Type 0} (r : Got A) (f : A → Obj) (g : Fault) → bad g ≡ bare r → bad g ≡ shaped (then r (λ a q zs. ok (f a) q zs))
inside_bad (ok a q zs) f g e = absurd (let z : ◌≡◌ {A = ℕ} 0 1 = cc in omega arith)
inside_bad (bad h) f g e = cc

-- an object with nothing inside
pub whole_read : (c : Bool) (d p : ℕ) (xs : Bytes) (z : Got Shape) → ((A D : ℕ → Reader) → shaped (one A D p xs) ≡ z) → z ≡ shaped (read_by c d p xs)
unfolding read_by
whole_read c zero p xs z h = sym (h too_deep too_deep)
whole_read c (suc d) p xs z h = sym (h (in_array (read_by c d)) (in_dict_by c (read_by c d)))

-- what starts no object
pub refused_read : (c : Bool) (d p : ℕ) (xs : Bytes) (f : Fault) → ((A D : ℕ → Reader) → one A D p xs ≡ bad f) → bad f ≡ shaped (read_by c d p xs)
refused_read c d p xs f h = whole_read c d p xs (bad f) (λ A D. ap shaped (h A D))

module _ (c : Bool) (d : ℕ) (src : Bytes) (p s q : ℕ) where
  module _ (h : (A D : ℕ → Reader) → one A D p (drop p src) ≡ A s q (drop q src)) where
    -- an array that nests too deep
    pub array_deep : d ≡ 0 → bad (object_fault TooDeep s) ≡ shaped (read_by c d p (drop p src))
    unfolding read_by too_deep
    array_deep e = rw e (ap shaped (sym (h too_deep too_deep)))

  module _ (h : (A D : ℕ → Reader) → one A D p (drop p src) ≡ D s q (drop q src)) where
    -- a dictionary that nests too deep
    pub dict_deep : d ≡ 0 → bad (object_fault TooDeep s) ≡ shaped (read_by c d p (drop p src))
    unfolding read_by too_deep
    dict_deep e = rw e (ap shaped (sym (h too_deep too_deep)))

module _ (c : Bool) (d : ℕ) (src : Bytes) (p s q : ℕ) where
  module _ (h : (A D : ℕ → Reader) → one A D p (drop p src) ≡ A s q (drop q src)) where
    array_in : shaped (then (items (read_by c d) turns q (drop q src)) (λ os a ys. ok (array os) a ys)) ≡ shaped (read_by c (suc d) p (drop p src))
    unfolding read_by in_array
    array_in = ap shaped (sym (h (in_array (read_by c d)) (in_dict_by c (read_by c d))))

    -- an array whose elements are read
    pub array_read : (e : ℕ) → ok tt e (drop e src) ≡ bare (items (read_by c d) turns q (drop q src)) → ok Array e (drop e src) ≡ shaped (read_by c (suc d) p (drop p src))
    array_read e g = inside_ok (items (read_by c d) turns q (drop q src)) array Array e (drop e src) (λ a. refl) g ∙ array_in

    -- an array with an element that is refused
    pub array_bad : (f : Fault) → bad f ≡ bare (items (read_by c d) turns q (drop q src)) → bad f ≡ shaped (read_by c (suc d) p (drop p src))
    array_bad f g = inside_bad (items (read_by c d) turns q (drop q src)) array f g ∙ array_in

  module _ (h : (A D : ℕ → Reader) → one A D p (drop p src) ≡ D s q (drop q src)) where
    dict_in : shaped (then (entries_by c (read_by c d) turns no_entries q (drop q src)) (λ es a ys. ok (dict es) a ys)) ≡ shaped (read_by c (suc d) p (drop p src))
    unfolding read_by in_dict_by
    dict_in = ap shaped (sym (h (in_array (read_by c d)) (in_dict_by c (read_by c d))))

    -- a dictionary whose entries are read
    pub dict_read : (e : ℕ) → ok tt e (drop e src) ≡ bare (entries_by c (read_by c d) turns no_entries q (drop q src)) → ok Dictionary e (drop e src) ≡ shaped (read_by c (suc d) p (drop p src))
    dict_read e g = inside_ok (entries_by c (read_by c d) turns no_entries q (drop q src)) dict Dictionary e (drop e src) (λ a. refl) g ∙ dict_in

    -- a dictionary with an entry that is refused
    pub dict_bad : (f : Fault) → bad f ≡ bare (entries_by c (read_by c d) turns no_entries q (drop q src)) → bad f ≡ shaped (read_by c (suc d) p (drop p src))
    dict_bad f g = inside_bad (entries_by c (read_by c d) turns no_entries q (drop q src)) dict f g ∙ dict_in
