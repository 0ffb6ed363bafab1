-- What a trailer says, by its entries.
use Rattle.std.proofs.Common.{◌≡◌, ℕ, Bool, true, false, ◌&&◌, ℤ, Some, None, codes, Option, sym, refl, ap, ◌∙◌, subst, inl, inr}
use Rattle.std.proofs.lemmas.Bool.{and_parts}
use Rattle.format.specs.Bytes.{Bytes}
use Rattle.format.specs.Chain.{entry_of, trailer_entry, is_absent, Told, prev_of, size_of, root_of, told_by, told}
use Rattle.format.specs.Objects.{Obj, null, boolean, integer, decimal, literal, hexadecimal, named, array, dict, ref, Entries, value_of}
use Rattle.locality.proofs.Cases.{cases_o}
use Rattle.tables.proofs.Finds.{some_none, true_false}
use Rattle.rules.specs.Sections.{Absent, PrevIs, Says}

size_integer : (o : Obj) (z : ℤ) → size_of (entry_of o) ≡ Some z → o ≡ integer z
unfolding size_of entry_of
size_integer null z e = some_none (sym e)
size_integer (boolean b) z e = some_none (sym e)
size_integer (integer y) z e = let q : y ≡ z = cc in ap integer q
size_integer (decimal w) z e = some_none (sym e)
size_integer (literal w) z e = some_none (sym e)
size_integer (hexadecimal w) z e = some_none (sym e)
size_integer (named d) z e = some_none (sym e)
size_integer (array os) z e = some_none (sym e)
size_integer (dict es) z e = some_none (sym e)
size_integer (ref n g) z e = some_none (sym e)

root_reference : (o : Obj) (n g : ℕ) → root_of (entry_of o) ≡ Some (n, g) → o ≡ ref n g
unfolding root_of entry_of
root_reference null n g e = some_none (sym e)
root_reference (boolean b) n g e = some_none (sym e)
root_reference (integer y) n g e = some_none (sym e)
root_reference (decimal w) n g e = some_none (sym e)
root_reference (literal w) n g e = some_none (sym e)
root_reference (hexadecimal w) n g e = some_none (sym e)
root_reference (named d) n g e = some_none (sym e)
root_reference (array os) n g e = some_none (sym e)
root_reference (dict es) n g e = some_none (sym e)
root_reference (ref m h) n g e = let q : ◌≡◌ {A = ℕ × ℕ} (m, h) (n, g) = cc in ap (λ (z : ℕ × ℕ). ref z.0 z.1) q

absent_null : (o : Obj) → is_absent (entry_of o) ≡ true → o ≡ null
unfolding is_absent entry_of
absent_null null e = refl
absent_null (boolean b) e = true_false (sym e)
absent_null (integer y) e = true_false (sym e)
absent_null (decimal w) e = true_false (sym e)
absent_null (literal w) e = true_false (sym e)
absent_null (hexadecimal w) e = true_false (sym e)
absent_null (named d) e = true_false (sym e)
absent_null (array os) e = true_false (sym e)
absent_null (dict es) e = true_false (sym e)
absent_null (ref n g) e = true_false (sym e)

-- what Prev is where it is there: null, or an integer
abbrev PrevOf : Obj → Option ℤ → Type 0
PrevOf o None = o ≡ null
PrevOf o (Some z) = o ≡ integer z

prev_fits : (o : Obj) (p : Option ℤ) → prev_of (entry_of o) ≡ Some p → PrevOf o p
unfolding prev_of entry_of
prev_fits null p e = let q : None ≡ p = cc in subst (λ (x : Option ℤ). PrevOf null x) q refl
prev_fits (boolean b) p e = some_none (sym e)
prev_fits (integer y) p e = let q : Some y ≡ p = cc in subst (λ (x : Option ℤ). PrevOf (integer y) x) q refl
prev_fits (decimal w) p e = some_none (sym e)
prev_fits (literal w) p e = some_none (sym e)
prev_fits (hexadecimal w) p e = some_none (sym e)
prev_fits (named d) p e = some_none (sym e)
prev_fits (array os) p e = some_none (sym e)
prev_fits (dict es) p e = some_none (sym e)
prev_fits (ref n g) p e = some_none (sym e)

size_said : (k : Bytes) (es : Entries) (z : ℤ) → size_of (trailer_entry k es) ≡ Some z → value_of k es ≡ Some (integer z)
unfolding trailer_entry size_of
size_said k es z e =
    cases_o (value_of k es)
    (λ v. some_none (sym (rw (v, trailer_entry) at e)))
    (λ o v. v ∙ ap {B = Option Obj} (λ x. Some x) (size_integer o z (rw (v, trailer_entry) at e)))

root_said : (k : Bytes) (es : Entries) (n g : ℕ) → root_of (trailer_entry k es) ≡ Some (n, g) → value_of k es ≡ Some (ref n g)
unfolding trailer_entry root_of
root_said k es n g e =
    cases_o (value_of k es)
    (λ v. some_none (sym (rw (v, trailer_entry) at e)))
    (λ o v. v ∙ ap {B = Option Obj} (λ x. Some x) (root_reference o n g (rw (v, trailer_entry) at e)))

absent_said : (k : Bytes) (es : Entries) → is_absent (trailer_entry k es) ≡ true → Absent k es
unfolding trailer_entry
absent_said k es e =
    cases_o (value_of k es)
    (λ v. inl v)
    (λ o v. inr (v ∙ ap {B = Option Obj} (λ x. Some x) (absent_null o (rw (v, trailer_entry) at e))))

prev_said : (es : Entries) (p : Option ℤ) → prev_of (trailer_entry (codes "Prev") es) ≡ Some p → PrevIs es p
unfolding trailer_entry prev_of
prev_said es p e =
    cases_o (value_of (codes "Prev") es)
    (λ v. let f : ◌≡◌ {A = Option (Option ℤ)} (Some None) (Some p) = rw (v, trailer_entry) at e in let q : None ≡ p = cc in subst (λ (x : Option ℤ). PrevIs es x) q (inl v))
    (λ o v. there o v p (prev_fits o p (rw (v, trailer_entry) at e)))
  where
    there : (o : Obj) → value_of (codes "Prev") es ≡ Some o → (p : Option ℤ) → PrevOf o p → PrevIs es p
    there o v None q = inr (v ∙ ap {B = Option Obj} (λ x. Some x) q)
    there o v (Some z) q = v ∙ ap {B = Option Obj} (λ x. Some x) q

-- what is told, part by part
told_parts : (a : Option ℤ) (b : Option (Option ℤ)) (c : Option (ℕ × ℕ)) (d : Bool) (t : Told) → told_by a b c d ≡ Some t →
    (a ≡ Some t.size) × (b ≡ Some t.prev) × (c ≡ Some (t.root, t.root_gen)) × (d ≡ true)
unfolding told_by
told_parts (Some z) (Some p) (Some r) true t e =
    let q : ◌≡◌ {A = Told} (record { size = z; prev = p; root = r.0; root_gen = r.1 }) t = cc in
    (λ i. Some (q i).size, λ i. Some (q i).prev, λ i. Some ((q i).root, (q i).root_gen), refl)
told_parts (Some z) (Some p) (Some r) false t e = some_none (sym e)
told_parts (Some z) (Some p) None d t e = some_none (sym e)
told_parts (Some z) None c d t e = some_none (sym e)
told_parts None b c d t e = some_none (sym e)

-- what the definition is told, the trailer says
pub told_says : (es : Entries) (t : Told) → told es ≡ Some t → Says es t
unfolding told
told_says es t e =
    let w = told_parts (size_of (trailer_entry (codes "Size") es)) (prev_of (trailer_entry (codes "Prev") es)) (root_of (trailer_entry (codes "Root") es)) (is_absent (trailer_entry (codes "Encrypt") es) && is_absent (trailer_entry (codes "XRefStm") es)) t e in
    let a = and_parts (is_absent (trailer_entry (codes "Encrypt") es)) (is_absent (trailer_entry (codes "XRefStm") es)) w.3 in
    record {
      size = size_said (codes "Size") es t.size w.0;
      prev = prev_said es t.prev w.1;
      root = root_said (codes "Root") es t.root t.root_gen w.2;
      encrypt = absent_said (codes "Encrypt") es a.0;
      stream = absent_said (codes "XRefStm") es a.1;
    }

absent_is : (k : Bytes) (es : Entries) → Absent k es → is_absent (trailer_entry k es) ≡ true
unfolding is_absent trailer_entry entry_of
absent_is k es (inl v) = rw (v, trailer_entry) refl
absent_is k es (inr v) = rw (v, trailer_entry) refl

prev_is : (es : Entries) (p : Option ℤ) → PrevIs es p → prev_of (trailer_entry (codes "Prev") es) ≡ Some p
unfolding prev_of trailer_entry entry_of
prev_is es None (inl v) = rw (v, trailer_entry) refl
prev_is es None (inr v) = rw (v, trailer_entry) refl
prev_is es (Some z) v = rw (v, trailer_entry) refl

size_is_fact : (k : Bytes) (es : Entries) (z : ℤ) → value_of k es ≡ Some (integer z) → size_of (trailer_entry k es) ≡ Some z
unfolding size_of trailer_entry entry_of
size_is_fact k es z v = rw (v, trailer_entry) refl

root_is : (k : Bytes) (es : Entries) (n g : ℕ) → value_of k es ≡ Some (ref n g) → root_of (trailer_entry k es) ≡ Some (n, g)
unfolding root_of trailer_entry entry_of
root_is k es n g v = rw (v, trailer_entry) refl

-- what the trailer says, the definition is told
pub says_told : (es : Entries) (t : Told) → Says es t → told es ≡ Some t
unfolding told told_by
says_told es t s =
    rw (size_is_fact (codes "Size") es t.size s.size)
    (rw (prev_is es t.prev s.prev)
    (rw (root_is (codes "Root") es t.root t.root_gen s.root) (rw (absent_is (codes "Encrypt") es s.encrypt) (rw (absent_is (codes "XRefStm") es s.stream) refl))))

-- a trailer says one thing
pub says_once : (es : Entries) (t u : Told) → Says es t → Says es u → t ≡ u
says_once es t u a b = let e : Some t ≡ Some u = sym (says_told es t a) ∙ says_told es u b in cc
