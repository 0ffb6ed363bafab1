-- In every revision of an accepted file the number 0 is free, with generation 65535.
use Rattle.std.proofs.Common.{◌≡◌, ℕ, zero, suc, ◌≤◌, max, Bool, true, false, ◌&&◌, eqb, leb, ◌⊎◌, List, [], ◌∷◌, length, ℤ, Some, None, Ok, Option, sym, refl, ap, ◌∙◌, subst, inl, inr, arith}
use Rattle.std.proofs.lemmas.Bool.{and_parts, eqb-true}
use Rattle.format.specs.Bytes.{Bytes}
use Rattle.format.specs.Chain.{Link, walk}
use Rattle.format.specs.Lines.{Slot}
use Rattle.format.specs.Revisions.{State, free, Revision, find, nth, highest, size_is, under_size, slot_fits, slots_fit, state_of, states_of, covered, overlaid, one_from_zero, root_fits, revision, revisions, header_fits, Opened, opens_from, opens, most_revisions, file_bytes}
use Rattle.format.specs.Sections.{Listed, listed, last_offset}
use Rattle.laws.proofs.Ends.{same_ok}
use Rattle.laws.proofs.Held.{never}
use Rattle.locality.proofs.Cases.{cases}
use Rattle.tables.proofs.Answered.{also_ok, err_ok, must_ok}

-- the table's number 0 is free, with generation 65535
pub record ZeroFree (table : List State) : Type 0 where
  pub first : ℕ
  pub is : nth 0 table ≡ Some (free 65535 first)

none_some : {A P : Type 0} {a : A} → ◌≡◌ {A = Option A} None (Some a) → P
none_some e = let z : ◌≡◌ {A = ℕ} 0 1 = cc in absurd (omega arith)

same_some : {A : Type 0} {a b : A} → ◌≡◌ {A = Option A} (Some a) (Some b) → a ≡ b
same_some e = cc

highest_least : (m : ℕ) (new : Listed) → m ≤ highest m new
unfolding highest
highest_least m [] = omega arith
highest_least m (r ∷ rs) = let h = highest_least (max m (suc r.0)) rs in omega arith

highest_some : (m n : ℕ) (new : Listed) (s : Slot) → find n new ≡ Some s → 1 ≤ highest m new
unfolding highest find
highest_some m n [] s e = none_some e
highest_some m n (r ∷ rs) s e = let h = highest_least (max m (suc r.0)) rs in omega arith

slots_zero : (off : ℕ) (size : ℤ) (new : Listed) (s : Slot) → slots_fit off size new ≡ Ok tt → find 0 new ≡ Some s → slot_fits off size 0 s ≡ true
unfolding slots_fit find
slots_zero off size [] s e f = none_some f
slots_zero off size (r ∷ rs) s e f =
    let a = must_ok (slot_fits off size r.0 r.1) _ _ tt e in
    cases (eqb 0 r.0)
    (λ d.
    let q : r.1 ≡ s = same_some (rw (d, find) at f) in
    let n : r.0 ≡ 0 = sym (eqb-true 0 r.0 d) in
    (λ i. slot_fits off size (sym n i) (sym q i)) ∙ a.0)
    (λ d. slots_zero off size rs s a.1 (rw (d, find) at f))

slot_zero : (off : ℕ) (size : ℤ) (s : Slot) → slot_fits off size 0 s ≡ true → (s.in_use ≡ false) × (s.gen ≡ 65535)
unfolding slot_fits
slot_zero off size s e =
    cases s.in_use
    (λ d. never (sym (rw (d, slot_fits) at e)))
    (λ d.
    let a = and_parts (eqb s.gen 65535) (under_size s.field size) (rw (d, slot_fits) at e) in
    (d, eqb-true s.gen 65535 a.0))

states_some : (file : Bytes) (off n : ℕ) (new : Listed) (ts : List (ℕ × State)) (s : Slot) → states_of file off new ≡ Ok ts → find n new ≡ Some s →
    (t : State) × (state_of file off n s ≡ Ok t) × (find n ts ≡ Some t)
unfolding states_of find
states_some file off n [] ts s e f = none_some f
states_some file off n (r ∷ rs) ts s e f =
    let a = also_ok (state_of file off r.0 r.1) _ ts e in
    let b = also_ok (states_of file off rs) _ ts a.2 in
    let q : (r.0, a.0) ∷ b.0 ≡ ts = same_ok b.2 in
    cases (eqb n r.0)
    (λ d.
    let w : r.1 ≡ s = same_some (rw (d, find) at f) in
    let m : n ≡ r.0 = eqb-true n r.0 d in (
      a.0,
      (λ i. state_of file off (m i) (sym w i)) ∙ a.1,
      ap (find n) (sym q) ∙ (rw (d, find) refl),
    ))
    (λ d.
    let h = states_some file off n rs b.0 s b.1 (rw (d, find) at f) in
    (h.0, h.1, ap (find n) (sym q) ∙ (rw (d, find) h.2)))

states_none : (file : Bytes) (off n : ℕ) (new : Listed) (ts : List (ℕ × State)) → states_of file off new ≡ Ok ts → find n new ≡ None → find n ts ≡ None
unfolding states_of find
states_none file off n [] ts e f = ap (find n) (sym (same_ok e))
states_none file off n (r ∷ rs) ts e f =
    let a = also_ok (state_of file off r.0 r.1) _ ts e in
    let b = also_ok (states_of file off rs) _ ts a.2 in
    let q : (r.0, a.0) ∷ b.0 ≡ ts = same_ok b.2 in
    cases (eqb n r.0)
    (λ d. none_some (sym (rw (d, find) at f)))
    (λ d. ap (find n) (sym q) ∙ (rw (d, find) (states_none file off n rs b.0 b.1 (rw (d, find) at f))))

free_state : (file : Bytes) (off n : ℕ) (s : Slot) (t : State) → s.in_use ≡ false → s.gen ≡ 65535 → state_of file off n s ≡ Ok t → t ≡ free 65535 s.field
unfolding state_of
free_state file off n s t d g e =
    let q : free s.gen s.field ≡ t = same_ok (rw (d, state_of) at e) in
    sym q ∙ (λ i. free (g i) s.field)

overlaid_new : (k : ℕ) (ts : List (ℕ × State)) (old : List State) (t : State) → 1 ≤ k → find 0 ts ≡ Some t → nth 0 (overlaid k 0 ts old) ≡ Some t
unfolding overlaid nth
overlaid_new zero ts old t h e = absurd (omega arith)
overlaid_new (suc k) ts old t h e = rw (e, overlaid) refl

head_is : (t : State) (ss : List State) → nth 0 (t ∷ ss) ≡ Some t
unfolding nth
head_is t ss = refl

some_length : (ss : List State) (t : State) → nth 0 ss ≡ Some t → 1 ≤ length ss
unfolding nth
some_length [] t e = none_some e
some_length (x ∷ ss) t e = omega arith

overlaid_old : (k : ℕ) (ts : List (ℕ × State)) (old : List State) (t : State) → 1 ≤ k → find 0 ts ≡ None → nth 0 old ≡ Some t → nth 0 (overlaid k 0 ts old) ≡ Some t
unfolding overlaid
overlaid_old zero ts old t h e f = absurd (omega arith)
overlaid_old (suc k) ts old t h e f = rw (e, f, overlaid) (head_is t (overlaid k 1 ts old))

covers_zero : (k : ℕ) (new : Listed) → 1 ≤ k → covered k 0 new 0 ≡ true → find 0 new ≡ None → ⊥
unfolding covered
covers_zero zero new h c e = absurd (omega arith)
covers_zero (suc k) new h c e = never (sym (rw (e, covered) at c))

root_listed : (n g : ℕ) (new : Listed) → root_fits n g new [] ≡ true → (s : Slot) × (find n new ≡ Some s)
unfolding root_fits nth
root_listed n g new e = go (find n new) refl
  where
    go : (x : Option Slot) → find n new ≡ x → (s : Slot) × (find n new ≡ Some s)
    go None q = never (sym (rw (q, root_fits) at e))
    go (Some s) q = (s, q)

revision_zero : (file : Bytes) (oldest : Bool) (old : List State) (l : Link) (r : Revision) → (old ≡ []) ⊎ ZeroFree old → revision file oldest old l ≡ Ok r → ZeroFree r.states
unfolding revision
revision_zero file oldest old l r before e =
    let t = l.says in
    let new = listed l.sec.subsections in
    let off = l.sec.offset in
    let size = highest (length old) new in
    let a = must_ok (elim oldest [ true ↦ one_from_zero l.sec.subsections | false ↦ true ]) _ _ r e in
    let b = also_ok (slots_fit off t.size new) _ r a.1 in
    let c = must_ok (size_is t.size size && covered size 0 new (length old)) _ _ r b.2 in
    let d = must_ok (root_fits t.root t.root_gen new old) _ _ r c.1 in
    let f = also_ok (states_of file off new) _ r d.1 in
    let q : overlaid size 0 f.0 old ≡ r.states = ap (λ (x : Revision). x.states) (same_ok f.2) in
    subst (λ (x : List State). ZeroFree x) q
    (go file off t.size t.root t.root_gen new f.0 before b.1 (and_parts (size_is t.size size) (covered size 0 new (length old)) c.0).1 d.0 f.1)
  where
    go : (file : Bytes) (off : ℕ) (said : ℤ) (root root_gen : ℕ) (new : Listed) (ts : List (ℕ × State)) → (old ≡ []) ⊎ ZeroFree old →
        slots_fit off said new ≡ Ok tt → covered (highest (length old) new) 0 new (length old) ≡ true → root_fits root root_gen new old ≡ true →
        states_of file off new ≡ Ok ts → ZeroFree (overlaid (highest (length old) new) 0 ts old)
    go file off said root root_gen new ts before fit cov rooted states = at (find 0 new) refl before
      where
        at : (x : Option Slot) → find 0 new ≡ x → (old ≡ []) ⊎ ZeroFree old → ZeroFree (overlaid (highest (length old) new) 0 ts old)
        at (Some s) q z =
            let a = slot_zero off said s (slots_zero off said new s fit q) in
            let b = states_some file off 0 new ts s states q in
            let c = free_state file off 0 s b.0 a.0 a.1 b.1 in
            record { first = s.field; is = overlaid_new (highest (length old) new) ts old (free 65535 s.field) (highest_some (length old) 0 new s q) (b.2 ∙ ap Some c) }
        at None q (inr z) =
            let n = some_length old (free 65535 z.first) z.is in
            let m = highest_least (length old) new in
            record { first = z.first; is = overlaid_old (highest (length old) new) ts old (free 65535 z.first) (omega arith) (states_none file off 0 new ts states q) z.is }
        at None q (inl z) =
            let p = root_listed root root_gen new (subst (λ (x : List State). root_fits root root_gen new x ≡ true) z rooted) in
            let h = highest_some (length old) root new p.0 p.1 in
            let n : length old ≡ 0 = ap length z in
            absurd (covers_zero (highest (length old) new) new h (ap (covered (highest (length old) new) 0 new) (sym n) ∙ cov) q)

-- each revision of a list has 0 free
abbrev pub AllZeroFree : List Revision → Type 0
AllZeroFree [] = Unit {0}
AllZeroFree (r ∷ rs) = ZeroFree r.states × AllZeroFree rs

revisions_zero : (ls : List Link) (file : Bytes) (oldest : Bool) (old : List State) (rs : List Revision) → (old ≡ []) ⊎ ZeroFree old →
    revisions file oldest old ls ≡ Ok rs → AllZeroFree rs
unfolding revisions
revisions_zero [] file oldest old rs z e = subst (λ (x : List Revision). AllZeroFree x) (same_ok e) tt
revisions_zero (l ∷ ls) file oldest old rs z e =
    let a = also_ok (revision file oldest old l) _ rs e in
    let b = also_ok (revisions file false a.0.states ls) _ rs a.2 in
    let first = revision_zero file oldest old l a.0 z a.1 in
    let rest = revisions_zero ls file false a.0.states b.0 (inr first) b.1 in
    subst (λ (x : List Revision). AllZeroFree x) (same_ok b.2) (first, rest)

-- In every revision of an accepted file the number 0 is free.
pub opened_zero_free : (file : Bytes) (o : Opened) → opens file ≡ Ok o → AllZeroFree o.history
unfolding opens opens_from
opened_zero_free file o e =
    let a = must_ok (leb (length file) file_bytes) _ _ o e in
    let b = must_ok (header_fits file) _ _ o a.1 in
    go (last_offset file) b.1
  where
    go : (x : Option ℕ) → opens_from file x ≡ Ok o → AllZeroFree o.history
    go None e = err_ok e
    go (Some off) e =
        let a = also_ok (walk most_revisions file off (λ e. eqb e (length file)) []) _ o e in
        let b = also_ok (revisions file true [] a.0) _ o a.2 in
        let s : b.0 ≡ o.history = ap (λ (x : Opened). x.history) (same_ok b.2) in
        subst (λ (x : List Revision). AllZeroFree x) s (revisions_zero a.0 file true [] b.0 (inl refl) b.1)
