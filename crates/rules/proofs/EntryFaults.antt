-- The entries of a section and their objects: where they are refused, one breaks a rule, and all those of lower numbers hold theirs.
use Rattle.std.proofs.Common.{◌≡◌, ℕ, zero, suc, ◌<◌, true, false, ◌&&◌, eqb, [], ◌∷◌, ℤ, Some, Ok, Err, sym, refl, ap, ◌∙◌, subst, arith}
use Rattle.std.proofs.lemmas.Bool.{and_parts, and_from, eqb-true, eq-eqb}
use Rattle.faults.specs.declared.fault.Fault.{Fault}
use Rattle.faults.specs.declared.reason.Reason.TheVariants.{ChainRule}
use Rattle.format.specs.Bytes.{Bytes}
use Rattle.format.specs.Chain.{Link}
use Rattle.format.specs.Failures.{chain_fault}
use Rattle.format.specs.Lines.{Slot}
use Rattle.format.specs.Revisions.{State, nth, frame_in, framed_state, slot_fits, slots_fit, state_of, states_of}
use Rattle.format.specs.Sections.{Listed}
use Rattle.chains.proofs.Steps.{by_answer, by_reading}
use Rattle.locality.proofs.Cases.{cases}
use Rattle.sections.proofs.Local.{not_bad}
use Rattle.tables.proofs.Finds.{true_false}
use Rattle.rules.specs.Breaches.{EntryBreach, ObjectFault, unread, another, ObjectBreach}
use Rattle.rules.specs.Sections.{rows}
use Rattle.rules.specs.Tables.{EntryFits, ObjectFits}
use Rattle.rules.proofs.Entries.{slot_fits_fact, fits_slot}
use Rattle.rules.proofs.Faulted.{never_fault, faulted}
use Rattle.rules.proofs.Lists.{no_place, same_place}
use Rattle.rules.proofs.Objects.{framed_at, at_framed, state_given, given_state, object_state, state_object}
use Rattle.rules.proofs.Rows.{Rising, rising_above}

-- a row lists the number n with the entry e
abbrev pub Row : Listed → ℕ → Slot → Type 0
Row rs n e = (i : ℕ) × (nth i rs ≡ Some (n, e))

-- rows that ascend have no number below their first
first_lowest : (low : ℕ) (r : ℕ × Slot) (rs : Listed) → Rising low (r ∷ rs) → (n : ℕ) (e : Slot) → Row (r ∷ rs) n e → n < r.0 → ⊥
unfolding nth
first_lowest low r rs a n e (zero, q) h =
    let w : r ≡ (n, e) = same_place q in
    let v : r.0 ≡ n = ap (λ (z : ℕ × Slot). z.0) w in
    absurd (omega arith)
first_lowest low r rs a n e (suc i, q) h = let m = rising_above (suc r.0) rs a.1 i n e q in absurd (omega arith)

-- of rows, the first that does not fit
record Misfit (off : ℕ) (size : ℤ) (rs : Listed) (f : Fault) : Type 0 where
  number : ℕ
  entry : Slot
  lists : Row rs number entry
  lower : (n : ℕ) (e : Slot) → n < number → Row rs n e → EntryFits off size n e
  misfit : EntryFits off size number entry → ⊥
  fault : f ≡ chain_fault ChainRule off number

slots_misfit : (off : ℕ) (size : ℤ) (low : ℕ) (rs : Listed) (f : Fault) → Rising low rs → slots_fit off size rs ≡ Err f → Misfit off size rs f
unfolding slots_fit nth
slots_misfit off size low [] f a h = never_fault h
slots_misfit off size low (r ∷ rs) f a h =
    cases (slot_fits off size r.0 r.1)
    (λ g. more g (slots_misfit off size (suc r.0) rs f a.1 (rw g at h)))
    (λ g. record {
      number = r.0;
      entry = r.1;
      lists = (0, refl);
      lower = λ n e k w. absurd (first_lowest low r rs a n e w k);
      misfit = λ b. true_false (sym (fits_slot off size r.0 r.1 b) ∙ g);
      fault = sym (faulted (rw g at h));
    })
  where
    lower : slot_fits off size r.0 r.1 ≡ true → (m : Misfit off size rs f) → (n : ℕ) (e : Slot) → n < m.number → Row (r ∷ rs) n e → EntryFits off size n e
    lower g m n e k (zero, q) =
        let w : r ≡ (n, e) = same_place q in
        subst (λ (x : ℕ × Slot). EntryFits off size x.0 x.1) w (slot_fits_fact off size r.0 r.1 g)
    lower g m n e k (suc i, q) = m.lower n e k (i, q)

    more : slot_fits off size r.0 r.1 ≡ true → Misfit off size rs f → Misfit off size (r ∷ rs) f
    more g m = record {
      number = m.number;
      entry = m.entry;
      lists = (suc m.lists.0, m.lists.1);
      lower = lower g m;
      misfit = m.misfit;
      fault = m.fault;
    }

-- entries that are refused
pub entries_breach : (l : Link) (f : Fault) → Rising 0 (rows l.sec) → slots_fit l.sec.offset l.says.size (rows l.sec) ≡ Err f → EntryBreach l f
entries_breach l f a h =
    let m = slots_misfit l.sec.offset l.says.size 0 (rows l.sec) f a h in
    record { number = m.number; entry = m.entry; lists = m.lists; lower = m.lower; misfit = m.misfit; fault = m.fault }

misfit_slots : (off : ℕ) (size : ℤ) (low : ℕ) (rs : Listed) → Rising low rs → (n : ℕ) (e : Slot) → Row rs n e → ((m : ℕ) (d : Slot) → m < n → Row rs m d → EntryFits off size m d) →
    (EntryFits off size n e → ⊥) → slots_fit off size rs ≡ Err (chain_fault ChainRule off n)
unfolding slots_fit nth
misfit_slots off size low [] a n e (i, q) k g = no_place i q
misfit_slots off size low (r ∷ rs) a n e (zero, q) k g =
    let w : r ≡ (n, e) = same_place q in
    let v : r.0 ≡ n = ap (λ (z : ℕ × Slot). z.0) w in
    let u : slot_fits off size r.0 r.1 ≡ false =
    cases (slot_fits off size r.0 r.1)
    (λ h. absurd (g (subst (λ (x : ℕ × Slot). EntryFits off size x.0 x.1) w (slot_fits_fact off size r.0 r.1 h))))
    (λ h. h) in
    rw u (ap (λ (x : ℕ). Err (chain_fault ChainRule off x)) v)
misfit_slots off size low (r ∷ rs) a n e (suc i, q) k g =
    let h = rising_above (suc r.0) rs a.1 i n e q in
    rw (fits_slot off size r.0 r.1 (k r.0 r.1 (omega arith) (0, refl)))
    (misfit_slots off size (suc r.0) rs a.1 n e (i, q) (λ m d c w. k m d c (suc w.0, w.1)) g)

pub breach_entries : (l : Link) (f : Fault) → Rising 0 (rows l.sec) → EntryBreach l f → slots_fit l.sec.offset l.says.size (rows l.sec) ≡ Err f
breach_entries l f a b =
    misfit_slots l.sec.offset l.says.size 0 (rows l.sec) a b.number b.entry b.lists b.lower b.misfit ∙ ap Err (sym b.fault)

-- an entry whose object is refused
framed_fault : (file : Bytes) (l : Link) (n : ℕ) (e : Slot) (f : Fault) → framed_state l.sec.offset n e (frame_in file l.sec.offset e.field) ≡ Err f → ObjectFault file l n e f
unfolding framed_state
framed_fault file l n e f h =
    by_reading (frame_in file l.sec.offset e.field)
    (λ r q rest g.
    cases (eqb r.number n && eqb r.gen e.gen)
    (λ b. never_fault (rw b at (rw g at h)))
    (λ b.
    another r.number r.gen r.body (framed_at file l.sec.offset e.field r.number r.gen r q rest g refl refl)
    (λ w. true_false (sym (and_from (eqb r.number n) (eqb r.gen e.gen) (eq-eqb r.number n w.0) (eq-eqb r.gen e.gen w.1)) ∙ b))
    (sym (faulted (rw b at (rw g at h))))))
    (λ x g. unread (λ m k body o. not_bad (sym g ∙ (at_framed file l.sec.offset e.field m k body o).3)) x g (sym (faulted (rw g at h))))

pub state_fault : (file : Bytes) (l : Link) (n : ℕ) (e : Slot) (f : Fault) → state_of file l.sec.offset n e ≡ Err f → ObjectFault file l n e f
unfolding state_of
state_fault file l n e f h =
    cases e.in_use (λ u. framed_fault file l n e f (rw (u, state_of) at h)) (λ u. never_fault (rw (u, state_of) at h))

-- a fault leaves no object
pub fault_misfit : (file : Bytes) (l : Link) (n : ℕ) (e : Slot) (f : Fault) → state_of file l.sec.offset n e ≡ Err f → ObjectFits file l n e → ⊥
fault_misfit file l n e f h o = let w = object_state file l n e o in never_fault (sym (given_state file l n e w.0 w.1) ∙ h)

fault_state : (file : Bytes) (l : Link) (n : ℕ) (e : Slot) (f : Fault) → e.in_use ≡ true → ObjectFault file l n e f → state_of file l.sec.offset n e ≡ Err f
unfolding state_of framed_state
fault_state file l n e f u (unread k x g q) = rw (u, state_of) (rw g (ap Err (sym q)))
fault_state file l n e f u (another m h body o k q) =
    let b : eqb m n && eqb h e.gen ≡ false =
    cases (eqb m n && eqb h e.gen) (λ a. let w = and_parts (eqb m n) (eqb h e.gen) a in absurd (k (eqb-true m n w.0, eqb-true h e.gen w.1))) (λ a. a) in
    rw (u, state_of) (rw (at_framed file l.sec.offset e.field m h body o).3 (rw b (ap Err (sym q))))

-- an entry whose object does not fit is in use
misfit_used : (file : Bytes) (l : Link) (n : ℕ) (e : Slot) → (ObjectFits file l n e → ⊥) → e.in_use ≡ true
misfit_used file l n e g = cases e.in_use (λ u. u) (λ u. absurd (g (λ v. true_false (sym v ∙ u))))

-- of rows, the first whose object does not fit
record Missing (file : Bytes) (l : Link) (rs : Listed) (f : Fault) : Type 0 where
  number : ℕ
  entry : Slot
  lists : Row rs number entry
  lower : (n : ℕ) (e : Slot) → n < number → Row rs n e → ObjectFits file l n e
  misfit : ObjectFits file l number entry → ⊥
  fault : ObjectFault file l number entry f

states_missing : (file : Bytes) (l : Link) (low : ℕ) (rs : Listed) (f : Fault) → Rising low rs → states_of file l.sec.offset rs ≡ Err f → Missing file l rs f
unfolding states_of nth
states_missing file l low [] f a h = never_fault h
states_missing file l low (r ∷ rs) f a h =
    by_answer (state_of file l.sec.offset r.0 r.1)
    (λ t e.
    by_answer (states_of file l.sec.offset rs)
    (λ ts g. never_fault (rw g at (rw e at h)))
    (λ x g.
    let q : x ≡ f = faulted (rw g at (rw e at h)) in
    more t e (states_missing file l (suc r.0) rs f a.1 (g ∙ ap Err q))))
    (λ x e.
    let q : x ≡ f = faulted (rw e at h) in
    record {
      number = r.0;
      entry = r.1;
      lists = (0, refl);
      lower = λ n d k w. absurd (first_lowest low r rs a n d w k);
      misfit = fault_misfit file l r.0 r.1 x e;
      fault = state_fault file l r.0 r.1 f (e ∙ ap Err q);
    })
  where
    lower : (t : State) → state_of file l.sec.offset r.0 r.1 ≡ Ok t → (m : Missing file l rs f) → (n : ℕ) (e : Slot) → n < m.number → Row (r ∷ rs) n e → ObjectFits file l n e
    lower t g m n e k (zero, q) =
        let w : r ≡ (n, e) = same_place q in
        subst (λ (x : ℕ × Slot). ObjectFits file l x.0 x.1) w (state_object file l r.0 r.1 t (state_given file l r.0 r.1 t g))
    lower t g m n e k (suc i, q) = m.lower n e k (i, q)

    more : (t : State) → state_of file l.sec.offset r.0 r.1 ≡ Ok t → Missing file l rs f → Missing file l (r ∷ rs) f
    more t g m = record {
      number = m.number;
      entry = m.entry;
      lists = (suc m.lists.0, m.lists.1);
      lower = lower t g m;
      misfit = m.misfit;
      fault = m.fault;
    }

-- objects that are refused
pub objects_breach : (file : Bytes) (l : Link) (f : Fault) → Rising 0 (rows l.sec) → states_of file l.sec.offset (rows l.sec) ≡ Err f → ObjectBreach file l f
objects_breach file l f a h =
    let m = states_missing file l 0 (rows l.sec) f a h in
    record { number = m.number; entry = m.entry; lists = m.lists; lower = m.lower; misfit = m.misfit; fault = m.fault }

missing_states : (file : Bytes) (l : Link) (low : ℕ) (rs : Listed) (f : Fault) → Rising low rs → (n : ℕ) (e : Slot) → Row rs n e → ((m : ℕ) (d : Slot) → m < n → Row rs m d → ObjectFits file l m d) →
    state_of file l.sec.offset n e ≡ Err f → states_of file l.sec.offset rs ≡ Err f
unfolding states_of nth
missing_states file l low [] f a n e (i, q) k g = no_place i q
missing_states file l low (r ∷ rs) f a n e (zero, q) k g =
    let w : r ≡ (n, e) = same_place q in
    let u : state_of file l.sec.offset r.0 r.1 ≡ Err f = subst (λ (x : ℕ × Slot). state_of file l.sec.offset x.0 x.1 ≡ Err f) (sym w) g in
    rw u refl
missing_states file l low (r ∷ rs) f a n e (suc i, q) k g =
    let h = rising_above (suc r.0) rs a.1 i n e q in
    let t = object_state file l r.0 r.1 (k r.0 r.1 (omega arith) (0, refl)) in
    rw (given_state file l r.0 r.1 t.0 t.1)
    (rw (missing_states file l (suc r.0) rs f a.1 n e (i, q) (λ m d c w. k m d c (suc w.0, w.1)) g) refl)

pub breach_objects : (file : Bytes) (l : Link) (f : Fault) → Rising 0 (rows l.sec) → ObjectBreach file l f → states_of file l.sec.offset (rows l.sec) ≡ Err f
breach_objects file l f a b =
    missing_states file l 0 (rows l.sec) f a b.number b.entry b.lists b.lower
    (fault_state file l b.number b.entry f (misfit_used file l b.number b.entry b.misfit) b.fault)
