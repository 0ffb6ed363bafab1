-- The revisions from the oldest on: where they are refused, one breaks a rule, and all those before it hold theirs.
use Rattle.std.proofs.Common.{◌≡◌, ℕ, zero, suc, ◌<◌, ◌≤◌, Bool, true, false, ◌⊎◌, List, [], ◌∷◌, Ok, Err, sym, refl, ap, ◌∙◌, subst, inl, inr, arith}
use Rattle.std.proofs.lemmas.Bool.{cases_eq}
use Rattle.faults.specs.declared.fault.Fault.{Fault}
use Rattle.faults.specs.declared.reason.Reason.TheVariants.{ChainRule}
use Rattle.format.specs.Bytes.{Bytes}
use Rattle.format.specs.Chain.{Answer, also, must, Link}
use Rattle.format.specs.Failures.{chain_fault}
use Rattle.format.specs.Revisions.{State, Revision, nth, slots_fit, states_of, revision, revisions}
use Rattle.chains.proofs.Steps.{by_answer}
use Rattle.locality.proofs.Cases.{cases}
use Rattle.tables.proofs.Finds.{true_false}
use Rattle.rules.specs.Breaches.{RevisionBreach, oldest, entry, size, root, object}
use Rattle.rules.specs.Sections.{rows}
use Rattle.rules.specs.Tables.{Stands, OneFromZero, SizeFits, RootFits, RevisionHolds}
use Rattle.rules.proofs.Entries.{slots_fit_fact, fit_slots}
use Rattle.rules.proofs.EntryFaults.{entries_breach, breach_entries, objects_breach, breach_objects}
use Rattle.rules.proofs.Faulted.{never_fault, faulted}
use Rattle.rules.proofs.Histories.{From, from_first, from_rest}
use Rattle.rules.proofs.Lists.{no_place}
use Rattle.rules.proofs.Newest.{Neat, one_there}
use Rattle.rules.proofs.Revised.{made_of, one_test, size_test, root_test, Passed, Oldest, one_passed, passed_one, revision_passed, passed_revision, made_holds, holds_made, made_table}
use Rattle.rules.proofs.Tables.{Table, size_fits, fits_size, root_fits_fact, fits_root}
use Rattle.rules.proofs.Numbers.{left_over}

-- which of the checks of a revision refuses it
data Blame {X : Type 0} (b₁ : Bool) (f₁ : Fault) (x₂ : Answer (Unit {0})) (b₃ : Bool) (f₃ : Fault) (b₄ : Bool) (f₄ : Fault) (x₅ : Answer X) (f : Fault) : Type 0 where
  first : b₁ ≡ false → f ≡ f₁ → Blame b₁ f₁ x₂ b₃ f₃ b₄ f₄ x₅ f
  second : b₁ ≡ true → x₂ ≡ Err f → Blame b₁ f₁ x₂ b₃ f₃ b₄ f₄ x₅ f
  third : b₁ ≡ true → x₂ ≡ Ok tt → b₃ ≡ false → f ≡ f₃ → Blame b₁ f₁ x₂ b₃ f₃ b₄ f₄ x₅ f
  fourth : b₁ ≡ true → x₂ ≡ Ok tt → b₃ ≡ true → b₄ ≡ false → f ≡ f₄ → Blame b₁ f₁ x₂ b₃ f₃ b₄ f₄ x₅ f
  fifth : b₁ ≡ true → x₂ ≡ Ok tt → b₃ ≡ true → b₄ ≡ true → x₅ ≡ Err f → Blame b₁ f₁ x₂ b₃ f₃ b₄ f₄ x₅ f

blame : {X : Type 0} (b₁ : Bool) (f₁ : Fault) (x₂ : Answer (Unit {0})) (b₃ : Bool) (f₃ : Fault) (b₄ : Bool) (f₄ : Fault) (x₅ : Answer X) (k : X → Revision) (f : Fault) →
    must b₁ f₁ (λ _. also x₂ (λ _. must b₃ f₃ (λ _. must b₄ f₄ (λ _. also x₅ (λ ts. Ok (k ts)))))) ≡ Err f → Blame b₁ f₁ x₂ b₃ f₃ b₄ f₄ x₅ f
blame true f₁ (Ok v) true f₃ true f₄ (Ok ts) k f e = never_fault e
blame true f₁ (Ok v) true f₃ true f₄ (Err g) k f e = fifth refl refl refl refl (ap Err (faulted e))
blame true f₁ (Ok v) true f₃ false f₄ x₅ k f e = fourth refl refl refl refl (sym (faulted e))
blame true f₁ (Ok v) false f₃ b₄ f₄ x₅ k f e = third refl refl refl (sym (faulted e))
blame true f₁ (Err g) b₃ f₃ b₄ f₄ x₅ k f e = second refl (ap Err (faulted e))
blame false f₁ x₂ b₃ f₃ b₄ f₄ x₅ k f e = first refl (sym (faulted e))

-- what is not at the oldest place is not refused there
one_failed : (k : ℕ) (b : Bool) (l : Link) → Oldest k b → one_test b l ≡ false → (k ≡ 0) × (OneFromZero l.sec → ⊥)
one_failed zero b l o h = (refl, λ a. true_false (sym (passed_one 0 b l o (λ _. a)) ∙ h))
one_failed (suc k) true l o h = true_false o
one_failed (suc k) false l o h = true_false h

failed_one : (b : Bool) (k : ℕ) (l : Link) → Oldest k b → k ≡ 0 → (OneFromZero l.sec → ⊥) → one_test b l ≡ false
failed_one b zero l o q g = cases (one_test b l) (λ h. absurd (g (one_passed 0 b l o h refl))) (λ h. h)
failed_one b (suc k) l o q g = absurd (omega arith)

module _ (file : Bytes) (links : List Link) (neat : Neat links) where
  module _ (k : ℕ) (old : List State) (table : Table file links k old) (l : Link) (stands : Stands links k l) (b : Bool) (o : Oldest k b) (f : Fault) where
    blamed : Blame (one_test b l) (chain_fault ChainRule l.sec.offset 0) (slots_fit l.sec.offset l.says.size (rows l.sec)) (size_test old l) (chain_fault ChainRule l.sec.offset 0)
        (root_test old l) (chain_fault ChainRule l.sec.offset l.says.root) (states_of file l.sec.offset (rows l.sec)) f →
        RevisionBreach file links k l f
    blamed (first a e) = let w = one_failed k b l o a in oldest w.0 w.1 e
    blamed (second a e) = entry (one_passed k b l o a) (entries_breach l f (neat k l stands) e)
    blamed (third a c d e) =
        size (one_passed k b l o a) (slots_fit_fact l.sec.offset l.says.size (rows l.sec) tt c)
        (λ g. true_false (sym (fits_size file links neat k old table l stands g) ∙ d)) e
    blamed (fourth a c d e h) =
        root (one_passed k b l o a) (slots_fit_fact l.sec.offset l.says.size (rows l.sec) tt c) (size_fits file links neat k old table l stands d)
        (λ g. true_false (sym (fits_root file links neat k old table l stands g) ∙ e)) h
    blamed (fifth a c d e h) =
        object (one_passed k b l o a) (slots_fit_fact l.sec.offset l.says.size (rows l.sec) tt c) (size_fits file links neat k old table l stands d)
        (root_fits_fact file links neat k old table l stands e) (objects_breach file l f (neat k l stands) h)

    -- a revision that is refused breaks a rule
    revision_breach : revision file b old l ≡ Err f → RevisionBreach file links k l f
    unfolding revision
    revision_breach h =
        blamed
        (blame {X = List (ℕ × State)} (one_test b l) (chain_fault ChainRule l.sec.offset 0)
        (slots_fit l.sec.offset l.says.size (rows l.sec))
        (size_test old l)
        (chain_fault ChainRule l.sec.offset 0)
        (root_test old l)
        (chain_fault ChainRule l.sec.offset l.says.root)
        (states_of file l.sec.offset (rows l.sec))
        (made_of old l)
        f h)

    size_failed : (SizeFits links k l → ⊥) → size_test old l ≡ false
    size_failed g = cases (size_test old l) (λ h. absurd (g (size_fits file links neat k old table l stands h))) (λ h. h)

    root_failed : (RootFits links k l → ⊥) → root_test old l ≡ false
    root_failed g = cases (root_test old l) (λ h. absurd (g (root_fits_fact file links neat k old table l stands h))) (λ h. h)

    -- and one that breaks a rule is refused
    breach_revision : RevisionBreach file links k l f → revision file b old l ≡ Err f
    unfolding revision
    breach_revision (oldest q g e) = rw (failed_one b k l o q g) (ap Err (sym e))
    breach_revision (entry a e) = rw (passed_one k b l o a) (rw (breach_entries l f (neat k l stands) e) refl)
    breach_revision (size a c g e) =
        rw (passed_one k b l o a) (rw (fit_slots l.sec.offset l.says.size (rows l.sec) c) (rw (size_failed g) (ap Err (sym e))))
    breach_revision (root a c d g e) =
        rw (passed_one k b l o a)
        (rw (fit_slots l.sec.offset l.says.size (rows l.sec) c) (rw (fits_size file links neat k old table l stands d) (rw (root_failed g) (ap Err (sym e)))))
    breach_revision (object a c d g e) =
        rw (passed_one k b l o a)
        (rw (fit_slots l.sec.offset l.says.size (rows l.sec) c)
        (rw (fits_size file links neat k old table l stands d) (rw (fits_root file links neat k old table l stands g) (rw (breach_objects file l f (neat k l stands) e) refl))))

  -- the rules hold of the revisions before place k
  abbrev pub Earlier : ℕ → Type 0
  Earlier k = (j : ℕ) (m : Link) → j < k → Stands links j m → RevisionHolds file links j m

  -- a revision that breaks a rule, before which all hold
  pub record Broken (f : Fault) : Type 0 where
    pub place : ℕ
    pub link : Link
    pub stands : Stands links place link
    pub earlier : (j : ℕ) (m : Link) → j < place → Stands links j m → RevisionHolds file links j m
    pub breach : RevisionBreach file links place link f

  later : (k : ℕ) (l : Link) → Stands links k l → RevisionHolds file links k l → Earlier k → Earlier (suc k)
  later k l s h e j m q t = go (cases_eq j k)
    where
      go : (j ≡ k) ⊎ (j ≡ k → ⊥) → RevisionHolds file links j m
      go (inl w) =
          let u : l ≡ m = one_there links k j l m (sym w) s t in
          subst (λ (x : ℕ). RevisionHolds file links x m) (sym w) (subst (λ (x : Link). RevisionHolds file links k x) u h)
      go (inr w) = e j m (omega arith) t

  pub revisions_breach : (k : ℕ) (b : Bool) (old : List State) (ls : List Link) (f : Fault) → Oldest k b → Table file links k old → From links k ls → Earlier k → revisions file b old ls ≡ Err f → Broken f
  unfolding revisions
  revisions_breach k b old [] f o t c e h = never_fault h
  revisions_breach k b old (l ∷ ls) f o t c e h =
      let s = from_first links k l ls c in
      by_answer (revision file b old l)
      (λ r m.
      let p = revision_passed file b old l r m in
      by_answer (revisions file false r.states ls)
      (λ rs g. never_fault (rw (m, g) at h))
      (λ x g.
      let q : x ≡ f = faulted (rw (m, g) at h) in
      revisions_breach (suc k) false r.states ls f refl (made_table file links neat k old t l s b r p) (from_rest links k l ls c)
      (later k l s (made_holds file links neat k old t l s b r o p) e) (g ∙ ap Err q)))
      (λ x m.
      let q : x ≡ f = faulted (rw m at h) in
      record { place = k; link = l; stands = s; earlier = e; breach = revision_breach k old t l s b o f (m ∙ ap Err q) })

  -- and where one breaks a rule, and all before it hold theirs, they are refused
  pub breach_revisions : (k : ℕ) (b : Bool) (old : List State) (ls : List Link) (f : Fault) → Oldest k b → Table file links k old → From links k ls → (w : Broken f) → k ≤ w.place → revisions file b old ls ≡ Err f
  unfolding revisions
  breach_revisions k b old [] f o t c w q =
      let d = left_over k w.place q in
      no_place d.0 (c d.0 ∙ ap (λ (x : ℕ). nth x links) d.1 ∙ w.stands)
  breach_revisions k b old (l ∷ ls) f o t c w q = go (cases_eq w.place k) (λ r p h. breach_revisions (suc k) false r.states ls f refl (made_table file links neat k old t l s b r p) (from_rest links k l ls c) w h)
    where
      s : Stands links k l
      s = from_first links k l ls c

      go : (w.place ≡ k) ⊎ (w.place ≡ k → ⊥) → ((r : Revision) → Passed file b old l r → suc k ≤ w.place → revisions file false r.states ls ≡ Err f) →
          revisions file b old (l ∷ ls) ≡ Err f
      go (inl e) next =
          let u : w.link ≡ l = one_there links w.place k w.link l e w.stands s in
          let h : RevisionBreach file links k l f = subst (λ (x : Link). RevisionBreach file links k x f) u (subst (λ (x : ℕ). RevisionBreach file links x w.link f) e w.breach) in
          rw (breach_revision k old t l s b o f h) refl
      go (inr e) next =
          let p = holds_made file links neat k old t l s b o (w.earlier k l (omega arith) s) in
          rw (passed_revision file b old l p.0 p.1) (rw (next p.0 p.1 (omega arith)) refl)
