-- A revision, and a link of the chain, check by check.
use Rattle.std.proofs.Common.{◌≡◌, ℕ, Bool, true, false, ◌&&◌, List, length, Ok, Err, Option, refl}
use Rattle.faults.specs.declared.fault.Fault.{Fault}
use Rattle.faults.specs.declared.reason.Reason.TheVariants.{ChainRule}
use Rattle.format.specs.Bytes.{Bytes}
use Rattle.format.specs.Chain.{Answer, also, must, Told, told, in_bound, Link, before, section_in, checked_section, link}
use Rattle.format.specs.Failures.{chain_fault}
use Rattle.format.specs.Revisions.{State, highest, size_is, slots_fit, states_of, covered, one_from_zero, root_fits, revision}
use Rattle.format.specs.Sections.{Listed, listed, Section}
use Rattle.chains.proofs.Steps.{by_reading}
use Rattle.locality.proofs.Cases.{cases, cases_o}
use Rattle.records.specs.Links.{link_of, link_at, subs_fit, rows_checked, revision_by}

-- four checks, and what follows
four : {X N R : Type 0} (b₁ : Bool) (f₁ : Fault) (s : Answer X) (b₂ : Bool) (f₂ : Fault) (b₃ : Bool) (f₃ : Fault) (n : N) (g : N → Answer R) →
    must b₁ f₁ (λ _. also s (λ _. must b₂ f₂ (λ _. must b₃ f₃ (λ _. g n)))) ≡ also (must b₁ f₁ (λ _. also s (λ _. must b₂ f₂ (λ _. must b₃ f₃ (λ _. Ok n))))) g
four false f₁ s b₂ f₂ b₃ f₃ n g = refl
four true f₁ (Err e) b₂ f₂ b₃ f₃ n g = refl
four true f₁ (Ok x) false f₂ b₃ f₃ n g = refl
four true f₁ (Ok x) true f₂ false f₃ n g = refl
four true f₁ (Ok x) true f₂ true f₃ n g = refl

checks_then : {R : Type 0} (fits : Bool) (off : ℕ) (t : Told) (new : Listed) (old : List State) (g : ℕ → Answer R) →
    must fits (chain_fault ChainRule off 0)
    (λ _.
    also (slots_fit off t.size new)
    (λ _.
    must (size_is t.size (highest (length old) new) && covered (highest (length old) new) 0 new (length old)) (chain_fault ChainRule off 0)
    (λ _. must (root_fits t.root t.root_gen new old) (chain_fault ChainRule off t.root) (λ _. g (highest (length old) new)))))
    ≡ also (rows_checked fits off t new old) g
unfolding rows_checked
checks_then fits off t new old g =
    four fits (chain_fault ChainRule off 0) (slots_fit off t.size new) (size_is t.size (highest (length old) new) && covered (highest (length old) new) 0 new (length old)) (chain_fault ChainRule off 0) (root_fits t.root t.root_gen new old) (chain_fault ChainRule off t.root) (highest (length old) new) g

-- a revision: the checks of what its section lists, then the objects
pub revision_by_fact : (file : Bytes) (oldest : Bool) (old : List State) (l : Link) →
    revision file oldest old l
    ≡ also (rows_checked (subs_fit oldest l.sec.subsections) l.sec.offset l.says (listed l.sec.subsections) old)
    (λ n. also (states_of file l.sec.offset (listed l.sec.subsections)) (λ ts. Ok (revision_by l n ts old)))
unfolding revision subs_fit
revision_by_fact file true old l = checks_then (one_from_zero l.sec.subsections) l.sec.offset l.says (listed l.sec.subsections) old (λ n. also (states_of file l.sec.offset (listed l.sec.subsections)) (λ ts. Ok (revision_by l n ts old)))
revision_by_fact file false old l = checks_then true l.sec.offset l.says (listed l.sec.subsections) old (λ n. also (states_of file l.sec.offset (listed l.sec.subsections)) (λ ts. Ok (revision_by l n ts old)))

-- a link of the chain: its section, then Prev and its end
abbrev pub linked : (ℕ → Bool) → Link → Answer (Link × Option ℕ)
linked fits l = also (before l.sec.offset l.says.prev) (λ b. must (fits l.sec.end) (chain_fault ChainRule l.sec.offset 0) (λ _. Ok (l, b)))

link_of_fact : (fits : ℕ → Bool) (s : Section) → checked_section fits s ≡ also (link_of s) (linked fits)
unfolding checked_section link_of
link_of_fact fits s =
    cases (in_bound (listed s.subsections))
    (λ q. cases_o (told s.trailer) (λ t. rw (q, t) refl) (λ x t. rw (q, t) refl))
    (λ q. rw q refl)

pub link_by : (file : Bytes) (off : ℕ) (fits : ℕ → Bool) → link file off fits ≡ also (link_at file off) (linked fits)
unfolding link link_at
link_by file off fits = by_reading (section_in file off) (λ s e rest q. rw (q, link, link_at) (link_of_fact fits s)) (λ f q. rw (q, link, link_at) refl)
