-- The chain of sections, link by link.
use Rattle.std.proofs.Common.{◌≡◌, ℕ, suc, ◌+◌, ◌-◌, ◌<◌, ◌≤◌, true, false, ltb, List, [], ◌∷◌, ◌++◌, ℤ, pos, negsuc, IfSome, Some, None, Ok, Err, Option, sym, refl, ap, ◌∙◌, arith, ltb-true, le-ltb, lt-ltb}
use Rattle.faults.specs.declared.fault.Fault.{Fault}
use Rattle.faults.specs.declared.reason.Reason.TheVariants.{ChainRule, FileBound}
use Rattle.format.specs.Bytes.{Bytes}
use Rattle.format.specs.Chain.{Answer, also, must, Link, below, before, link, walk}
use Rattle.format.specs.Failures.{chain_fault}
use Rattle.format.specs.Revisions.{most_revisions}
use Rattle.opening.specs.Held.{Rows}
use Rattle.locality.proofs.Cases.{cases, cases_o}
use Rattle.tables.proofs.Answered.{err_ok}
use Rattle.tables.proofs.Finds.{some_none}
use Rattle.records.specs.declared.chain.Ending.{Ending}
use Rattle.records.specs.declared.chain.Ending.TheVariants.{By}
use Rattle.records.specs.declared.link.Link as code
use Rattle.records.specs.Chained.{may_end, ReadsNext, LinkedFrom}
use Rattle.records.specs.Linked.{LinkRead}
use Rattle.records.specs.Links.{link_at}
use Rattle.records.proofs.Stepping.{linked, link_by}

-- Prev
pub prev_none : (off : ℕ) → before off None ≡ Ok None
unfolding before
prev_none off = refl

pub prev_negative : (off n : ℕ) → before off (Some (negsuc n)) ≡ Err (chain_fault ChainRule off 0)
unfolding before below
prev_negative off n = refl

pub prev_high : (off n : ℕ) → off ≤ n → before off (Some (pos n)) ≡ Err (chain_fault ChainRule off 0)
unfolding before below
prev_high off n l = let e : below off (pos n) ≡ None = rw (le-ltb n off l, below) refl in rw (e, before) refl

pub prev_low : (off n : ℕ) → n < off → before off (Some (pos n)) ≡ Ok (Some n)
unfolding before below
prev_low off n l = let e : below off (pos n) ≡ Some n = rw (lt-ltb n off l, below) refl in rw (e, before) refl

below_less : (off : ℕ) (z : ℤ) (n : ℕ) → below off z ≡ Some n → n < off
unfolding below
below_less off (pos m) n e =
    cases (ltb m off)
    (λ q. let w : Some m ≡ Some n = rw (q, below) at e in let v : m ≡ n = cc in let l = ltb-true m off q in omega arith)
    (λ q. some_none (sym (rw (q, below) at e)))
below_less off (negsuc m) n e = some_none (sym e)

prev_lower : (off : ℕ) (p : Option ℤ) (b : Option ℕ) → before off p ≡ Ok b → IfSome b (λ n. n < off)
unfolding before
prev_lower off None b e = let w : ◌≡◌ {A = Answer (Option ℕ)} (Ok None) (Ok b) = e in let v : None ≡ b = cc in rw (← v) tt
prev_lower off (Some z) b e =
    cases_o (below off z)
    (λ q. err_ok (rw (q, before) at e))
    (λ n q. let w : ◌≡◌ {A = Answer (Option ℕ)} (Ok (Some n)) (Ok b) = rw (q, before) at e in let v : Some n ≡ b = cc in rw (← v) (below_less off z n q))

-- a link of the chain
module _ (file : Bytes) (off : ℕ) (ending : Ending) where
  pub next_bad : (f : Fault) → link_at file off ≡ Err f → link file off (may_end ending) ≡ Err f
  next_bad f e = link_by file off (may_end ending) ∙ rw e refl

  module _ (rows : Rows) (k : code.Link) (l : LinkRead file off rows k) where
    next_linked : link file off (may_end ending) ≡ also (before off k.told.prev) (λ b. must (may_end ending k.end) (chain_fault ChainRule off 0) (λ _. Ok (l.tree, b)))
    next_linked =
        link_by file off (may_end ending)
        ∙ ap (λ (a : Answer Link). also a (linked (may_end ending))) l.is
        ∙ (λ i. also (before (l.offset i) (l.says i).prev) (λ b. must (may_end ending (l.ends i)) (chain_fault ChainRule (l.offset i) 0) (λ _. Ok (l.tree, b))))

    pub next_no_prev : (f : Fault) → Err f ≡ before off k.told.prev → link file off (may_end ending) ≡ Err f
    next_no_prev f e = next_linked ∙ rw (← e) refl

    pub next_no_end : (b : Option ℕ) → Ok b ≡ before off k.told.prev → may_end ending k.end ≡ false → link file off (may_end ending) ≡ Err (chain_fault ChainRule off 0)
    next_no_end b e m = next_linked ∙ rw (← e, m) refl

    pub next_read : (b : Option ℕ) → Ok b ≡ before off k.told.prev → may_end ending k.end ≡ true → ReadsNext file off ending (Ok b)
    next_read b e m = ((l.tree, l.is, next_linked ∙ rw (← e, m) refl), prev_lower off k.told.prev b (sym e))

-- the walk, with the offsets that it holds
abbrev pub Walking : Bytes → ℕ → Ending → ℕ → ℕ → Ending → List ℕ → Type 0
Walking file newest first v off ending offs =
    (newer : List Link) × (walk most_revisions file newest (may_end first) [] ≡ walk (64 - v) file off (may_end ending) newer) × LinkedFrom file off newer offs

module _ (file : Bytes) (newest v off : ℕ) (first ending : Ending) (offs : List ℕ) (h : v < 64) (w : Walking file newest first v off ending offs) where
  more : 64 - v ≡ suc (64 - (v + 1))
  more = omega arith

  pub walk_stop : (f : Fault) → link file off (may_end ending) ≡ Err f → walk most_revisions file newest (may_end first) [] ≡ Err f
  unfolding walk
  walk_stop f e = w.1 ∙ rw (more, e, walk) refl

  pub walk_last : (after : List ℕ) → after ≡ offs ++ off ∷ [] → ReadsNext file off ending (Ok None) → (ls : List Link) × (walk most_revisions file newest (may_end first) [] ≡ Ok ls) × LinkedFrom file 0 ls after
  unfolding walk
  walk_last after a r = (r.0.0 ∷ w.0, w.1 ∙ rw (more, r.0.2, walk) refl, (off, offs, a, omega arith, r.0.1, w.2))

  pub walk_on : (after : List ℕ) (place : ℕ) → after ≡ offs ++ off ∷ [] → ReadsNext file off ending (Ok (Some place)) → Walking file newest first (v + 1) place (By off) after
  unfolding walk
  walk_on after place a r = (r.0.0 ∷ w.0, w.1 ∙ rw (more, r.0.2, walk) refl, (off, offs, a, omega (arith, r.1), r.0.1, w.2))

pub walk_out : (file : Bytes) (newest v off : ℕ) (first ending : Ending) (offs : List ℕ) → 64 ≤ v → Walking file newest first v off ending offs → walk most_revisions file newest (may_end first) [] ≡ Err (chain_fault FileBound 0 0)
unfolding walk
walk_out file newest v off first ending offs h w = let z : 64 - v ≡ 0 = omega arith in w.1 ∙ rw (z, walk) refl

-- what was said of an answer, by its value
pub read_as : (file : Bytes) (off : ℕ) (ending : Ending) (b c : Option ℕ) → b ≡ c → ReadsNext file off ending (Ok b) → ReadsNext file off ending (Ok c)
read_as file off ending b c e r = rw e at r

pub walking_as : (file : Bytes) (newest v u off : ℕ) (first ending : Ending) (offs : List ℕ) → v ≡ u → Walking file newest first v off ending offs → Walking file newest first u off ending offs
walking_as file newest v u off first ending offs e w = rw e at w
