-- A section that lists what an update lists makes the revision that shows what the update leaves. Assumes nothing.
use Rattle.std.proofs.Common.{◌≡◌, ℕ, Bool, true, false, ◌&&◌, List, [], ◌∷◌, length, pos, Some, Ok, sym, refl, ap, ◌∙◌, subst, eq-eqb}
use Rattle.faults.specs.declared.fault.Fault.{Fault}
use Rattle.faults.specs.declared.reason.Reason.TheVariants.{ChainRule}
use Rattle.format.specs.Bytes.{Bytes}
use Rattle.format.specs.Chain.{Answer, also, must, Link}
use Rattle.format.specs.Failures.{chain_fault}
use Rattle.format.specs.Lines.{Slot}
use Rattle.format.specs.Revisions.{State, used, free, Revision, find, highest, size_is, slots_fit, frame_in, framed_state, state_of, states_of, covered, overlaid, root_fits, revision}
use Rattle.format.specs.Sections.{Listed, listed}
use Rattle.format.specs.Updates.{body, Update, shown_all, objects_of, applied}
use Rattle.format.specs.Writing.{new_size}
use Rattle.tables.specs.Rows.{rows_of, section_at, Written, RowsWritten, body_in, state_by, states_by}
use Rattle.tables.specs.Statements.{MeetsRules, table_after, LeavesSaid, Lists, made_by, RowsMakeTheRevision}
use Rattle.tables.proofs.Rules.{rules_met}
use Rattle.tables.proofs.Applied.{leaves_said}
use Rattle.locality.proofs.Cases.{cases}

state_used : (file : Bytes) (off n : ℕ) (s : Slot) → s.in_use ≡ true → state_of file off n s ≡ framed_state off n s (frame_in file off s.field)
unfolding state_of
state_used file off n s q =
    subst
    (λ (b : Bool).
    ◌≡◌ {A = Answer State} (elim b [ false ↦ Ok (free s.gen s.field) | true ↦ framed_state off n s (frame_in file off s.field) ])
    (framed_state off n s (frame_in file off s.field))) (sym q) refl

state_free : (file : Bytes) (off n : ℕ) (s : Slot) → s.in_use ≡ false → state_of file off n s ≡ Ok (free s.gen s.field)
unfolding state_of
state_free file off n s q = rw (q, state_of) refl

by_used : (u : Update) (n : ℕ) (s : Slot) (b : Bytes) → s.in_use ≡ true → find n u ≡ Some (body b) → state_by u n s ≡ used s.gen b
unfolding state_by body_in
by_used u n s b q e = rw (q, state_by) (rw e refl)

by_free : (u : Update) (n : ℕ) (s : Slot) → s.in_use ≡ false → state_by u n s ≡ free s.gen s.field
unfolding state_by
by_free u n s q = rw (q, state_by) refl

row_state : (u : Update) (old : List State) (at : ℕ) (objects file : Bytes) (off n : ℕ) (s : Slot) →
    (s.in_use ≡ true → Written old u at objects n s) →
    (s.in_use ≡ true → (w : Written old u at objects n s) → framed_state off n s (frame_in file off s.field) ≡ Ok (used s.gen w.content)) →
    state_of file off n s ≡ Ok (state_by u n s)
row_state u old at objects file off n s w h =
    cases s.in_use
    (λ q.
    let x : Written old u at objects n s = w q in
    let y : state_by u n s ≡ used s.gen x.content = by_used u n s x.content q x.put in
    state_used file off n s q ∙ h q x ∙ ap {B = Answer State} (λ z. Ok z) (sym y))
    (λ q. state_free file off n s q ∙ ap {B = Answer State} (λ z. Ok z) (sym (by_free u n s q)))

-- Where each object that the rows tell of reads as it was put, the rows read as the states that they make.
pub rows_states : (u : Update) (old : List State) (at : ℕ) (objects file : Bytes) (off : ℕ) →
    ((n : ℕ) (s : Slot) → s.in_use ≡ true → (w : Written old u at objects n s) → framed_state off n s (frame_in file off s.field) ≡ Ok (used s.gen w.content)) →
    (rows : Listed) → RowsWritten old u at objects rows → states_of file off rows ≡ Ok (states_by u rows)
unfolding states_of states_by
rows_states u old at objects file off h [] w = refl
rows_states u old at objects file off h (r ∷ rs) w =
    rw (row_state u old at objects file off r.0 r.1 w.0 (h r.0 r.1))
    (rw (rows_states u old at objects file off h rs w.1) refl)

pack : {X : Type 0} (b₁ : Bool) (f₁ : Fault) (x₂ : Answer (Unit {0})) (b₃ : Bool) (f₃ : Fault) (b₄ : Bool) (f₄ : Fault) (x₅ : Answer X) (k : X → Revision) (ts : X) →
    b₁ ≡ true → x₂ ≡ Ok tt → b₃ ≡ true → b₄ ≡ true → x₅ ≡ Ok ts →
    must b₁ f₁ (λ _. also x₂ (λ _. must b₃ f₃ (λ _. must b₄ f₄ (λ _. also x₅ (λ t. Ok (k t)))))) ≡ Ok (k ts)
pack b₁ f₁ x₂ b₃ f₃ b₄ f₄ x₅ k ts p q r s t = rw (p, q, r, s, t) refl

size_is_fact : (n : ℕ) → size_is (pos n) n ≡ true
unfolding size_is
size_is_fact n = eq-eqb n n refl

both : {a b : Bool} → a ≡ true → b ≡ true → a && b ≡ true
both {a} {b} e f = λ i. e i && f i

pub revision_made : (file : Bytes) (r : Revision) (u : Update) (len : ℕ) (l : Link) → MeetsRules r u len → Lists l len r u →
    states_of file (section_at len r u) (rows_of len r u) ≡ Ok (states_by u (rows_of len r u)) →
    revision file false r.states l ≡ Ok (made_by len r u l.sec.end l.sec.trailer)
unfolding revision
revision_made file r u len l M T e =
    let new : Listed = listed l.sec.subsections in
    let off : ℕ = l.sec.offset in
    let old : List State = r.states in
    let size : ℕ = highest (length r.states) (listed l.sec.subsections) in
    let er : listed l.sec.subsections ≡ rows_of len r u = T.rows in
    let eo : l.sec.offset ≡ section_at len r u = T.offset in
    let es : l.says.size ≡ pos (new_size r u) = T.size in
    let en : l.says.root ≡ r.root = T.root.0 in
    let eg : l.says.root_gen ≡ r.root_gen = T.root.1 in
    let eh : highest (length r.states) (listed l.sec.subsections) ≡ new_size r u = rw er M.size in
    let fit : slots_fit l.sec.offset l.says.size (listed l.sec.subsections) ≡ Ok tt = rw (er, eo, es) M.fit in
    let sz : size_is l.says.size (highest (length r.states) (listed l.sec.subsections)) ≡ true = rw (eh, es) (size_is_fact (new_size r u)) in
    let cov : covered (highest (length r.states) (listed l.sec.subsections)) 0 (listed l.sec.subsections) (length r.states) ≡ true = rw eh (rw er M.covers) in
    let rt : root_fits l.says.root l.says.root_gen (listed l.sec.subsections) r.states ≡ true = rw (er, en, eg) M.root in
    let sts : states_of file l.sec.offset (listed l.sec.subsections) ≡ Ok (states_by u (rows_of len r u)) = rw (er, eo) e in
    let make : List (ℕ × State) → Revision =
    λ ts. record { offset = l.sec.offset; end = l.sec.end; size = size; root = l.says.root; root_gen = l.says.root_gen; trailer = l.sec.trailer; states = overlaid size 0 ts old } in
    pack {X = List (ℕ × State)} true (chain_fault ChainRule off 0) (slots_fit off l.says.size new)
    (size_is l.says.size size && covered size 0 new (length old)) (chain_fault ChainRule off 0)
    (root_fits l.says.root l.says.root_gen new old) (chain_fault ChainRule off l.says.root)
    (states_of file off new) make (states_by u (rows_of len r u)) refl fit (both sz cov) rt sts
    ∙ (λ i. Ok (record { offset = eo i; end = l.sec.end; size = eh i; root = en i; root_gen = eg i; trailer = l.sec.trailer; states = overlaid (eh i) 0 (states_by u (rows_of len r u)) r.states }))

pub made_shows : (r : Revision) (u : Update) (len : ℕ) (l : Link) → LeavesSaid r u len → objects_of (made_by len r u l.sec.end l.sec.trailer) ≡ applied u (objects_of r)
unfolding objects_of
made_shows r u len l L =
    let z : new_size r u ≡ (applied u (objects_of r)).size = sym L.size in
    let y : shown_all (table_after len r u) ≡ (applied u (objects_of r)).numbers = L.shows in
    λ i. record { size = z i; numbers = y i }

pub rows_make : RowsMakeTheRevision
rows_make file r u len l S A h T e =
    let L : LeavesSaid r u len = leaves_said r u len S A in (
      revision_made file r u len l (rules_met r u len S A h) T e,
      made_shows r u len l L,
      L.links,
      L.sound (made_by len r u l.sec.end l.sec.trailer) refl refl refl refl,
    )
