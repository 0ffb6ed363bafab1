-- The objects at the entries of a section, and the states that they give.
use Rattle.std.proofs.Common.{◌≡◌, ℕ, zero, suc, ◌-◌, ◌<◌, min, true, ◌&&◌, eqb, List, [], ◌∷◌, length, take, drop, Some, Ok, sym, refl, ◌∙◌, subst, arith, length-take}
use Rattle.std.proofs.lemmas.Bool.{and_parts, eqb-true, eq-eqb}
use Rattle.faults.specs.declared.reason.Reason.TheVariants.{ChainRule}
use Rattle.format.specs.Bytes.{Bytes, ok}
use Rattle.format.specs.Chain.{also, window_bytes, Link}
use Rattle.format.specs.Failures.{chain_fault}
use Rattle.format.specs.Frames.{Framed}
use Rattle.format.specs.Lines.{Slot}
use Rattle.format.specs.Revisions.{State, used, free, nth, frame_in, framed_state, state_of, states_of}
use Rattle.format.specs.Sections.{Listed}
use Rattle.format.specs.Strings.{turns}
use Rattle.chains.proofs.Steps.{by_reading, never_answer, answered}
use Rattle.locality.proofs.Cases.{cases}
use Rattle.tables.proofs.Answered.{also_ok, must_ok}
use Rattle.tables.proofs.Finds.{true_false}
use Rattle.rules.specs.Tables.{ObjectAt, ObjectFits, StateIs}
use Rattle.rules.proofs.FrameForms.{frame_shape, frame_taken}
use Rattle.rules.proofs.Lists.{no_place, same_place}

-- the bytes that an object may take are few
window_small : (file : Bytes) (off at : ℕ) → length (take (min window_bytes (off - at)) (drop at file)) < turns
window_small file off at = let n = length-take (min window_bytes (off - at)) (drop at file) in omega arith

-- an object that bears its number and generation stands there
pub framed_at : (file : Bytes) (off at n g : ℕ) (r : Framed) (q : ℕ) (rest : Bytes) → frame_in file off at ≡ ok r q rest → r.number ≡ n → r.gen ≡ g → ObjectAt file off at n g r.body
unfolding frame_in
framed_at file off at n g r q rest e a b =
    let s = frame_shape at (take (min window_bytes (off - at)) (drop at file)) r q rest (window_small file off at) e in
    subst (λ (y : ℕ). ObjectAt file off at n y r.body) b (subst (λ (x : ℕ). ObjectAt file off at x r.gen r.body) a s)

-- where an object stands, it is read
pub at_framed : (file : Bytes) (off at n g : ℕ) (body : Bytes) (o : ObjectAt file off at n g body) →
    (start end : ℕ) × (rest : Bytes) × (frame_in file off at ≡ ok (record { number = n; gen = g; start = start; body = body }) end rest)
unfolding frame_in
at_framed file off at n g body o =
    let r = frame_taken at n g body (take (min window_bytes (off - at)) (drop at file)) (window_small file off at) o in
    (r.start, r.end, r.rest, r.reads)

framed_state_fact : (file : Bytes) (l : Link) (n : ℕ) (e : Slot) (t : State) → e.in_use ≡ true → framed_state l.sec.offset n e (frame_in file l.sec.offset e.field) ≡ Ok t → StateIs file l n e t
unfolding framed_state
framed_state_fact file l n e t u h =
    by_reading (frame_in file l.sec.offset e.field)
    (λ r q rest g.
    let a = must_ok (eqb r.number n && eqb r.gen e.gen) (chain_fault ChainRule l.sec.offset n) (λ _. Ok (used e.gen r.body)) t (rw g at h) in
    let b = and_parts (eqb r.number n) (eqb r.gen e.gen) a.0 in
    let w : used e.gen r.body ≡ t = answered a.1 in
    subst (λ (x : State). StateIs file l n e x) w
    (u, refl, framed_at file l.sec.offset e.field n e.gen r q rest g (eqb-true r.number n b.0) (eqb-true r.gen e.gen b.1)))
    (λ f g. never_answer (rw g at h))

-- the state that an entry is read as, is the one that it gives
pub state_given : (file : Bytes) (l : Link) (n : ℕ) (e : Slot) (t : State) → state_of file l.sec.offset n e ≡ Ok t → StateIs file l n e t
unfolding state_of
state_given file l n e t h =
    cases e.in_use
    (λ u. framed_state_fact file l n e t u (rw (u, state_of) at h))
    (λ u.
    let w : free e.gen e.field ≡ t = answered (rw (u, state_of) at h) in
    subst (λ (x : State). StateIs file l n e x) w (u, refl, refl))

pub given_state : (file : Bytes) (l : Link) (n : ℕ) (e : Slot) (t : State) → StateIs file l n e t → state_of file l.sec.offset n e ≡ Ok t
unfolding state_of framed_state
given_state file l n e (used g b) (u, q, o) =
    rw (u, state_of)
    (rw (at_framed file l.sec.offset e.field n e.gen b o).3 (rw (eq-eqb n n refl) (rw (eq-eqb e.gen e.gen refl) (λ i. Ok (used (sym q i) b)))))
given_state file l n e (free g x) (u, q, v) = rw (u, state_of) (λ i. Ok (free (sym q i) (sym v i)))

-- an entry gives one state
pub state_once : (file : Bytes) (l : Link) (n : ℕ) (e : Slot) (s t : State) → StateIs file l n e s → StateIs file l n e t → s ≡ t
state_once file l n e s t a b = answered (sym (given_state file l n e s a) ∙ given_state file l n e t b)

-- an entry whose object fits gives a state
pub object_state : (file : Bytes) (l : Link) (n : ℕ) (e : Slot) → ObjectFits file l n e → (t : State) × StateIs file l n e t
object_state file l n e f =
    cases e.in_use
    (λ u. let w = f u in (used e.gen w.0, (u, refl, w.1)))
    (λ u. (free e.gen e.field, (u, refl, refl)))

pub state_object : (file : Bytes) (l : Link) (n : ℕ) (e : Slot) (t : State) → StateIs file l n e t → ObjectFits file l n e
state_object file l n e (used g b) a u = (b, a.2)
state_object file l n e (free g x) a u = true_false (sym u ∙ a.0)

-- the objects of rows
abbrev pub RowsRead : Bytes → Link → Listed → Type 0
RowsRead file l rs = (n : ℕ) (e : Slot) → (i : ℕ) × (nth i rs ≡ Some (n, e)) → ObjectFits file l n e

pub states_read : (file : Bytes) (l : Link) (rs : Listed) (ts : List (ℕ × State)) → states_of file l.sec.offset rs ≡ Ok ts → RowsRead file l rs
unfolding states_of nth
states_read file l [] ts h n e (i, q) = no_place i q
states_read file l (r ∷ rs) ts h n e (zero, q) =
    let a = also_ok (state_of file l.sec.offset r.0 r.1) (λ t. also (states_of file l.sec.offset rs) (λ xs. Ok ((r.0, t) ∷ xs))) ts h in
    let w : r ≡ (n, e) = same_place q in
    subst (λ (x : ℕ × Slot). ObjectFits file l x.0 x.1) w (state_object file l r.0 r.1 a.0 (state_given file l r.0 r.1 a.0 a.1))
states_read file l (r ∷ rs) ts h n e (suc i, q) =
    let a = also_ok (state_of file l.sec.offset r.0 r.1) (λ t. also (states_of file l.sec.offset rs) (λ xs. Ok ((r.0, t) ∷ xs))) ts h in
    let b = also_ok (states_of file l.sec.offset rs) (λ xs. Ok ((r.0, a.0) ∷ xs)) ts a.2 in
    states_read file l rs b.0 b.1 n e (i, q)

pub read_states : (file : Bytes) (l : Link) (rs : Listed) → RowsRead file l rs → (ts : List (ℕ × State)) × (states_of file l.sec.offset rs ≡ Ok ts)
unfolding states_of nth
read_states file l [] f = ([], refl)
read_states file l (r ∷ rs) f =
    let a = object_state file l r.0 r.1 (f r.0 r.1 (0, refl)) in
    let b = read_states file l rs (λ n e w. f n e (suc w.0, w.1)) in
    ((r.0, a.0) ∷ b.0, rw (given_state file l r.0 r.1 a.0 a.1) (rw b.1 refl))
