-- Two files whose first m bytes are the same: what sections up to m list is read alike.
use Rattle.std.proofs.Common.{◌≡◌, ℕ, ◌-◌, ◌≤◌, min, Bool, false, List, [], ◌∷◌, take, drop, sym, refl, ap, ◌∙◌, arith}
use Rattle.stores.proofs.Windows.{front_window}
use Rattle.format.specs.Bytes.{Bytes}
use Rattle.format.specs.Chain.{window_bytes, Link}
use Rattle.format.specs.Lines.{Slot}
use Rattle.format.specs.Sections.{Listed, listed}
use Rattle.format.specs.Revisions.{State, frame_in, state_of, states_of, revision, revisions}
use Rattle.chains.proofs.Steps.{also_same}
use Rattle.locality.proofs.Cases.{cases}

-- sections that start at m or before
abbrev pub AllUnder : ℕ → List Link → Type 0
AllUnder m [] = Unit {0}
AllUnder m (l ∷ ls) = (l.sec.offset ≤ m) × AllUnder m ls

module _ (file file' : Bytes) (m : ℕ) (same : take m file ≡ take m file') where
  -- a window that ends by m
  pub window_agrees : (at n : ℕ) → n ≤ m - at → take n (drop at file) ≡ take n (drop at file')
  window_agrees at n h = sym (front_window file m at n h) ∙ ap (λ xs. take n (drop at xs)) same ∙ front_window file' m at n h

  -- an object that a section up to m lists
  pub frame_agrees : (off at : ℕ) → off ≤ m → frame_in file off at ≡ frame_in file' off at
  unfolding frame_in
  frame_agrees off at h = rw (window_agrees at (min window_bytes (off - at)) (omega arith)) refl

  pub state_agrees : (off n : ℕ) (s : Slot) → off ≤ m → state_of file off n s ≡ state_of file' off n s
  unfolding state_of
  state_agrees off n s h =
      cases s.in_use
      (λ e. rw (e, state_of) (rw (frame_agrees off s.field h) refl))
      (λ e. rw (e, state_of) refl)

  pub states_agree : (off : ℕ) (rs : Listed) → off ≤ m → states_of file off rs ≡ states_of file' off rs
  unfolding states_of
  states_agree off [] h = refl
  states_agree off (r ∷ rs) h = rw (state_agrees off r.0 r.1 h, states_agree off rs h) refl

  pub revision_agrees : (oldest : Bool) (old : List State) (l : Link) → l.sec.offset ≤ m → revision file oldest old l ≡ revision file' oldest old l
  unfolding revision
  revision_agrees oldest old l h = rw (states_agree l.sec.offset (listed l.sec.subsections) h) refl

  -- the revisions of sections that start at m or before
  pub revisions_agree : (oldest : Bool) (old : List State) (ls : List Link) → AllUnder m ls → revisions file oldest old ls ≡ revisions file' oldest old ls
  unfolding revisions
  revisions_agree oldest old [] h = refl
  revisions_agree oldest old (l ∷ ls) h =
      rw (revision_agrees oldest old l h.0)
      (also_same (revision file' oldest old l) _ _ (λ r e. rw (revisions_agree false r.states ls h.1) refl))
