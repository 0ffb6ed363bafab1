-- The objects of a section, row by row.
use Rattle.std.proofs.Common.{◌≡◌, ℕ, zero, suc, ◌+◌, ◌-◌, ◌^◌, ◌<◌, ◌≤◌, min, true, ltb, leb, List, [], ◌∷◌, ◌++◌, length, get_or, take, drop, ℤ, Ok, Err, Result, MatchResult, sym, refl, ap, ◌∙◌, append_assoc, arith, length-drop, length-take, ltb-true, eq-eqb}
use Rattle.std.proofs.lemmas.List.{append-nil, at_drop_more, at_drop_all, drop-drop, map_push, take_more}
use Rattle.std.specs.Result.{IsErrAnd}
use Rattle.faults.specs.declared.fault.Fault.{Fault}
use Rattle.faults.specs.declared.reason.Reason.TheVariants.{ChainRule}
use Rattle.faults.specs.Faults.{of_object}
use Rattle.format.specs.Bytes.{Bytes, Got, bad}
use Rattle.format.specs.Chain.{Answer, also, window_bytes}
use Rattle.format.specs.Failures.{chain_fault}
use Rattle.format.specs.Frames.{Framed, frame}
use Rattle.format.specs.Revisions.{State, used, free, slot_fits, slots_fit, frame_in, framed_state, state_of, states_of}
use Rattle.format.specs.Writing.{used_slot, free_slot}
use Rattle.entries.specs.declared.cell.Cell.{Cell}
use Rattle.entries.specs.declared.entry.Row.{Row}
use Rattle.entries.specs.Cells.{part, state_in, EndsBy, AllEndBy}
use Rattle.entries.specs.Rows.{rows_of, slot_of}
use Rattle.locality.proofs.Tests.{and_right}
use Rattle.objects.specs.declared.frame.Frame.{Frame}
use Rattle.objects.specs.Framing.{framed_at, FrameLies}
use Rattle.stores.proofs.Windows.{front_window}
use Rattle.tables.proofs.Answered.{must_ok}
use Rattle.records.specs.Laid.{cells_in, numbers_in, states_by}
use Rattle.records.specs.Listing.{numbers_of}
use Rattle.records.specs.Objects.{state_read, FramedCell}
use Rattle.records.proofs.Answering.{also_same, also_made}
use Rattle.records.proofs.Listings.{used_rule}

-- the places of a window are counted in 64 bits where those of the file are
pub window_counts : (file src : Bytes) (at m : ℕ) → src ≡ take m (drop at file) → length file < 2 ^ 64 → at < 2 ^ 64 → at + length src < 2 ^ 64
window_counts file src at m w h l =
    let q = ap length w ∙ length-take m (drop at file) in
    let d = length-drop at file in
    omega arith

-- the same answer, where a refusal names the object n
abbrev pub Named : {T : Type 0} → ℕ → Result T Fault → Result T Fault → Type 0
Named n r s = MatchResult r (λ x. s ≡ Ok x) (λ f. IsErrAnd s (λ h. h ≡ of_object n f))

pub named_ok : {T : Type 0} (n : ℕ) (r s : Result T Fault) (x : T) → Named n r s → s ≡ Ok x → r ≡ Ok x
named_ok n (Ok y) s x m e = cc
named_ok n (Err f) (Ok y) x m e = absurd m
named_ok n (Err f) (Err h) x m e = absurd (let z : ◌≡◌ {A = ℕ} 0 1 = cc in omega arith)

pub named_err : {T : Type 0} (n : ℕ) (r s : Result T Fault) (h : Fault) → Named n r s → s ≡ Err h → (f : Fault) × (r ≡ Err f) × (h ≡ of_object n f)
named_err n (Ok y) s h m e = absurd (let z : ◌≡◌ {A = ℕ} 0 1 = cc in omega arith)
named_err n (Err f) (Ok y) h m e = absurd m
named_err n (Err f) (Err i) h m e = let j : h ≡ i = cc in (f, refl, rw j m)

-- a part of a window is that part of the file
window_part : (file : Bytes) (at m s e : ℕ) → at ≤ s → e ≤ at + m → take (e - s) (drop (s - at) (take m (drop at file))) ≡ part file s e
window_part file at m s e a b =
    let z : at + (s - at) ≡ s = omega arith in
    front_window (drop at file) m (s - at) (e - s) (omega arith)
    ∙ ap (take (e - s)) (drop-drop (s - at) at file ∙ ap (λ (k : ℕ). drop k file) z)

-- the entry of the number n in use at a place, with the generation g, and the window from that place on
module _ (file : Bytes) (off n at g : ℕ) (src : Bytes) (w : src ≡ take (min (off - at) window_bytes) (drop at file)) where
  -- an entry in use is what its frame says
  by_frame : (x : Got Framed) → frame at src ≡ x → state_of file off n (used_slot at g) ≡ framed_state off n (used_slot at g) x
  unfolding state_of frame_in framed_state
  by_frame x e =
      let z : min window_bytes (off - at) ≡ min (off - at) window_bytes = omega arith in
      ap (framed_state off n (used_slot at g)) (ap (λ (m : ℕ). frame at (take m (drop at file))) z ∙ ap (frame at) (sym w) ∙ e)

  pub frame_refused : (f : Fault) → framed_at at src (Err f) ≡ frame at src → state_of file off n (used_slot at g) ≡ Err (of_object n f)
  unfolding framed_state
  frame_refused f e = by_frame (bad f) (sym e)

  same_body : (f : Frame) → FrameLies at (length src) f → take (f.end - f.start) (drop (f.start - at) src) ≡ part file f.start f.end
  same_body f l =
      let q = ap length w ∙ length-take (min (off - at) window_bytes) (drop at file) in
      ap (λ (t : Bytes). take (f.end - f.start) (drop (f.start - at) t)) w
      ∙ window_part file at (min (off - at) window_bytes) f.start f.end l.0 (omega arith)

  pub frame_read : (f : Frame) (r : Result Cell Fault) → framed_at at src (Ok f) ≡ frame at src → FrameLies at (length src) f → FramedCell off n g f r →
      state_of file off n (used_slot at g) ≡ state_read file r
  unfolding framed_state
  frame_read f (Ok c) e l k =
      by_frame _ (sym e)
      ∙ rw (eq-eqb f.number n k.0) (rw (eq-eqb f.generation g k.1) (rw k.2 (ap (λ (b : Bytes). Ok (used g b)) (same_body f l))))
  frame_read f (Err x) e l k = by_frame _ (sym e) ∙ rw (k.0, k.1) refl

-- a free entry is what it says itself
pub free_read : (file : Bytes) (off n next g : ℕ) → state_of file off n (free_slot next g) ≡ Ok (free g next)
unfolding state_of
free_read file off n next g = refl

-- the answers of the rows before are those read, and those of the others are still to come
abbrev pub ReadSo : Bytes → ℕ → List Row → ℕ → List (ℕ × Cell) → Type 0
ReadSo file off rows i cells = states_of file off (rows_of rows) ≡ also (states_of file off (rows_of (drop i rows))) (λ ts. Ok (states_by file cells ++ ts))

states_push : (file : Bytes) (cs : List (ℕ × Cell)) (c : ℕ × Cell) → states_by file (cs ++ c ∷ []) ≡ states_by file cs ++ (c.0, state_in file c.1) ∷ []
unfolding states_by
states_push file [] c = refl
states_push file (x ∷ xs) c = ap (λ (t : List (ℕ × State)). (x.0, state_in file x.1) ∷ t) (states_push file xs c)

pub read_start : (file : Bytes) (off : ℕ) (rows : List Row) → ReadSo file off rows 0 []
unfolding states_by
read_start file off rows = also_same (states_of file off (rows_of rows))

module _ (file : Bytes) (off : ℕ) (rows : List Row) (i : ℕ) (d : Row) (h : i < length rows) (cells : List (ℕ × Cell)) where
  states_rest : (t : State) → state_of file off (get_or rows i d).number (slot_of (get_or rows i d).entry) ≡ Ok t →
      states_of file off (rows_of (drop i rows)) ≡ also (states_of file off (rows_of (drop (i + 1) rows))) (λ ts. Ok (((get_or rows i d).number, t) ∷ ts))
  unfolding states_of
  states_rest t e = at_drop_more (λ rs. states_of file off (rows_of rs)) rows i d h ∙ rw e refl

  read_on : (c : Cell) → state_of file off (get_or rows i d).number (slot_of (get_or rows i d).entry) ≡ Ok (state_in file c) → ReadSo file off rows i cells → ReadSo file off rows (i + 1) (cells ++ ((get_or rows i d).number, c) ∷ [])
  read_on c e so =
      so
      ∙ ap (λ (x : Answer (List (ℕ × State))). also x (λ ts. Ok (states_by file cells ++ ts))) (states_rest (state_in file c) e)
      ∙ also_made (states_of file off (rows_of (drop (i + 1) rows))) (λ ts. ((get_or rows i d).number, state_in file c) ∷ ts) (λ ts. states_by file cells ++ ts) (λ ts. states_by file (cells ++ ((get_or rows i d).number, c) ∷ []) ++ ts)
      (λ ts. sym (append_assoc (states_by file cells) (((get_or rows i d).number, state_in file c) ∷ []) ts) ∙ ap (λ (t : List (ℕ × State)). t ++ ts) (sym (states_push file cells ((get_or rows i d).number, c))))

  pub read_stop : (f : Fault) → state_of file off (get_or rows i d).number (slot_of (get_or rows i d).entry) ≡ Err f → ReadSo file off rows i cells → states_of file off (rows_of rows) ≡ Err f
  unfolding states_of
  read_stop f e so =
      let z : states_of file off (rows_of (drop i rows)) ≡ Err f = at_drop_more (λ rs. states_of file off (rows_of rs)) rows i d h ∙ rw e refl in
      so ∙ ap (λ (x : Answer (List (ℕ × State))). also x (λ ts. Ok (states_by file cells ++ ts))) z

pub read_end : (file : Bytes) (off : ℕ) (rows : List Row) (i : ℕ) (cells : List (ℕ × Cell)) → length rows ≤ i → ReadSo file off rows i cells → states_of file off (rows_of rows) ≡ Ok (states_by file cells)
unfolding states_of
read_end file off rows i cells h so =
    so
    ∙ ap (λ (x : Answer (List (ℕ × State))). also x (λ ts. Ok (states_by file cells ++ ts))) (at_drop_all (λ rs. states_of file off (rows_of rs)) rows i h)
    ∙ ap Ok (append-nil _)

-- where every entry fits, an entry in use points below its section
slots_row : (off : ℕ) (size : ℤ) (rows : List Row) (i : ℕ) (d : Row) → slots_fit off size (rows_of rows) ≡ Ok tt → i < length rows → slot_fits off size (get_or rows i d).number (slot_of (get_or rows i d).entry) ≡ true
unfolding slots_fit
slots_row off size [] i d e h = absurd (omega arith)
slots_row off size (r ∷ rs) zero d e h = (must_ok (slot_fits off size r.number (slot_of r.entry)) (chain_fault ChainRule off r.number) (λ _. slots_fit off size (rows_of rs)) tt e).0
slots_row off size (r ∷ rs) (suc i) d e h = slots_row off size rs i d (must_ok (slot_fits off size r.number (slot_of r.entry)) (chain_fault ChainRule off r.number) (λ _. slots_fit off size (rows_of rs)) tt e).1 (omega arith)

points_below : (off : ℕ) (size : ℤ) (rows : List Row) (i : ℕ) (d : Row) → slots_fit off size (rows_of rows) ≡ Ok tt → i < length rows → (slot_of (get_or rows i d).entry).in_use ≡ true → (slot_of (get_or rows i d).entry).field < off
points_below off size rows i d e h u =
    let r = get_or rows i d in
    let s = sym (used_rule off size r.number (slot_of r.entry) u) ∙ slots_row off size rows i d e h in
    let t = slot_of r.entry in
    ltb-true t.field off (and_right (leb t.gen 65534) (ltb t.field off) (and_right (leb 1 r.number) _ s))

ends_push : (off : ℕ) (cells : List Cell) (c : Cell) → AllEndBy off cells → EndsBy off c → AllEndBy off (cells ++ c ∷ [])
ends_push off [] c a e = (e, tt)
ends_push off (x ∷ xs) c a e = (a.0, ends_push off xs c a.1 e)

-- one row further, with what a loop knows of it
module _ (file : Bytes) (off : ℕ) (rows : List Row) (i : ℕ) (d : Row) (h : i < length rows) (cells after : List (ℕ × Cell)) (c : Cell) (e : after ≡ cells ++ ((get_or rows i d).number, c) ∷ []) where
  pub read_more : state_of file off (get_or rows i d).number (slot_of (get_or rows i d).entry) ≡ Ok (state_in file c) → ReadSo file off rows i cells → ReadSo file off rows (i + 1) after
  read_more q so = rw e (read_on file off rows i d h cells c q so)

  pub paired_more : numbers_in cells ≡ numbers_of (take i rows) → numbers_in after ≡ numbers_of (take (i + 1) rows)
  paired_more p =
      ap numbers_in e
      ∙ map_push (λ (x : ℕ × Cell). x.0) cells ((get_or rows i d).number, c)
      ∙ ap (λ (ns : List ℕ). ns ++ (get_or rows i d).number ∷ []) p
      ∙ sym (map_push (λ (r : Row). r.number) (take i rows) (get_or rows i d))
      ∙ ap numbers_of (sym (take_more rows i d h))

  pub ends_more : ((size : ℤ) → slots_fit off size (rows_of rows) ≡ Ok tt → AllEndBy off (cells_in cells)) → (((slot_of (get_or rows i d).entry).in_use ≡ true → (slot_of (get_or rows i d).entry).field < off) → EndsBy off c) →
      (size : ℤ) → slots_fit off size (rows_of rows) ≡ Ok tt → AllEndBy off (cells_in after)
  ends_more all one size q =
      let p : cells_in after ≡ cells_in cells ++ c ∷ [] = ap cells_in e ∙ map_push (λ (x : ℕ × Cell). x.1) cells ((get_or rows i d).number, c) in
      rw p (ends_push off (cells_in cells) c (all size q) (one (points_below off size rows i d q h)))
