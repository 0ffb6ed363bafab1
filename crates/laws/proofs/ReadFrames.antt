-- The objects that an update writes are read where its rows say.
use Rattle.std.proofs.Common.{◌≡◌, ℕ, ◌+◌, ◌-◌, ◌≤◌, min, true, ◌∷◌, ◌++◌, length, take, drop, Ok, refl, ap, ◌∙◌, append_assoc, arith, length-append, drop_at}
use lib.Seq.{take-append-add}
use Rattle.std.proofs.lemmas.Bool.{eq-eqb}
use Rattle.format.specs.Book.{newest, addition}
use Rattle.format.specs.Bytes.{Bytes, ok}
use Rattle.format.specs.Chain.{window_bytes}
use Rattle.format.specs.Frames.{Framed, frame}
use Rattle.format.specs.Lines.{Slot}
use Rattle.format.specs.Revisions.{used, Revision, frame_in, framed_state, states_of}
use Rattle.format.specs.Updates.{Update}
use Rattle.format.specs.Writing.{decimal, framed_bytes, new_size, update_objects, update_section}
use Rattle.chains.proofs.Added.{addition_parts}
use Rattle.locality.proofs.Written.{frame_read}
use Rattle.sections.proofs.Digits.{spells}
use Rattle.tables.specs.Rows.{rows_of, section_at, Written, states_by}
use Rattle.tables.specs.Statements.{Puttable, MeetsRules}
use Rattle.tables.proofs.Made.{rows_states}

framed_length : (n g : ℕ) (b : Bytes) → length (framed_bytes n g b) ≡ length (decimal n) + length (decimal g) + length b + 14
unfolding framed_bytes
framed_length n g b = simp length-append (omega arith)

-- a window at a place that begins with some bytes it has room for
window_begins : (front xs rest file : Bytes) (at size : ℕ) → file ≡ front ++ (xs ++ rest) → length front ≡ at → length xs ≤ size →
    take size (drop at file) ≡ xs ++ take (size - length xs) rest
window_begins front xs rest file at size e l h =
    let k : size ≡ length xs + (size - length xs) = omega arith in
    ap (λ f. take size (drop at f)) e
    ∙ ap (take size) (drop_at front (xs ++ rest) at l)
    ∙ ap (λ j. take j (xs ++ rest)) k
    ∙ take-append-add xs rest (size - length xs)

framed_taken : (off n : ℕ) (s : Slot) (r : Framed) (p : ℕ) (rest : Bytes) → r.number ≡ n → r.gen ≡ s.gen → framed_state off n s (ok r p rest) ≡ Ok (used s.gen r.body)
unfolding framed_state
framed_taken off n s r p rest a b = rw (eq-eqb r.number n a, eq-eqb r.gen s.gen b) refl

module _ (file : Bytes) (u : Update) where
  abbrev r : Revision
  r = newest file

  abbrev len : ℕ
  len = length file

  row_window : (n : ℕ) (s : Slot) (w : Written r.states u len (update_objects len r u) n s) → length (framed_bytes n s.gen w.content) ≤ window_bytes →
      (rest : Bytes) × (take (min window_bytes (section_at len r u - s.field)) (drop s.field (file ++ addition file u)) ≡ framed_bytes n s.gen w.content ++ rest)
  row_window n s w h =
      let xs : Bytes = framed_bytes n s.gen w.content in
      let back : Bytes = w.behind ++ update_section (length file) (newest file) u in
      let parts : file ++ addition file u ≡ (file ++ w.before) ++ (xs ++ back) =
      addition_parts file u ∙ ap (λ z. (file ++ z) ++ update_section (length file) (newest file) u) w.bytes ∙ simp append_assoc in
      let at = w.place in
      let l₁ = length-append file w.before in
      let l₂ = ap length w.bytes in
      let l₃ = length-append w.before (xs ++ w.behind) in
      let l₄ = length-append xs w.behind in
      let room : length xs ≤ min window_bytes (section_at (length file) (newest file) u - s.field) = omega arith in
      (_, window_begins (file ++ w.before) xs back (file ++ addition file u) s.field (min window_bytes (section_at (length file) (newest file) u - s.field)) parts (omega arith) room)

  -- the object of a row in use is read as it was put
  pub row_framed : MeetsRules r u len → new_size r u ≤ 1000 → (n : ℕ) (s : Slot) → s.in_use ≡ true → (w : Written r.states u len (update_objects len r u) n s) →
      framed_state (section_at len r u) n s (frame_in (file ++ addition file u) (section_at len r u) s.field) ≡ Ok (used s.gen w.content)
  unfolding frame_in
  row_framed M N n s q w =
      let P : Puttable (newest file) u n w.content = M.puts n w.content w.put in
      let g = w.gen in
      let h = P.high in
      let k = P.gen in
      let b = P.short in
      let ln = (spells n (omega arith)).few in
      let lg = (spells s.gen (omega arith)).few in
      let l = framed_length n s.gen w.content in
      let x = row_window n s w (omega arith) in
      ap (λ z. framed_state (section_at (length file) (newest file) u) n s (frame s.field z)) x.1
      ∙ ap (framed_state (section_at (length file) (newest file) u) n s) (frame_read n s.gen s.field w.content x.0 (omega arith) (omega arith) P.whole)
      ∙ framed_taken (section_at (length file) (newest file) u) n s _ _ (10 ∷ x.0) refl refl

  -- the rows of an update read as the states that it puts
  pub rows_framed : MeetsRules r u len → new_size r u ≤ 1000 → states_of (file ++ addition file u) (section_at len r u) (rows_of len r u) ≡ Ok (states_by u (rows_of len r u))
  rows_framed M N =
      rows_states u (newest file).states (length file) (update_objects (length file) (newest file) u) (file ++ addition file u) (section_at (length file) (newest file) u)
      (row_framed M N) (rows_of (length file) (newest file) u) M.written
