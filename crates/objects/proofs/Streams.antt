-- The parts of a stream, at a place of the bytes.
use Rattle.std.proofs.Common.{◌≡◌, ℕ, suc, ◌+◌, ◌-◌, ◌<◌, ◌≤◌, true, false, leb, List, [], ◌∷◌, length, get_or, drop, Ok, Err, Result, sym, refl, ◌∙◌, add-one, arith, length-drop, drop-drop, le-leb}
use borrow.Author.Tests.{lt-leb}
use Rattle.std.specs.Result.{result_unwrap_or}
use Rattle.std.proofs.lemmas.List.{at_drop_all}
use Rattle.std.proofs.lemmas.Bool.{eq-eqb, ne_eqb}
use Rattle.faults.specs.declared.reason.Reason.TheVariants.{BytesEnd, BadFrame}
use Rattle.format.specs.Bytes.{Bytes, ok, bad, end_of}
use Rattle.format.specs.Failures.{object_fault}
use Rattle.format.specs.Space.{no_bytes, no_eol, eol_to, eol_at}
use Rattle.format.specs.Frames.{stream_line, maybe_eol, end_stream, stream_data}
use Rattle.lexer.specs.declared.line.Lack.{Lack}
use Rattle.lexer.specs.declared.line.Lack.TheVariants.{Short, Misfit}
use Rattle.lexer.specs.Endings.{line_shown}
use Rattle.lexer.proofs.Places.{at_place, at_two_more}

-- the last byte
one_place : {Y : Type 0} (F : List ℕ → Y) (src : List ℕ) (p : ℕ) → p + 1 ≡ length src → F (drop p src) ≡ F (get_or src p 0 ∷ [])
one_place F src p h = let l : p < length src = omega arith in let m : length src ≤ suc p = omega arith in at_place F src p l ∙ at_drop_all (λ ys. F (get_or src p 0 ∷ ys)) src (suc p) m

module _ (src : Bytes) (p : ℕ) where
  -- the bytes end before the end of line
  pub line_none : p ≡ length src → bad (object_fault BytesEnd p) ≡ stream_line p (drop p src)
  unfolding stream_line
  line_none h = sym (at_drop_all (stream_line p) src p (omega arith))

  -- an LF
  pub line_lf : p < length src → get_or src p 0 ≡ 10 → ok tt (p + 1) (drop (p + 1) src) ≡ stream_line p (drop p src)
  unfolding stream_line
  line_lf h e = let a = eq-eqb _ _ e in rw add-one (sym (at_place (stream_line p) src p h ∙ rw (a, stream_line) refl))

  -- neither
  pub line_other : p < length src → (get_or src p 0 ≡ 10 → ⊥) → (get_or src p 0 ≡ 13 → ⊥) → bad (object_fault BadFrame p) ≡ stream_line p (drop p src)
  unfolding stream_line
  line_other h e f = let a = ne_eqb _ _ e in let b = ne_eqb _ _ f in sym (at_place (stream_line p) src p h ∙ rw (a, b, stream_line) refl)

  -- a CR as the last byte
  pub line_cut : (get_or src p 0 ≡ 10 → ⊥) → get_or src p 0 ≡ 13 → p + 1 ≡ length src → bad (object_fault BytesEnd (p + 1)) ≡ stream_line p (drop p src)
  unfolding stream_line
  line_cut e f h = let a = ne_eqb _ _ e in let b = eq-eqb _ _ f in rw add-one (sym (one_place (stream_line p) src p h ∙ rw (a, b, stream_line) refl))

  -- a CR and an LF
  pub line_crlf : (get_or src p 0 ≡ 10 → ⊥) → get_or src p 0 ≡ 13 → p + 1 < length src → get_or src (p + 1) 0 ≡ 10 → ok tt (p + 2) (drop (p + 2) src) ≡ stream_line p (drop p src)
  unfolding stream_line
  line_crlf e f h g =
      let a = ne_eqb _ _ e in
      let b = eq-eqb _ _ f in
      let c = eq-eqb _ _ g in
      let j : suc (suc p) ≡ p + 2 = omega arith in
      sym (at_two_more (stream_line p) src p (p + 1) (p + 2) refl refl h ∙ rw (a, b, c, stream_line, j) refl)

  -- a CR alone
  pub line_cr : (get_or src p 0 ≡ 10 → ⊥) → get_or src p 0 ≡ 13 → p + 1 < length src → (get_or src (p + 1) 0 ≡ 10 → ⊥) → bad (object_fault BadFrame p) ≡ stream_line p (drop p src)
  unfolding stream_line
  line_cr e f h g =
      let a = ne_eqb _ _ e in
      let b = eq-eqb _ _ f in
      let c = ne_eqb _ _ g in
      sym (at_two_more (stream_line p) src p (p + 1) (p + 2) refl refl h ∙ rw (a, b, c, stream_line) refl)

  -- an optional end of line at a place, and what is behind it
  abbrev pub EolEnds : ℕ → Type 0
  EolEnds q = maybe_eol p (drop p src) (eol_at p (drop p src)) ≡ (q, drop q src)

  eol_to_fact : (q : ℕ) → eol_at p (drop p src) ≡ eol_to q (drop q src) → EolEnds q
  unfolding maybe_eol
  eol_to_fact q e = rw e refl

  eol_no : eol_at p (drop p src) ≡ no_eol → EolEnds p
  unfolding maybe_eol
  eol_no e = rw e refl

  eol_nothing : eol_at p (drop p src) ≡ no_bytes → EolEnds p
  unfolding maybe_eol
  eol_nothing e = rw e refl

  -- an end of line that was read, or none
  pub eol_skipped : (r : Result ℕ Lack) → line_shown src r ≡ eol_at p (drop p src) → EolEnds (result_unwrap_or r p)
  eol_skipped (Ok q) e = eol_to_fact q (sym e)
  eol_skipped (Err Short) e = eol_nothing (sym e)
  eol_skipped (Err Misfit) e = eol_no (sym e)

module _ (src : Bytes) (p : ℕ) where
  -- too few bytes for the data
  pub data_few : (len : ℕ) → p ≤ length src → length src - p < len → bad (object_fault BytesEnd (length src)) ≡ stream_data len p (drop p src)
  unfolding stream_data end_of
  data_few len h l =
      let n : length (drop p src) ≡ length src - p = length-drop p src in
      let e : leb len (length (drop p src)) ≡ false = lt-leb _ _ (omega arith) in
      let m : p + length (drop p src) ≡ length src = omega arith in
      rw (e, stream_data, m) refl

  -- the data, and what is behind it
  pub data_there : (len q : ℕ) → len ≤ length src - p → EolEnds src (p + len) q → end_stream q (drop q src) ≡ stream_data len p (drop p src)
  unfolding stream_data
  data_there len q l t =
      let n : length (drop p src) ≡ length src - p = length-drop p src in
      let e : leb len (length (drop p src)) ≡ true = le-leb _ _ (omega arith) in
      let d : drop len (drop p src) ≡ drop (p + len) src = drop-drop len p src in
      rw (e, stream_data, d, t) refl
