-- A stream and a frame are the same where every place is later by as much.
use Rattle.std.proofs.Common.{◌≡◌, ℕ, suc, ◌+◌, true, false, eqb, leb, [], ◌∷◌, length, drop, Some, None, codes, Option, refl, ap, ◌∙◌, arith}
use Rattle.std.proofs.lemmas.Bool.{eq-eqb, ne_eqb, eqb-true, eqb-false}
use Rattle.format.specs.Bytes.{Bytes, Got, ok, bad, then, end_of}
use Rattle.format.specs.Space.{skip, Eol, no_bytes, no_eol, eol_to, after_cr, eol_at}
use Rattle.format.specs.Tokens.{Kind, int, real, name, text, hex, mark, word, ended, flawed, Token, token_at, start_at}
use Rattle.format.specs.Objects.{Obj, Entries, plain_int, is_word, object}
use Rattle.format.specs.Frames.{length_here, entries_of, stream_line, maybe_eol, behind, word_ends, end_stream, stream_data, stream_rest, streamed, body_at, unfit, the_word, the_int, Framed, framed_body, frame_number, frame}
use Rattle.objects.specs.Shifts.{later_fault, later, later_kind, later_token, later_eol, later_frame}
use Rattle.objects.proofs.Cases.{cases, cases_o}
use Rattle.objects.proofs.ShiftedTokens.{up_to_later, skip_later, start_later, token_later, flaw_later}
use Rattle.objects.proofs.ShiftedObjects.{Moves, then_later, plain_int_later, is_word_later, object_later}

module _ (b : ℕ) where
  eol_later : (p : ℕ) (xs : Bytes) → eol_at (b + p) xs ≡ later_eol b (eol_at p xs)
  unfolding eol_at after_cr
  eol_later p [] = refl
  eol_later p (x ∷ xs) =
      let s : suc (b + p) ≡ b + suc p = omega arith in
      cases (eqb x 10) (λ e. rw (e, eol_at, s) refl)
      (λ e. cases (eqb x 13) (λ f. rw (e, f, eol_at, s) (cr (suc p) xs)) (λ f. rw (e, f, eol_at) refl))
    where
      cr : (p : ℕ) (xs : Bytes) → after_cr (b + p) xs ≡ later_eol b (after_cr p xs)
      cr p [] = refl
      cr p (x ∷ xs) = let s : suc (b + p) ≡ b + suc p = omega arith in cases (eqb x 10) (λ e. rw (e, after_cr, s) refl) (λ e. rw (e, after_cr) refl)

  maybe_later : (p : ℕ) (xs : Bytes) (e : Eol) → maybe_eol (b + p) xs (later_eol b e) ≡ (b + (maybe_eol p xs e).0, (maybe_eol p xs e).1)
  unfolding maybe_eol
  maybe_later p xs no_bytes = refl
  maybe_later p xs no_eol = refl
  maybe_later p xs (eol_to q ys) = refl

  line_later : Moves b stream_line
  unfolding stream_line
  line_later p [] = refl
  line_later p (x ∷ xs) =
      let s : suc (b + p) ≡ b + suc p = omega arith in
      cases (eqb x 10) (λ e. rw (e, stream_line, s) refl)
      (λ e. cases (eqb x 13) (λ f. cr xs e f s) (λ f. rw (e, f, stream_line) refl))
    where
      cr : (ys : Bytes) → eqb x 10 ≡ false → eqb x 13 ≡ true → suc (b + p) ≡ b + suc p → stream_line (b + p) (x ∷ ys) ≡ later b (stream_line p (x ∷ ys))
      cr [] e f s = rw (e, f, stream_line, s) refl
      cr (y ∷ ys) e f s =
          let t : suc (suc (b + p)) ≡ b + suc (suc p) = omega arith in
          cases (eqb y 10) (λ g. rw (e, f, g, stream_line, t) refl) (λ g. rw (e, f, g, stream_line) refl)

  end_later : Moves b end_stream
  unfolding end_stream
  end_later p xs =
      cases_o (behind (codes "endstream") xs) (λ e. rw (e, end_stream) refl)
      (λ ys e. cases (word_ends ys) (λ f. let s : b + p + 9 ≡ b + (p + 9) = omega arith in rw (e, f, end_stream, s) refl) (λ f. rw (e, f, end_stream) refl))

  data_later : (len : ℕ) → Moves b (stream_data len)
  unfolding stream_data end_of
  data_later len p xs =
      cases (leb len (length xs))
      (λ e. let s : b + p + len ≡ b + (p + len) = omega arith in
      rw (e, stream_data, s, eol_later (p + len) (drop len xs), maybe_later (p + len) (drop len xs) (eol_at (p + len) (drop len xs))) (end_later _ _))
      (λ e. let s : b + p + length xs ≡ b + (p + length xs) = omega arith in rw (e, stream_data, s) refl)

  rest_later : (es : Entries) (t : Token) → stream_rest es (later_token b t) ≡ later b (stream_rest es t)
  unfolding stream_rest
  rest_later es t =
      cases_o (length_here es) (λ e. rw (e, stream_rest) refl)
      (λ len e. rw (e, stream_rest, line_later t.to t.rest) (then_later b (stream_line t.to t.rest) _ _ (λ _ p xs. data_later len p xs)))

  streamed_later : (o : Obj) (q : ℕ) (ys : Bytes) (m : Option Entries) (t : Token) → streamed o (b + q) ys m (later_token b t) ≡ later b (streamed o q ys m t)
  unfolding streamed
  streamed_later o q ys None t = refl
  streamed_later o q ys (Some es) t =
      let w = is_word_later b (codes "stream") t.kind in
      cases (is_word (codes "stream") t.kind)
      (λ e. let f : is_word (codes "stream") (later_kind b t.kind) ≡ true = w ∙ e in rw (e, f, streamed, rest_later es t) (then_later b (stream_rest es t) _ _ (λ _ r zs. refl)))
      (λ e. let f : is_word (codes "stream") (later_kind b t.kind) ≡ false = w ∙ e in rw (e, f, streamed) refl)

  -- an object or a stream
  pub body_later : Moves b body_at
  unfolding body_at object
  body_later p xs =
      rw (object_later b 32 p xs) (then_later b (object p xs) _ _ (λ o q ys. rw (token_later b q ys) (streamed_later o q ys (entries_of o) (token_at q ys))))

  unfit_later : (p : ℕ) (k : Kind) → unfit (b + p) (later_kind b k) ≡ later_fault b (unfit p k)
  unfolding unfit
  unfit_later p (int u z) = refl
  unfit_later p (real w) = refl
  unfit_later p (name d) = refl
  unfit_later p (text w) = refl
  unfit_later p (hex w) = refl
  unfit_later p (mark m) = refl
  unfit_later p (word w) = refl
  unfit_later p ended = refl
  unfit_later p (flawed f) = flaw_later b p f

  the_word_later : (w : Bytes) (t : Token) → the_word w (later_token b t) ≡ later b (the_word w t)
  unfolding the_word
  the_word_later w t =
      let v = is_word_later b w t.kind in
      cases (is_word w t.kind)
      (λ e. let f : is_word w (later_kind b t.kind) ≡ true = v ∙ e in rw (e, f, the_word) refl)
      (λ e. let f : is_word w (later_kind b t.kind) ≡ false = v ∙ e in rw (e, f, the_word) (ap bad (unfit_later t.from t.kind)))

  the_int_later : (t : Token) → the_int (later_token b t) ≡ later b (the_int t)
  unfolding the_int
  the_int_later t =
      let v = plain_int_later b t.kind in
      cases_o (plain_int t.kind)
      (λ e. let f : plain_int (later_kind b t.kind) ≡ None = v ∙ e in rw (e, f, the_int) (ap bad (unfit_later t.from t.kind)))
      (λ n e. let f : plain_int (later_kind b t.kind) ≡ Some n = v ∙ e in rw (e, f, the_int) refl)

  -- one reader after another, in a frame
  then_frame : {A : Type 0} (r : Got A) (k l : A → ℕ → Bytes → Got Framed) → ((a : A) (q : ℕ) (ys : Bytes) → k a (b + q) ys ≡ later_frame b (l a q ys)) →
      then (later b r) k ≡ later_frame b (then r l)
  then_frame (ok a q ys) k l h = h a q ys
  then_frame (bad f) k l h = refl

  framed_body_later : (n g : ℕ) (s : ℕ × Bytes) → framed_body n g (b + s.0, s.1) ≡ later_frame b (framed_body n g s)
  unfolding framed_body
  framed_body_later n g s =
      rw (body_later s.0 s.1)
      (then_frame (body_at s.0 s.1) _ _
      (λ o p xs.
      rw (token_later b p xs, the_word_later (codes "endobj") (token_at p xs), up_to_later b s.0 p s.1)
      (then_frame (the_word (codes "endobj") (token_at p xs)) _ _ (λ _ q ys. refl))))

  number_later : Moves b frame_number
  unfolding frame_number
  number_later p xs =
      let s : (skip false (b + p) xs).0 ≡ b + (skip false p xs).0 = ap (λ (z : ℕ × Bytes). z.0) (skip_later b false p xs) in
      cases (eqb (skip false p xs).0 p)
      (λ e. let d = eqb-true (skip false p xs).0 p e in let f : eqb (skip false (b + p) xs).0 (b + p) ≡ true = eq-eqb _ _ (omega arith) in rw (e, f, frame_number, start_later b p xs) (the_int_later (start_at p xs)))
      (λ e. let f : eqb (skip false (b + p) xs).0 (b + p) ≡ false = ne_eqb _ _ (λ h. eqb-false (skip false p xs).0 p e (omega arith)) in rw (e, f, frame_number) refl)

  -- a frame
  pub frame_later : (p : ℕ) (xs : Bytes) → frame (b + p) xs ≡ later_frame b (frame p xs)
  unfolding frame
  frame_later p xs =
      rw (number_later p xs)
      (then_frame (frame_number p xs) _ _
      (λ n p₁ xs₁. rw (token_later b p₁ xs₁, the_int_later (token_at p₁ xs₁))
      (then_frame (the_int (token_at p₁ xs₁)) _ _
      (λ g p₂ xs₂. rw (token_later b p₂ xs₂, the_word_later (codes "obj") (token_at p₂ xs₂))
      (then_frame (the_word (codes "obj") (token_at p₂ xs₂)) _ _ (λ _ p₃ xs₃. rw (skip_later b false p₃ xs₃) (framed_body_later n g (skip false p₃ xs₃))))))))
