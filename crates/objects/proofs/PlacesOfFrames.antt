-- A stream, a frame and a trailer lie within the bytes in which they are read, and so do the places of their faults.
use Rattle.std.proofs.Common.{◌≡◌, ℕ, suc, ◌+◌, ◌<◌, ◌≤◌, true, false, eqb, leb, [], ◌∷◌, ◌++◌, length, drop, replicate, Some, None, codes, Option, refl, arith, leb-true}
use Rattle.faults.specs.declared.fault.Fault.{Fault}
use Rattle.format.specs.Bytes.{Bytes, Got, bad, then, end_of}
use Rattle.format.specs.Space.{skip, Eol, no_bytes, no_eol, eol_to, after_cr, eol_at}
use Rattle.format.specs.Strings.{turns}
use Rattle.format.specs.Tokens.{Flaw, Kind, int, real, name, text, hex, mark, word, ended, flawed, flaw_fault, open_array, close_array, open_dict, close_dict, Token, token_at, start_at}
use Rattle.format.specs.Objects.{Obj, Entries, no_entries, plain_int, is_word, entries, object_by, object}
use Rattle.format.specs.Frames.{length_here, entries_of, stream_line, maybe_eol, behind, word_ends, end_stream, stream_data, stream_rest, streamed, body_at, unfit, the_word, the_int, framed_body, frame_number, frame}
use Rattle.format.specs.Sections.{no_dict, trailer_at}
use Rattle.objects.specs.Theorems.{FaultsLieWithin}
use Rattle.objects.proofs.Cases.{cases, cases_o}
use Rattle.objects.proofs.Places.{At, Past, on, over, here, sooner, at_any, Within, Inside, earlier, then_in, skip_past}
use Rattle.objects.proofs.PlacesOfTokens.{Stands, TokenIn, start_in, token_in_fact}
use Rattle.objects.proofs.PlacesOfObjects.{word_moves, took, first_in, word_took, int_took, entries_in, object_in}

-- an end of line within the bytes
abbrev EolIn : Bytes → ℕ → Eol → Type 0
EolIn src p no_bytes = Unit {0}
EolIn src p no_eol = Unit {0}
EolIn src p (eol_to q ys) = Past src p q ys

-- a `<<` from p to q, or a fault within the bytes
abbrev OpensIn : Bytes → ℕ → ℕ → Option Fault → Type 0
OpensIn src p q None = p < q
OpensIn src p q (Some f) = f.place ≤ length src

module _ (src : Bytes) where
  cr_in : (p : ℕ) (xs : Bytes) → At src p xs → EolIn src p (after_cr p xs)
  unfolding after_cr
  cr_in p [] a = here a
  cr_in p (x ∷ xs) a = cases (eqb x 10) (λ e. rw (e, after_cr) (sooner p (suc p) (omega arith) (here (on a)))) (λ e. rw (e, after_cr) (here a))

  eol_sooner : (p r : ℕ) → p ≤ r → (e : Eol) → EolIn src r e → EolIn src p e
  eol_sooner p r h no_bytes b = tt
  eol_sooner p r h no_eol b = tt
  eol_sooner p r h (eol_to q ys) b = sooner p r h b

  eol_in : (p : ℕ) (xs : Bytes) → At src p xs → EolIn src p (eol_at p xs)
  unfolding eol_at
  eol_in p [] a = tt
  eol_in p (x ∷ xs) a =
      cases (eqb x 10) (λ e. rw (e, eol_at) (sooner p (suc p) (omega arith) (here (on a))))
      (λ e. cases (eqb x 13) (λ f. rw (e, f, eol_at) (eol_sooner p (suc p) (omega arith) (after_cr (suc p) xs) (cr_in (suc p) xs (on a)))) (λ f. rw (e, f, eol_at) tt))

  maybe_in : (p : ℕ) (xs : Bytes) → At src p xs → (e : Eol) → EolIn src p e → Past src p (maybe_eol p xs e).0 (maybe_eol p xs e).1
  unfolding maybe_eol
  maybe_in p xs a no_bytes b = here a
  maybe_in p xs a no_eol b = here a
  maybe_in p xs a (eol_to q ys) b = b

  line_in : Inside src stream_line
  unfolding stream_line
  line_in p [] a = let c = a.count in omega arith
  line_in p (x ∷ xs) a =
      let c = a.count in
      cases (eqb x 10) (λ e. rw (e, stream_line) (omega arith, on a))
      (λ e. cases (eqb x 13) (λ f. cr xs a e f) (λ f. rw (e, f, stream_line) (omega arith)))
    where
      cr : (ys : Bytes) → At src p (x ∷ ys) → eqb x 10 ≡ false → eqb x 13 ≡ true → Within src p (stream_line p (x ∷ ys))
      cr [] b e f = let c = b.count in rw (e, f, stream_line) (omega arith)
      cr (y ∷ ys) b e f = let c = b.count in cases (eqb y 10) (λ g. rw (e, f, g, stream_line) (omega arith, on (on b))) (λ g. rw (e, f, g, stream_line) (omega arith))

  behind_in : (ws : Bytes) (p : ℕ) (xs ys : Bytes) → At src p xs → behind ws xs ≡ Some ys → At src (p + length ws) ys
  unfolding behind
  behind_in [] p xs ys a e = let z : xs ≡ ys = cc in let n : p + 0 ≡ p = omega arith in rw (← z, n) a
  behind_in (w ∷ ws) p [] ys a e = absurd (let z : ◌≡◌ {A = ℕ} 0 1 = cc in omega arith)
  behind_in (w ∷ ws) p (x ∷ xs) ys a e =
      cases (eqb w x)
      (λ f. let n : p + suc (length ws) ≡ suc p + length ws = omega arith in rw n (behind_in ws (suc p) xs ys (on a) (rw (f, behind) at e)))
      (λ f. absurd (let g : None ≡ Some ys = rw (f, behind) at e in let z : ◌≡◌ {A = ℕ} 0 1 = cc in omega arith))

  end_in : Inside src end_stream
  unfolding end_stream
  end_in p xs a =
      let c = a.count in
      cases_o (behind (codes "endstream") xs) (λ e. rw (e, end_stream) (omega arith))
      (λ ys e. cases (word_ends ys) (λ f. rw (e, f, end_stream) (omega arith, behind_in (codes "endstream") p xs ys a e)) (λ f. rw (e, f, end_stream) (omega arith)))

  data_in : (len : ℕ) → Inside src (stream_data len)
  unfolding stream_data end_of
  data_in len p xs a =
      cases (leb len (length xs))
      (λ e.
      let b = over len (leb-true len (length xs) e) a in
      let m = maybe_in (p + len) (drop len xs) b (eol_at (p + len) (drop len xs)) (eol_in (p + len) (drop len xs) b) in
      let l = m.low in
      rw (e, stream_data) (earlier src p _ (omega arith) _ (end_in _ _ m.at)))
      (λ e. let c = a.count in rw (e, stream_data) (omega arith))

  rest_in : (es : Entries) (p : ℕ) (t : Token) → TokenIn src p t → t.from < t.to → Within src p (stream_rest es t)
  unfolding stream_rest
  rest_in es p t i l =
      cases_o (length_here es) (λ e. rw (e, stream_rest) (first_in src p t i))
      (λ len e.
      let b = took src p t i l in
      let h = b.0 in
      rw (e, stream_rest)
      (earlier src p t.to (omega arith) (then (stream_line t.to t.rest) _)
      (then_in src t.to (stream_line t.to t.rest) _ (line_in t.to t.rest b.1) (λ u q ys m d. earlier src t.to q (omega arith) (stream_data len q ys) (data_in len q ys d)))))

  streamed_in : (o : Obj) (p q : ℕ) (ys : Bytes) → p < q → At src q ys → (m : Option Entries) (t : Token) → TokenIn src q t → Within src p (streamed o q ys m t)
  unfolding streamed
  streamed_in o p q ys l a None t i = (l, a)
  streamed_in o p q ys l a (Some es) t i =
      cases (is_word (codes "stream") t.kind)
      (λ e.
      rw (e, streamed)
      (earlier src p q (omega arith) (then (stream_rest es t) _)
      (then_in src q (stream_rest es t) _ (rest_in es q t i (word_moves src (codes "stream") t.kind t.from t.to e i.stands)) (λ u r zs m d. (m, d)))))
      (λ e. rw (e, streamed) (l, a))

  -- an object or a stream
  pub body_in : Inside src body_at
  unfolding body_at object
  body_in p xs a = then_in src p (object p xs) _ (object_in src 32 p xs a) (λ o q ys l b. streamed_in o p q ys l b (entries_of o) (token_at q ys) (token_in_fact src q ys b))

  unfit_in : (p q : ℕ) (k : Kind) → p ≤ length src → Stands src p q k → (unfit p k).place ≤ length src
  unfolding unfit
  unfit_in p q (int u z) h l = h
  unfit_in p q (real w) h l = h
  unfit_in p q (name d) h l = h
  unfit_in p q (text w) h l = h
  unfit_in p q (hex w) h l = h
  unfit_in p q (mark m) h l = h
  unfit_in p q (word w) h l = h
  unfit_in p q ended h l = h
  unfit_in p q (flawed f) h l = l

  the_word_in : (w : Bytes) (p : ℕ) (t : Token) → TokenIn src p t → Within src p (the_word w t)
  unfolding the_word
  the_word_in w p t i =
      cases (is_word w t.kind)
      (λ e. rw (e, the_word) (word_took src p t i w e))
      (λ e. rw (e, the_word) (unfit_in t.from t.to t.kind (first_in src p t i) i.stands))

  the_int_in : (p : ℕ) (t : Token) → TokenIn src p t → Within src p (the_int t)
  unfolding the_int
  the_int_in p t i =
      cases_o (plain_int t.kind)
      (λ e. rw (e, the_int) (unfit_in t.from t.to t.kind (first_in src p t i) i.stands))
      (λ n e. rw (e, the_int) (int_took src p t i n e))

  framed_body_in : (n g : ℕ) (s : ℕ × Bytes) → At src s.0 s.1 → Within src s.0 (framed_body n g s)
  unfolding framed_body
  framed_body_in n g s a =
      then_in src s.0 (body_at s.0 s.1) _ (body_in s.0 s.1 a)
      (λ o p xs l b.
      earlier src s.0 p (omega arith) (then (the_word (codes "endobj") (token_at p xs)) _)
      (then_in src p (the_word (codes "endobj") (token_at p xs)) _ (the_word_in (codes "endobj") p (token_at p xs) (token_in_fact src p xs b)) (λ u q ys m d. (m, d))))

  number_in : Inside src frame_number
  unfolding frame_number
  number_in p xs a =
      cases (eqb (skip false p xs).0 p)
      (λ e. rw (e, frame_number) (the_int_in p (start_at p xs) (start_in src p xs a)))
      (λ e. let c = a.count in rw (e, frame_number) (omega arith))

  -- a frame
  pub frame_in : Inside src frame
  unfolding frame
  frame_in p xs a =
      then_in src p (frame_number p xs) _ (number_in p xs a)
      (λ n p₁ xs₁ l₁ b₁. earlier src p p₁ (omega arith) (then (the_int (token_at p₁ xs₁)) _)
      (then_in src p₁ (the_int (token_at p₁ xs₁)) _ (the_int_in p₁ (token_at p₁ xs₁) (token_in_fact src p₁ xs₁ b₁))
      (λ g p₂ xs₂ l₂ b₂. earlier src p₁ p₂ (omega arith) (then (the_word (codes "obj") (token_at p₂ xs₂)) _)
      (then_in src p₂ (the_word (codes "obj") (token_at p₂ xs₂)) _ (the_word_in (codes "obj") p₂ (token_at p₂ xs₂) (token_in_fact src p₂ xs₂ b₂))
      (λ u p₃ xs₃ l₃ b₃.
      let s = skip_past src false p₃ xs₃ b₃ in
      let m = s.low in
      earlier src p₂ (skip false p₃ xs₃).0 (omega arith) (framed_body n g (skip false p₃ xs₃)) (framed_body_in n g (skip false p₃ xs₃) s.at))))))

  no_dict_in : (p q : ℕ) (k : Kind) → p ≤ length src → Stands src p q k → OpensIn src p q (no_dict p k)
  unfolding no_dict
  no_dict_in p q (int u z) h l = h
  no_dict_in p q (real w) h l = h
  no_dict_in p q (name d) h l = h
  no_dict_in p q (text w) h l = h
  no_dict_in p q (hex w) h l = h
  no_dict_in p q (word w) h l = h
  no_dict_in p q (mark open_array) h l = h
  no_dict_in p q (mark close_array) h l = h
  no_dict_in p q (mark open_dict) h l = l
  no_dict_in p q (mark close_dict) h l = h
  no_dict_in p q ended h l = h
  no_dict_in p q (flawed f) h l = l

  -- a trailer's dictionary
  pub trailer_in : (p : ℕ) (t : Token) → TokenIn src p t → Within src p (trailer_at t)
  unfolding trailer_at
  trailer_in p t i = go (no_dict t.from t.kind) refl (no_dict_in t.from t.to t.kind (first_in src p t i) i.stands)
    where
      go : (o : Option Fault) → no_dict t.from t.kind ≡ o → OpensIn src t.from t.to o → Within src p (trailer_at t)
      go (Some f) e l = rw (e, trailer_at) l
      go None e l =
          let b = took src p t i l in
          let h = b.0 in
          rw (e, trailer_at)
          (earlier src p t.to (omega arith) (then (entries (object_by 31) turns no_entries t.to t.rest) _)
          (then_in src t.to (entries (object_by 31) turns no_entries t.to t.rest) _ (entries_in src (object_by 31) (object_in src 31) turns no_entries t.to t.rest b.1) (λ es q ys m d. (m, d))))

  flaw_in : (p q : ℕ) (k : Kind) (f : Flaw) → k ≡ flawed f → Stands src p q k → (flaw_fault p f).place ≤ length src
  flaw_in p q k f e l = rw e at l

  -- a refusal
  pub refused_in : {A : Type 0} (p : ℕ) (g : Got A) (f : Fault) → g ≡ bad f → Within src p g → f.place ≤ length src
  refused_in p g f e l = rw e at l

-- the place of a fault is one of the bytes that were given, or their end
pub faults_within : FaultsLieWithin
faults_within = record {
  tokens = λ p xs f e. let a = at_any p xs in let c = a.count in let i = token_in_fact _ p xs a in
      let h = flaw_in (replicate {A = ℕ} p 0 ++ xs) (token_at p xs).from (token_at p xs).to (token_at p xs).kind f e i.stands in omega arith;
  objects = λ d p xs f e. let a = at_any p xs in let c = a.count in let h = refused_in (replicate {A = ℕ} p 0 ++ xs) p (object_by d p xs) f e (object_in _ d p xs a) in omega arith;
  dictionaries = λ d n seen p xs f e. let a = at_any p xs in let c = a.count in
      let h = refused_in (replicate {A = ℕ} p 0 ++ xs) p (entries (object_by d) n seen p xs) f e (entries_in _ (object_by d) (object_in _ d) n seen p xs a) in omega arith;
  bodies = λ p xs f e. let a = at_any p xs in let c = a.count in let h = refused_in (replicate {A = ℕ} p 0 ++ xs) p (body_at p xs) f e (body_in _ p xs a) in omega arith;
  frames = λ p xs f e. let a = at_any p xs in let c = a.count in let h = refused_in (replicate {A = ℕ} p 0 ++ xs) p (frame p xs) f e (frame_in _ p xs a) in omega arith;
  trailers = λ p xs f e. let a = at_any p xs in let c = a.count in
      let h = refused_in (replicate {A = ℕ} p 0 ++ xs) p (trailer_at (token_at p xs)) f e (trailer_in _ p (token_at p xs) (token_in_fact _ p xs a)) in omega arith;
}
