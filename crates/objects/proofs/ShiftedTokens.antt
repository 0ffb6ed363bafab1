-- A token is the same where every place is later by as much.
use Rattle.std.proofs.Common.{◌≡◌, ℕ, zero, suc, ◌+◌, ◌-◌, ◌*◌, Bool, true, false, ◌||◌, eqb, leb, [], ◌∷◌, length, Some, None, refl, ap, ◌∙◌, arith}
use Rattle.format.specs.Bytes.{Bytes, end_of, up_to, is_white, is_eol, is_regular, is_digit, span, some, value}
use Rattle.format.specs.Space.{skip}
use Rattle.format.specs.Numbers.{Numeral, whole, fraction, past_bound, no_number, starts_number, stops_at, bounded, unsigned_part, numeral}
use Rattle.format.specs.Names.{hex_digit, Decoded, decoded, wrong_hash, joined, Escape, plain, hash, half, decode}
use Rattle.format.specs.Strings.{Span, closed, unclosed, too_deep_at, broken_at, Bracketed, onward, turns, literal, string_by, string, is_hex, hex_string}
use Rattle.format.specs.Tokens.{Flaw, bad_name, bad_number, bad_hex, stray, cut_short, deep_bracket, out_of_range, Kind, text, hex, mark, flawed, flaw_fault, open_array, close_array, tok, one_byte, string_token, after_less, after_greater, name_kind, name_token, marked, numeral_kind, run_kind, run_token, start_at, token_at}
use Rattle.objects.specs.Shifts.{later_fault, later_place, later_numeral, later_decoded, later_escape, later_span, later_flaw, later_kind, later_token}
use Rattle.objects.proofs.Cases.{cases, cases_o}

module _ (b : ℕ) where
  abbrev later_rest : (ℕ × Bytes) → (ℕ × Bytes)
  later_rest s = (b + s.0, s.1)

  abbrev later_run : (Bytes × ℕ × Bytes) → (Bytes × ℕ × Bytes)
  later_run s = (s.0, b + s.1, s.2)

  -- the bytes between two places
  pub up_to_later : (p q : ℕ) (xs : Bytes) → up_to (b + p) xs (b + q) ≡ up_to p xs q
  unfolding up_to
  up_to_later p q xs = let e : (b + q) - (b + p) ≡ q - p = omega arith in rw e

  -- white space and comments
  pub skip_later : (c : Bool) (p : ℕ) (xs : Bytes) → skip c (b + p) xs ≡ later_rest (skip c p xs)
  unfolding skip
  skip_later true p [] = refl
  skip_later false p [] = refl
  skip_later true p (x ∷ xs) =
      let s : suc (b + p) ≡ b + suc p = omega arith in
      cases (is_eol x) (λ e. rw (e, skip, s) (skip_later false (suc p) xs)) (λ e. rw (e, skip, s) (skip_later true (suc p) xs))
  skip_later false p (x ∷ xs) =
      let s : suc (b + p) ≡ b + suc p = omega arith in
      cases (is_white x)
      (λ e. rw (e, skip, s) (skip_later false (suc p) xs))
      (λ e. cases (eqb x 37) (λ f. rw (e, f, skip, s) (skip_later true (suc p) xs)) (λ f. rw (e, f, skip) refl))

  -- a run
  pub span_later : (f : ℕ → Bool) (p : ℕ) (xs : Bytes) → span f (b + p) xs ≡ later_run (span f p xs)
  unfolding span
  span_later f p [] = refl
  span_later f p (x ∷ xs) =
      let s : suc (b + p) ≡ b + suc p = omega arith in
      cases (f x) (λ e. rw (e, span, s) (rw (span_later f (suc p) xs) refl)) (λ e. rw (e, span) refl)

  stops_later : (d : Bool) (p : ℕ) (xs : Bytes) → stops_at d (b + p) xs ≡ later_place b (stops_at d p xs)
  unfolding stops_at
  stops_later d p [] = refl
  stops_later d p (x ∷ xs) =
      let s : suc (b + p) ≡ b + suc p = omega arith in
      cases (is_digit x)
      (λ e. rw (e, stops_at, s) (stops_later d (suc p) xs))
      (λ e. cases (eqb x 46) (λ f. period d (λ _. stops_later true (suc p) xs) s e f) (λ f. rw (e, f, stops_at) refl))
    where
      period : (d : Bool) → (Unit {0} → stops_at true (b + suc p) xs ≡ later_place b (stops_at true (suc p) xs)) → suc (b + p) ≡ b + suc p → is_digit x ≡ false → eqb x 46 ≡ true → stops_at d (b + p) (x ∷ xs) ≡ later_place b (stops_at d p (x ∷ xs))
      period true k s e f = rw (e, f, stops_at) refl
      period false k s e f = rw (e, f, stops_at, s) (k tt)

  bounded_later : (u m : Bool) (n : ℕ) → bounded u m n ≡ later_numeral b (bounded u m n)
  unfolding bounded
  bounded_later u true n = cases (leb n 2147483648) (λ e. rw (e, bounded) refl) (λ e. rw (e, bounded) refl)
  bounded_later u false n = cases (leb n 2147483647) (λ e. rw (e, bounded) refl) (λ e. rw (e, bounded) refl)

  unsigned_later : (u m : Bool) (p : ℕ) (ds : Bytes) → unsigned_part u m (b + p) ds ≡ later_numeral b (unsigned_part u m p ds)
  unfolding unsigned_part end_of
  unsigned_later u m p ds =
      let g = stops_later false p ds in
      cases_o (stops_at false p ds)
      (λ e. let f : stops_at false (b + p) ds ≡ None = rw e at g in
      cases (some is_digit ds)
      (λ h. cases (some (λ c. eqb c 46) ds) (λ k. rw (e, f, h, k, unsigned_part) refl) (λ k. rw (e, f, h, k, unsigned_part) (bounded_later u m (value ds))))
      (λ h. let s : b + p + length ds ≡ b + (p + length ds) = omega arith in rw (e, f, h, unsigned_part, s) refl))
      (λ q e. let f : stops_at false (b + p) ds ≡ Some (b + q) = rw e at g in rw (e, f, unsigned_part) refl)

  numeral_later : (p : ℕ) (xs : Bytes) → numeral (b + p) xs ≡ later_numeral b (numeral p xs)
  unfolding numeral
  numeral_later p [] = refl
  numeral_later p (x ∷ xs) =
      let s : suc (b + p) ≡ b + suc p = omega arith in
      cases (eqb x 45)
      (λ e. rw (e, numeral, s) (unsigned_later false true (suc p) xs))
      (λ e. cases (eqb x 43) (λ f. rw (e, f, numeral, s) (unsigned_later false false (suc p) xs)) (λ f. rw (e, f, numeral) (unsigned_later true false p (x ∷ xs))))

  joined_later : (c : ℕ) (d : Decoded) → joined c (later_decoded b d) ≡ later_decoded b (joined c d)
  unfolding joined
  joined_later c (decoded d) = refl
  joined_later c (wrong_hash q) = refl

  decode_later : (e : Escape) (p : ℕ) (xs : Bytes) → decode (later_escape b e) (b + p) xs ≡ later_decoded b (decode e p xs)
  unfolding decode
  decode_later plain p [] = refl
  decode_later (hash s) p [] = refl
  decode_later (half s h) p [] = refl
  decode_later plain p (x ∷ xs) =
      let s : suc (b + p) ≡ b + suc p = omega arith in
      cases (eqb x 35)
      (λ e. rw (e, decode, s) (decode_later (hash p) (suc p) xs))
      (λ e. rw (e, decode, s) (ap (joined x) (decode_later plain (suc p) xs) ∙ joined_later x _))
  decode_later (hash t) p (x ∷ xs) =
      let s : suc (b + p) ≡ b + suc p = omega arith in
      cases_o (hex_digit x) (λ e. rw (e, decode) refl) (λ h e. rw (e, decode, s) (decode_later (half t h) (suc p) xs))
  decode_later (half t h) p (x ∷ xs) =
      let s : suc (b + p) ≡ b + suc p = omega arith in
      cases_o (hex_digit x)
      (λ e. rw (e, decode) refl)
      (λ l e. cases (eqb (h * 16 + l) 0) (λ f. rw (e, f, decode) refl) (λ f. rw (e, f, decode, s) (ap (joined (h * 16 + l)) (decode_later plain (suc p) xs) ∙ joined_later (h * 16 + l) _)))

  onward_later : (s : Span) (k l : ℕ → Bytes → Span) → ((q : ℕ) (ys : Bytes) → k (b + q) ys ≡ later_span b (l q ys)) → onward (later_span b s) k ≡ later_span b (onward s l)
  onward_later (closed q ys) k l h = h q ys
  onward_later unclosed k l h = refl
  onward_later (too_deep_at q) k l h = refl
  onward_later (broken_at q) k l h = refl

  literal_later : (inner : Bracketed) → ((p : ℕ) (xs : Bytes) → inner (b + p) xs ≡ later_span b (inner p xs)) →
      (n p : ℕ) (xs : Bytes) → literal inner n (b + p) xs ≡ later_span b (literal inner n p xs)
  unfolding literal
  literal_later inner h zero p xs = refl
  literal_later inner h (suc n) p [] = refl
  literal_later inner h (suc n) p (x ∷ xs) =
      let s : suc (b + p) ≡ b + suc p = omega arith in
      cases (eqb x 41)
      (λ e. rw (e, literal, s) refl)
      (λ e.
      cases (eqb x 40)
      (λ f. rw (e, f, literal) (rw (h p xs) (onward_later (inner p xs) _ _ (λ q ys. literal_later inner h n q ys))))
      (λ f.
      cases (eqb x 92)
      (λ g. escaped xs (λ q ys. literal_later inner h n q ys) e f g)
      (λ g. rw (e, f, g, literal, s) (literal_later inner h n (suc p) xs))))
    where
      escaped : (ys : Bytes) → ((q : ℕ) (zs : Bytes) → literal inner n (b + q) zs ≡ later_span b (literal inner n q zs)) → eqb x 41 ≡ false → eqb x 40 ≡ false → eqb x 92 ≡ true →
          literal inner (suc n) (b + p) (x ∷ ys) ≡ later_span b (literal inner (suc n) p (x ∷ ys))
      escaped [] k e f g = rw (e, f, g, literal) refl
      escaped (y ∷ ys) k e f g = let s : suc (suc (b + p)) ≡ b + suc (suc p) = omega arith in rw (e, f, g, literal, s) (k (suc (suc p)) ys)

  string_by_later : (d p : ℕ) (xs : Bytes) → string_by d (b + p) xs ≡ later_span b (string_by d p xs)
  unfolding string_by
  string_by_later zero p xs = refl
  string_by_later (suc d) p xs = let s : suc (b + p) ≡ b + suc p = omega arith in rw s (literal_later (string_by d) (λ q ys. string_by_later d q ys) turns (suc p) xs)

  hex_string_later : (p : ℕ) (xs : Bytes) → hex_string (b + p) xs ≡ later_span b (hex_string p xs)
  unfolding hex_string
  hex_string_later p [] = refl
  hex_string_later p (x ∷ xs) =
      let s : suc (b + p) ≡ b + suc p = omega arith in
      cases (eqb x 62)
      (λ e. rw (e, hex_string, s) refl)
      (λ e. cases (is_hex x || is_white x) (λ f. rw (e, f, hex_string, s) (hex_string_later (suc p) xs)) (λ f. rw (e, f, hex_string) refl))

  -- a kind with the bytes of a string has no place
  string_token_later : (k : Bytes → Kind) (f : ℕ → Flaw) → ((w : Bytes) → k w ≡ later_kind b (k w)) → ((q : ℕ) → f (b + q) ≡ later_flaw b (f q)) →
      (p : ℕ) (xs : Bytes) (s : Span) → string_token k f (b + p) xs (later_span b s) ≡ later_token b (string_token k f p xs s)
  unfolding string_token end_of
  string_token_later k f h g p xs (closed q ys) = rw (up_to_later p q xs) (ap (λ v. tok v (b + p) xs (b + q) ys) (h (up_to p xs q)))
  string_token_later k f h g p xs unclosed = let s : b + p + length xs ≡ b + (p + length xs) = omega arith in rw s refl
  string_token_later k f h g p xs (too_deep_at q) = refl
  string_token_later k f h g p xs (broken_at q) = ap (λ v. tok (flawed v) (b + p) xs (b + p) xs) (g q)

  less_later : (p x : ℕ) (xs : Bytes) → after_less (b + p) x xs ≡ later_token b (after_less p x xs)
  unfolding after_less
  less_later p x [] = let s : suc (b + p) ≡ b + suc p = omega arith in rw s refl
  less_later p x (y ∷ ys) =
      let s : suc (b + p) ≡ b + suc p = omega arith in
      cases (eqb y 60)
      (λ e. let t : suc (suc (b + p)) ≡ b + suc (suc p) = omega arith in rw (e, after_less, t) refl)
      (λ e. rw (e, after_less, s, hex_string_later (suc p) (y ∷ ys)) (string_token_later hex bad_hex (λ w. refl) (λ q. refl) p (x ∷ y ∷ ys) (hex_string (suc p) (y ∷ ys))))

  greater_later : (p x : ℕ) (xs : Bytes) → after_greater (b + p) x xs ≡ later_token b (after_greater p x xs)
  unfolding after_greater
  greater_later p x [] = let s : suc (b + p) ≡ b + suc p = omega arith in rw s refl
  greater_later p x (y ∷ ys) =
      let s : suc (b + p) ≡ b + suc p = omega arith in
      cases (eqb y 62)
      (λ e. let t : suc (suc (b + p)) ≡ b + suc (suc p) = omega arith in rw (e, after_greater, t) refl)
      (λ e. rw (e, after_greater, s) refl)

  name_kind_later : (d : Decoded) → name_kind (later_decoded b d) ≡ later_kind b (name_kind d)
  unfolding name_kind
  name_kind_later (decoded d) = refl
  name_kind_later (wrong_hash q) = refl

  name_later : (p x : ℕ) (xs : Bytes) → name_token (b + p) x xs (span is_regular (suc (b + p)) xs) ≡ later_token b (name_token p x xs (span is_regular (suc p) xs))
  unfolding name_token
  name_later p x xs =
      let s : suc (b + p) ≡ b + suc p = omega arith in
      let r = span is_regular (suc p) xs in
      let k : name_kind (decode plain (b + suc p) r.0) ≡ later_kind b (name_kind (decode plain (suc p) r.0)) = ap name_kind (decode_later plain (suc p) r.0) ∙ name_kind_later (decode plain (suc p) r.0) in
      rw (s, span_later is_regular (suc p) xs) (ap (λ v. tok v (b + p) (x ∷ xs) (b + r.1) r.2) k)

  byte_later : (k : Kind) (p x : ℕ) (xs : Bytes) → k ≡ later_kind b k → one_byte k (b + p) x xs ≡ later_token b (one_byte k p x xs)
  byte_later k p x xs h = let s : suc (b + p) ≡ b + suc p = omega arith in rw s (ap (λ v. tok v (b + p) (x ∷ xs) (b + suc p) xs) h)

  marked_later : (p x : ℕ) (xs : Bytes) → marked (b + p) x xs ≡ later_token b (marked p x xs)
  unfolding marked string
  marked_later p x xs =
      cases (eqb x 47) (λ e. rw (e, marked) (name_later p x xs))
      (λ e.
      cases (eqb x 40) (λ f. rw (e, f, marked, string_by_later 32 p xs) (string_token_later text (λ q. stray) (λ w. refl) (λ q. refl) p (x ∷ xs) (string_by 32 p xs)))
      (λ f.
      cases (eqb x 60) (λ g. rw (e, f, g, marked) (less_later p x xs))
      (λ g.
      cases (eqb x 62) (λ h. rw (e, f, g, h, marked) (greater_later p x xs))
      (λ h.
      cases (eqb x 91) (λ i. rw (e, f, g, h, i, marked) (byte_later (mark open_array) p x xs refl))
      (λ i.
      cases (eqb x 93) (λ j. rw (e, f, g, h, i, j, marked) (byte_later (mark close_array) p x xs refl))
      (λ j. rw (e, f, g, h, i, j, marked) (byte_later (flawed stray) p x xs refl)))))))

  numeral_kind_later : (w : Bytes) (n : Numeral) → numeral_kind w (later_numeral b n) ≡ later_kind b (numeral_kind w n)
  unfolding numeral_kind
  numeral_kind_later w (whole u z) = refl
  numeral_kind_later w fraction = refl
  numeral_kind_later w past_bound = refl
  numeral_kind_later w (no_number q) = refl

  run_kind_later : (p x : ℕ) (w : Bytes) → run_kind (b + p) x w ≡ later_kind b (run_kind p x w)
  unfolding run_kind
  run_kind_later p x w =
      cases (starts_number x) (λ e. rw (e, run_kind) (ap (numeral_kind w) (numeral_later p w) ∙ numeral_kind_later w (numeral p w))) (λ e. rw (e, run_kind) refl)

  run_later : (p x : ℕ) (xs : Bytes) → run_token (b + p) x xs (span is_regular (suc (b + p)) xs) ≡ later_token b (run_token p x xs (span is_regular (suc p) xs))
  unfolding run_token
  run_later p x xs =
      let s : suc (b + p) ≡ b + suc p = omega arith in
      let r = span is_regular (suc p) xs in
      rw (s, span_later is_regular (suc p) xs) (ap (λ v. tok v (b + p) (x ∷ xs) (b + r.1) r.2) (run_kind_later p x (x ∷ r.0)))

  -- the token that starts at a place
  pub start_later : (p : ℕ) (xs : Bytes) → start_at (b + p) xs ≡ later_token b (start_at p xs)
  unfolding start_at
  start_later p [] = refl
  start_later p (x ∷ xs) = cases (is_regular x) (λ e. rw (e, start_at) (run_later p x xs)) (λ e. rw (e, start_at) (marked_later p x xs))

  -- the next token
  pub token_later : (p : ℕ) (xs : Bytes) → token_at (b + p) xs ≡ later_token b (token_at p xs)
  unfolding token_at
  token_later p xs = rw (skip_later false p xs) (start_later (skip false p xs).0 (skip false p xs).1)

  -- the fault of a flaw
  pub flaw_later : (p : ℕ) (f : Flaw) → flaw_fault (b + p) (later_flaw b f) ≡ later_fault b (flaw_fault p f)
  unfolding flaw_fault
  flaw_later p (bad_name q) = refl
  flaw_later p (bad_number q) = refl
  flaw_later p (bad_hex q) = refl
  flaw_later p stray = refl
  flaw_later p (cut_short q) = refl
  flaw_later p (deep_bracket q) = refl
  flaw_later p out_of_range = refl
