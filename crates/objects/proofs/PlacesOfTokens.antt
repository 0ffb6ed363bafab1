-- A token lies within the bytes in which it is read, and so does the place of its flaw.
use Rattle.std.proofs.Common.{◌≡◌, ℕ, zero, suc, ◌+◌, ◌-◌, ◌<◌, ◌≤◌, true, false, ◌||◌, eqb, [], ◌∷◌, length, take, drop, sym, refl, ap, ◌∙◌, arith}
use Rattle.format.specs.Bytes.{Bytes, end_of, up_to, is_white, is_regular, span}
use Rattle.format.specs.Space.{skip}
use Rattle.format.specs.Numbers.{Numeral, whole, fraction, past_bound, no_number, starts_number, numeral}
use Rattle.format.specs.Names.{Decoded, decoded, wrong_hash, plain, decode}
use Rattle.format.specs.Strings.{Span, closed, unclosed, too_deep_at, broken_at, Bracketed, onward, turns, literal, string_by, string, is_hex, hex_string}
use Rattle.format.specs.Tokens.{Flaw, bad_hex, stray, cut_short, deep_bracket, Kind, int, real, name, text, hex, mark, word, ended, flawed, flaw_fault, open_array, close_array, open_dict, close_dict, Token, tok, one_byte, string_token, after_less, after_greater, name_kind, name_token, marked, numeral_kind, run_kind, run_token, start_at, token_at}
use Rattle.lexer.specs.Spelled.{spelled}
use Rattle.lexer.proofs.Names.{spelled_is}
use Rattle.objects.proofs.Cases.{cases}
use Rattle.objects.proofs.Places.{At, Past, on, here, sooner, skip_past, span_past, span_run}

-- a string that ends within the bytes, not before p
abbrev SpanIn : Bytes → ℕ → Span → Type 0
SpanIn src p (closed q ys) = Past src p q ys
SpanIn src p unclosed = Unit {0}
SpanIn src p (too_deep_at q) = q ≤ length src
SpanIn src p (broken_at q) = q ≤ length src

-- A token from p to q takes a byte, and a name's bytes behind the `/` spell what it stands for; the fault of a flaw lies within the bytes.
abbrev pub Stands : Bytes → ℕ → ℕ → Kind → Type 0
Stands src p q (int u z) = p < q
Stands src p q (real w) = p < q
Stands src p q (name d) = (p < q) × (d ≡ spelled (take (q - suc p) (drop (suc p) src)))
Stands src p q (text w) = p < q
Stands src p q (hex w) = p < q
Stands src p q (mark m) = p < q
Stands src p q (word w) = p < q
Stands src p q ended = Unit {0}
Stands src p q (flawed f) = (flaw_fault p f).place ≤ length src

-- a token that is looked for from p on
pub record TokenIn (src : Bytes) (p : ℕ) (t : Token) : Type 0 where
  pub starts : p ≤ t.from
  pub bytes : At src t.from t.bytes
  pub ends : Past src t.from t.to t.rest
  pub stands : Stands src t.from t.to t.kind

module _ (src : Bytes) where
  span_sooner : (p r : ℕ) → p ≤ r → (s : Span) → SpanIn src r s → SpanIn src p s
  span_sooner p r h (closed q ys) b = sooner p r h b
  span_sooner p r h unclosed b = tt
  span_sooner p r h (too_deep_at q) b = b
  span_sooner p r h (broken_at q) b = b

  onward_in : (p : ℕ) (s : Span) (k : ℕ → Bytes → Span) → SpanIn src (suc p) s → ((q : ℕ) (ys : Bytes) → At src q ys → SpanIn src q (k q ys)) → SpanIn src p (onward s k)
  onward_in p (closed q ys) k h f = let l = h.low in span_sooner p q (omega arith) (k q ys) (f q ys h.at)
  onward_in p unclosed k h f = tt
  onward_in p (too_deep_at q) k h f = h
  onward_in p (broken_at q) k h f = h

  literal_in : (inner : Bracketed) → ((p : ℕ) (xs : Bytes) → At src (suc p) xs → SpanIn src (suc p) (inner p xs)) →
      (n p : ℕ) (xs : Bytes) → At src p xs → SpanIn src p (literal inner n p xs)
  unfolding literal
  literal_in inner h zero p xs a = tt
  literal_in inner h (suc n) p [] a = tt
  literal_in inner h (suc n) p (x ∷ xs) a =
      cases (eqb x 41)
      (λ e. rw (e, literal) (sooner p (suc p) (omega arith) (here (on a))))
      (λ e.
      cases (eqb x 40)
      (λ f. rw (e, f, literal) (onward_in p (inner p xs) _ (h p xs (on a)) (λ q ys b. literal_in inner h n q ys b)))
      (λ f.
      cases (eqb x 92)
      (λ g. escaped xs a (λ q ys b. literal_in inner h n q ys b) e f g)
      (λ g. rw (e, f, g, literal) (span_sooner p (suc p) (omega arith) (literal inner n (suc p) xs) (literal_in inner h n (suc p) xs (on a))))))
    where
      escaped : (ys : Bytes) → At src p (x ∷ ys) → ((q : ℕ) (zs : Bytes) → At src q zs → SpanIn src q (literal inner n q zs)) → eqb x 41 ≡ false → eqb x 40 ≡ false → eqb x 92 ≡ true →
          SpanIn src p (literal inner (suc n) p (x ∷ ys))
      escaped [] b k e f g = rw (e, f, g, literal) tt
      escaped (y ∷ ys) b k e f g = rw (e, f, g, literal) (span_sooner p (suc (suc p)) (omega arith) (literal inner n (suc (suc p)) ys) (k (suc (suc p)) ys (on (on b))))

  string_by_in : (d p : ℕ) (xs : Bytes) → At src (suc p) xs → SpanIn src (suc p) (string_by d p xs)
  unfolding string_by
  string_by_in zero p xs a = let c = a.count in omega arith
  string_by_in (suc d) p xs a = literal_in (string_by d) (λ q ys b. string_by_in d q ys b) turns (suc p) xs a

  hex_in : (p : ℕ) (xs : Bytes) → At src p xs → SpanIn src p (hex_string p xs)
  unfolding hex_string
  hex_in p [] a = tt
  hex_in p (x ∷ xs) a =
      cases (eqb x 62)
      (λ e. rw (e, hex_string) (sooner p (suc p) (omega arith) (here (on a))))
      (λ e.
      cases (is_hex x || is_white x)
      (λ f. rw (e, f, hex_string) (span_sooner p (suc p) (omega arith) (hex_string (suc p) xs) (hex_in (suc p) xs (on a))))
      (λ f. rw (e, f, hex_string) (let c = a.count in omega arith)))

  -- a token at p of which the bytes from there on are xs
  token_of : (k : Kind) (p : ℕ) (xs : Bytes) (q : ℕ) (ys : Bytes) → At src p xs → Past src p q ys → Stands src p q k → TokenIn src p (tok k p xs q ys)
  token_of k p xs q ys a b s = record { starts = omega arith; bytes = a; ends = b; stands = s }

  string_in : (k : Bytes → Kind) (f : ℕ → Flaw) (p : ℕ) (xs : Bytes) → ((w : Bytes) (q : ℕ) → p < q → Stands src p q (k w)) → ((q : ℕ) → (flaw_fault p (f q)).place ≤ length src) →
      At src p xs → (s : Span) → SpanIn src (suc p) s → TokenIn src p (string_token k f p xs s)
  unfolding string_token flaw_fault end_of
  string_in k f p xs g h a (closed q ys) i = let l = i.low in token_of (k (up_to p xs q)) p xs q ys a (sooner p (suc p) (omega arith) i) (g (up_to p xs q) q (omega arith))
  string_in k f p xs g h a unclosed i = let c = a.count in token_of (flawed (cut_short (p + length xs))) p xs p xs a (here a) (omega arith)
  string_in k f p xs g h a (too_deep_at q) i = token_of (flawed (deep_bracket q)) p xs p xs a (here a) i
  string_in k f p xs g h a (broken_at q) i = token_of (flawed (f q)) p xs p xs a (here a) (h q)

  byte_in : (k : Kind) (p x : ℕ) (xs : Bytes) → At src p (x ∷ xs) → Stands src p (suc p) k → TokenIn src p (one_byte k p x xs)
  byte_in k p x xs a s = token_of k p (x ∷ xs) (suc p) xs a (sooner p (suc p) (omega arith) (here (on a))) s

  two_in : (k : Kind) (p x y : ℕ) (ys : Bytes) → At src p (x ∷ y ∷ ys) → Stands src p (suc (suc p)) k → TokenIn src p (tok k p (x ∷ y ∷ ys) (suc (suc p)) ys)
  two_in k p x y ys a s = token_of k p (x ∷ y ∷ ys) (suc (suc p)) ys a (sooner p (suc (suc p)) (omega arith) (here (on (on a)))) s

  less_in : (p x : ℕ) (xs : Bytes) → At src p (x ∷ xs) → TokenIn src p (after_less p x xs)
  unfolding after_less flaw_fault
  less_in p x [] a = let c = a.count in byte_in (flawed (cut_short (suc p))) p x [] a (omega arith)
  less_in p x (y ∷ ys) a =
      cases (eqb y 60)
      (λ e. rw (e, after_less) (two_in (mark open_dict) p x y ys a (omega arith)))
      (λ e. rw (e, after_less) (string_in hex bad_hex p (x ∷ y ∷ ys) (λ w q l. l) (λ q. let c = a.count in omega arith) a (hex_string (suc p) (y ∷ ys)) (hex_in (suc p) (y ∷ ys) (on a))))

  greater_in : (p x : ℕ) (xs : Bytes) → At src p (x ∷ xs) → TokenIn src p (after_greater p x xs)
  unfolding after_greater flaw_fault
  greater_in p x [] a = let c = a.count in byte_in (flawed (cut_short (suc p))) p x [] a (omega arith)
  greater_in p x (y ∷ ys) a =
      cases (eqb y 62)
      (λ e. rw (e, after_greater) (two_in (mark close_dict) p x y ys a (omega arith)))
      (λ e. let c = a.count in rw (e, after_greater) (byte_in (flawed stray) p x (y ∷ ys) a (omega arith)))

  name_stands : (p q : ℕ) (w : Bytes) (d : Decoded) → p < q → p ≤ length src → w ≡ take (q - suc p) (drop (suc p) src) → decode plain (suc p) w ≡ d → Stands src p q (name_kind d)
  unfolding name_kind flaw_fault
  name_stands p q w (decoded d) l h e f = (l, sym (spelled_is (suc p) w d f) ∙ ap spelled e)
  name_stands p q w (wrong_hash s) l h e f = h

  name_in : (p x : ℕ) (xs : Bytes) → At src p (x ∷ xs) → TokenIn src p (name_token p x xs (span is_regular (suc p) xs))
  unfolding name_token
  name_in p x xs a =
      let c = a.count in
      let b = span_past src is_regular (suc p) xs (on a) in
      let l = b.low in
      let r = span is_regular (suc p) xs in
      let w : r.0 ≡ take (r.1 - suc p) (drop (suc p) src) = (span_run is_regular (suc p) xs).1 ∙ ap (take (r.1 - suc p)) (sym (on a).there) in
      token_of (name_kind (decode plain (suc p) r.0)) p (x ∷ xs) r.1 r.2 a (sooner p (suc p) (omega arith) b)
      (name_stands p r.1 r.0 (decode plain (suc p) r.0) (omega arith) (omega arith) w refl)

  marked_in : (p x : ℕ) (xs : Bytes) → At src p (x ∷ xs) → TokenIn src p (marked p x xs)
  unfolding marked string flaw_fault
  marked_in p x xs a =
      let c = a.count in
      cases (eqb x 47) (λ e. rw (e, marked) (name_in p x xs a))
      (λ e.
      cases (eqb x 40) (λ f. rw (e, f, marked) (string_in text (λ q. stray) p (x ∷ xs) (λ w q l. l) (λ q. omega arith) a (string_by 32 p xs) (string_by_in 32 p xs (on a))))
      (λ f.
      cases (eqb x 60) (λ g. rw (e, f, g, marked) (less_in p x xs a))
      (λ g.
      cases (eqb x 62) (λ h. rw (e, f, g, h, marked) (greater_in p x xs a))
      (λ h.
      cases (eqb x 91) (λ i. rw (e, f, g, h, i, marked) (byte_in (mark open_array) p x xs a (omega arith)))
      (λ i.
      cases (eqb x 93) (λ j. rw (e, f, g, h, i, j, marked) (byte_in (mark close_array) p x xs a (omega arith)))
      (λ j. rw (e, f, g, h, i, j, marked) (byte_in (flawed stray) p x xs a (omega arith))))))))

  numeral_stands : (p q : ℕ) (w : Bytes) (n : Numeral) → p < q → p ≤ length src → Stands src p q (numeral_kind w n)
  unfolding numeral_kind flaw_fault
  numeral_stands p q w (whole u z) l h = l
  numeral_stands p q w fraction l h = l
  numeral_stands p q w past_bound l h = h
  numeral_stands p q w (no_number s) l h = h

  run_stands : (p q x : ℕ) (w : Bytes) → p < q → p ≤ length src → Stands src p q (run_kind p x w)
  unfolding run_kind
  run_stands p q x w l h = cases (starts_number x) (λ e. rw (e, run_kind) (numeral_stands p q w (numeral p w) l h)) (λ e. rw (e, run_kind) l)

  run_in : (p x : ℕ) (xs : Bytes) → At src p (x ∷ xs) → TokenIn src p (run_token p x xs (span is_regular (suc p) xs))
  unfolding run_token
  run_in p x xs a =
      let c = a.count in
      let b = span_past src is_regular (suc p) xs (on a) in
      let l = b.low in
      let r = span is_regular (suc p) xs in
      token_of (run_kind p x (x ∷ r.0)) p (x ∷ xs) r.1 r.2 a (sooner p (suc p) (omega arith) b) (run_stands p r.1 x (x ∷ r.0) (omega arith) (omega arith))

  -- the token that starts at p
  pub start_in : (p : ℕ) (xs : Bytes) → At src p xs → TokenIn src p (start_at p xs)
  unfolding start_at
  start_in p [] a = token_of ended p [] p [] a (here a) tt
  start_in p (x ∷ xs) a = cases (is_regular x) (λ e. rw (e, start_at) (run_in p x xs a)) (λ e. rw (e, start_at) (marked_in p x xs a))

  -- the next token
  pub token_in_fact : (p : ℕ) (xs : Bytes) → At src p xs → TokenIn src p (token_at p xs)
  unfolding token_at
  token_in_fact p xs a =
      let b = skip_past src false p xs a in
      let l = b.low in
      let t = start_in (skip false p xs).0 (skip false p xs).1 b.at in
      let m = t.starts in
      record { starts = omega arith; bytes = t.bytes; ends = t.ends; stands = t.stands }
