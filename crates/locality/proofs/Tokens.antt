-- A token's own bytes decide it.
use Rattle.std.proofs.Common.{◌≡◌, ℕ, suc, ◌+◌, Bool, true, false, eqb, [], ◌∷◌, ◌++◌, length, sym, refl, ap, ◌∙◌, subst, arith, eqb-true}
use Rattle.format.specs.Bytes.{Bytes, is_white, is_eol, is_regular, is_delimiter, span, up_to}
use Rattle.format.specs.Space.{skip}
use Rattle.format.specs.Strings.{Span, closed, unclosed, too_deep_at, broken_at, string, hex_string}
use Rattle.format.specs.Tokens.{Kind, text, hex, mark, open_array, close_array, open_dict, close_dict, ended, Flaw, bad_hex, stray, Token, tok, one_byte, string_token, after_less, after_greater, name_token, marked, run_kind, run_token, start_at, token_at}
use Rattle.locality.specs.Locality.{stops, Good, is_run, Fits, Taken, TokensAreLocal}
use Rattle.locality.proofs.Cases.{cases, not_both}
use Rattle.locality.proofs.Local.{up_to_taken}
use Rattle.locality.proofs.Runs.{span_parts, span_stops, span_again, run_steady, name_steady}
use Rattle.locality.proofs.Strings.{Closes, string_closes, hex_string_closes}

-- white space and comments before the byte x
pub record Gap (c : Bool) (xs : Bytes) (x : ℕ) (rest : Bytes) : Type 0 where
  pub pre : Bytes
  pub parts : xs ≡ pre ++ (x ∷ rest)
  pub again : (p : ℕ) (ys : Bytes) → skip c p (pre ++ (x ∷ ys)) ≡ (p + length pre, x ∷ ys)

gap_more : {c d : Bool} {xs : Bytes} {x : ℕ} {rest : Bytes} (y : ℕ) → ((p : ℕ) (ys : Bytes) → skip c p (y ∷ ys) ≡ skip d (suc p) ys) → Gap d xs x rest → Gap c (y ∷ xs) x rest
gap_more {x = x} y f l = record {
  pre = y ∷ l.pre;
  parts = ap {B = Bytes} (λ ys. y ∷ ys) l.parts;
  again = λ p ys. f p (l.pre ++ (x ∷ ys)) ∙ l.again (suc p) ys ∙ (let e : suc p + length l.pre ≡ p + suc (length l.pre) = omega arith in λ i. (e i, x ∷ ys));
}

gap_none : (y : ℕ) (xs : Bytes) (x : ℕ) (rest : Bytes) → is_white y ≡ false → eqb y 37 ≡ false → y ≡ x → xs ≡ rest → Gap false (y ∷ xs) x rest
unfolding skip
gap_none y xs x rest a b e f = record {
  pre = [];
  parts = cc;
  again = λ p ys. let a' : is_white x ≡ false = rw e at a in let b' : eqb x 37 ≡ false = rw e at b in
      rw (a', b', skip) (let q : p ≡ p + 0 = omega arith in λ i. (q i, x ∷ ys));
}

-- what was skipped before a byte is skipped before it whatever follows
pub skip_local : (c : Bool) (p : ℕ) (xs : Bytes) (x : ℕ) (rest : Bytes) → (skip c p xs).1 ≡ x ∷ rest → Gap c xs x rest
unfolding skip
skip_local true p [] x rest e = absurd (let w : ◌≡◌ {A = ℕ} 0 1 = cc in omega arith)
skip_local false p [] x rest e = absurd (let w : ◌≡◌ {A = ℕ} 0 1 = cc in omega arith)
skip_local true p (y ∷ xs) x rest e =
    cases (is_eol y)
    (λ a. gap_more y (λ p' ys. rw (a, skip) refl) (skip_local false (suc p) xs x rest (rw (a, skip) at e)))
    (λ a. gap_more y (λ p' ys. rw (a, skip) refl) (skip_local true (suc p) xs x rest (rw (a, skip) at e)))
skip_local false p (y ∷ xs) x rest e =
    cases (is_white y)
    (λ a. gap_more y (λ p' ys. rw (a, skip) refl) (skip_local false (suc p) xs x rest (rw (a, skip) at e)))
    (λ a.
    cases (eqb y 37)
    (λ b. gap_more y (λ p' ys. rw (a, b, skip) refl) (skip_local true (suc p) xs x rest (rw (a, b, skip) at e)))
    (λ b. let e' : y ∷ xs ≡ x ∷ rest = rw (a, b, skip) at e in gap_none y xs x rest a b (cc) (cc)))

-- a token's own bytes from its first byte on: they decide it before any bytes that do not lengthen it
pub record Own (xs : Bytes) (t : Token) : Type 0 where
  pub core : Bytes
  pub parts : xs ≡ core ++ t.rest
  pub held : t.bytes ≡ xs
  pub again : (p : ℕ) (ys : Bytes) → Fits t.kind ys → start_at p (core ++ ys) ≡ tok t.kind p (core ++ ys) (p + length core) ys

own_run : (p x : ℕ) (xs : Bytes) → is_regular x ≡ true → Good (start_at p (x ∷ xs)).kind → Own (x ∷ xs) (start_at p (x ∷ xs))
unfolding start_at run_token
own_run p x xs a g =
    let r : Bytes = (span is_regular (suc p) xs).0 in
    let g' : Good (run_kind p x (x ∷ r)) = rw (a, start_at) at g in
    let s = run_steady p x r g' in
    rw (a, start_at)
    (record {
      core = x ∷ r;
      parts = ap {B = Bytes} (λ ys. x ∷ ys) (span_parts is_regular (suc p) xs);
      held = refl;
      again = λ p' ys h.
          rw (a, start_at)
          (rw (span_again is_regular (suc p) xs (suc p') ys (h s.0))
          (let q : suc p' + length r ≡ p' + suc (length r) = omega arith in
          let k = s.1 p' in
          λ i. tok (k i) p' (x ∷ (r ++ ys)) (q i) ys));
    })

own_byte : (k : Kind) (p x : ℕ) (xs : Bytes) → ((p' : ℕ) (ys : Bytes) → start_at p' (x ∷ ys) ≡ one_byte k p' x ys) → Own (x ∷ xs) (one_byte k p x xs)
own_byte k p x xs f = record {
  core = x ∷ [];
  parts = refl;
  held = refl;
  again = λ p' ys h. f p' ys ∙ (let q : suc p' ≡ p' + 1 = omega arith in λ i. tok k p' (x ∷ ys) (q i) ys);
}

-- A string that its reader closes at q: its bytes behind the first byte x, how they close it before any bytes, and that such bytes start a string.
-- The reader r of a string at p is given the place o p.
record StringTaken (k : Bytes → Kind) (f : ℕ → Flaw) (r : ℕ → Bytes → Span) (o : ℕ → ℕ) (p x : ℕ) (xs : Bytes) (q : ℕ) (rest : Bytes) : Type 0 where
  pre : Bytes
  parts : xs ≡ pre ++ rest
  at : q ≡ p + suc (length pre)
  again : (p' : ℕ) (ys : Bytes) → r (o p') (pre ++ ys) ≡ closed (p' + suc (length pre)) ys
  starts : (p' : ℕ) (ys : Bytes) → start_at p' (x ∷ (pre ++ ys)) ≡ string_token k f p' (x ∷ (pre ++ ys)) (r (o p') (pre ++ ys))

own_string : (k : Bytes → Kind) (f : ℕ → Flaw) (r : ℕ → Bytes → Span) (o : ℕ → ℕ) (p x : ℕ) (xs : Bytes) →
    ((q : ℕ) (rest : Bytes) → r (o p) xs ≡ closed q rest → StringTaken k f r o p x xs q rest) →
    Good (string_token k f p (x ∷ xs) (r (o p) xs)).kind → Own (x ∷ xs) (string_token k f p (x ∷ xs) (r (o p) xs))
unfolding string_token Good
own_string k f r o p x xs h g = go (r (o p) xs) refl g
  where
    go : (z : Span) → r (o p) xs ≡ z → Good (string_token k f p (x ∷ xs) z).kind → Own (x ∷ xs) (string_token k f p (x ∷ xs) z)
    go unclosed e g' = absurd g'
    go (too_deep_at a) e g' = absurd g'
    go (broken_at a) e g' = absurd g'
    go (closed q rest) e g' =
        let l = h q rest e in
        let w : Bytes = l.pre in
        let own : up_to p (x ∷ xs) q ≡ x ∷ w = rw l.parts (up_to_taken p q (x ∷ w) rest l.at) in
        record {
          core = x ∷ w;
          parts = ap {B = Bytes} (λ ys. x ∷ ys) l.parts;
          held = refl;
          again = λ p' ys _.
              l.starts p' ys
              ∙ rw (l.again p' ys)
              (let same : up_to p' (x ∷ (w ++ ys)) (p' + suc (length w)) ≡ up_to p (x ∷ xs) q = up_to_taken p' (p' + suc (length w)) (x ∷ w) ys refl ∙ sym own in
              λ i. tok (k (same i)) p' (x ∷ (w ++ ys)) (p' + suc (length w)) ys);
        }

own_name : (p : ℕ) (xs : Bytes) → Good (start_at p (47 ∷ xs)).kind → Own (47 ∷ xs) (start_at p (47 ∷ xs))
unfolding start_at marked name_token is_regular is_white is_delimiter
own_name p xs g =
    let r : Bytes = (span is_regular (suc p) xs).0 in
    let s = name_steady (suc p) r g in
    record {
      core = 47 ∷ r;
      parts = ap {B = Bytes} (λ ys. 47 ∷ ys) (span_parts is_regular (suc p) xs);
      held = refl;
      again = λ p' ys h.
          rw (span_again is_regular (suc p) xs (suc p') ys (h s.0))
          (let q : suc p' + length r ≡ p' + suc (length r) = omega arith in
          let k = s.1 (suc p') in
          λ i. tok (k i) p' (47 ∷ (r ++ ys)) (q i) ys);
    }

own_text : (p : ℕ) (xs : Bytes) → Good (start_at p (40 ∷ xs)).kind → Own (40 ∷ xs) (start_at p (40 ∷ xs))
unfolding start_at marked is_regular is_white is_delimiter
own_text p xs g =
    own_string text (λ q. stray) string (λ n. n) p 40 xs (λ q rest e. go q rest (string_closes p xs q rest e)) g
  where
    go : (q : ℕ) (rest : Bytes) → Closes string suc p xs q rest → StringTaken text (λ a. stray) string (λ n. n) p 40 xs q rest
    go q rest l = record {
      pre = l.pre;
      parts = l.parts;
      at = l.at ∙ omega arith;
      again = λ p' ys. l.again p' ys ∙ (let e : suc p' + length l.pre ≡ p' + suc (length l.pre) = omega arith in λ i. closed (e i) ys);
      starts = λ p' ys. refl;
    }

own_dict : (p : ℕ) (xs : Bytes) → Own (60 ∷ 60 ∷ xs) (start_at p (60 ∷ 60 ∷ xs))
unfolding start_at marked after_less is_regular is_white is_delimiter
own_dict p xs = record {
  core = 60 ∷ 60 ∷ [];
  parts = refl;
  held = refl;
  again = λ p' ys h. let q : suc (suc p') ≡ p' + 2 = omega arith in λ i. tok (mark open_dict) p' (60 ∷ 60 ∷ ys) (q i) ys;
}

own_close : (p : ℕ) (xs : Bytes) → Own (62 ∷ 62 ∷ xs) (start_at p (62 ∷ 62 ∷ xs))
unfolding start_at marked after_greater is_regular is_white is_delimiter
own_close p xs = record {
  core = 62 ∷ 62 ∷ [];
  parts = refl;
  held = refl;
  again = λ p' ys h. let q : suc (suc p') ≡ p' + 2 = omega arith in λ i. tok (mark close_dict) p' (62 ∷ 62 ∷ ys) (q i) ys;
}

-- a hex string's own bytes start with the byte behind its mark
hex_front : (y : ℕ) (xs rest : Bytes) (pre : Bytes) → y ∷ xs ≡ pre ++ rest → hex_string 0 (pre ++ []) ≡ closed (0 + length pre) [] → eqb y 60 ≡ false → (p : ℕ) (ys : Bytes) →
    start_at p (60 ∷ (pre ++ ys)) ≡ string_token hex bad_hex p (60 ∷ (pre ++ ys)) (hex_string (suc p) (pre ++ ys))
unfolding start_at marked after_less is_regular is_white is_delimiter hex_string
hex_front y xs rest [] e h n p ys = absurd (let z : ◌≡◌ {A = ℕ} 0 1 = cc in omega arith)
hex_front y xs rest (z ∷ zs) e h n p ys = let q : y ≡ z = cc in let n' : eqb z 60 ≡ false = rw q at n in rw (n', after_less) refl

own_hex : (p y : ℕ) (xs : Bytes) → eqb y 60 ≡ false → Good (string_token hex bad_hex p (60 ∷ y ∷ xs) (hex_string (suc p) (y ∷ xs))).kind →
    Own (60 ∷ y ∷ xs) (string_token hex bad_hex p (60 ∷ y ∷ xs) (hex_string (suc p) (y ∷ xs)))
own_hex p y xs n g =
    own_string hex bad_hex hex_string suc p 60 (y ∷ xs) (λ q rest e. go q rest (hex_string_closes (suc p) (y ∷ xs) q rest e)) g
  where
    go : (q : ℕ) (rest : Bytes) → Closes hex_string (λ m. m) (suc p) (y ∷ xs) q rest → StringTaken hex bad_hex hex_string suc p 60 (y ∷ xs) q rest
    go q rest l = record {
      pre = l.pre;
      parts = l.parts;
      at = l.at ∙ omega arith;
      again = λ p' ys. l.again (suc p') ys ∙ (let e : suc p' + length l.pre ≡ p' + suc (length l.pre) = omega arith in λ i. closed (e i) ys);
      starts = λ p' ys. hex_front y xs rest l.pre l.parts (l.again 0 []) n p' ys;
    }

own_less : (p : ℕ) (xs : Bytes) → Good (start_at p (60 ∷ xs)).kind → Own (60 ∷ xs) (start_at p (60 ∷ xs))
unfolding start_at marked after_less is_regular is_white is_delimiter Good
own_less p [] g = absurd g
own_less p (y ∷ xs) g =
    cases (eqb y 60)
    (λ e. subst (λ c. Own (60 ∷ c ∷ xs) (start_at p (60 ∷ c ∷ xs))) (sym (eqb-true y 60 e)) (own_dict p xs))
    (λ e. rw (e, after_less) (own_hex p y xs e (rw (e, after_less) at g)))

own_greater : (p : ℕ) (xs : Bytes) → Good (start_at p (62 ∷ xs)).kind → Own (62 ∷ xs) (start_at p (62 ∷ xs))
unfolding start_at marked after_greater is_regular is_white is_delimiter Good
own_greater p [] g = absurd g
own_greater p (y ∷ xs) g =
    cases (eqb y 62)
    (λ e. subst (λ c. Own (62 ∷ c ∷ xs) (start_at p (62 ∷ c ∷ xs))) (sym (eqb-true y 62 e)) (own_close p xs))
    (λ e. absurd (rw (e, after_greater) at g))

abbrev OwnAt : ℕ → Bytes → ℕ → Type 0
OwnAt p xs c = Good (start_at p (c ∷ xs)).kind → Own (c ∷ xs) (start_at p (c ∷ xs))

own_square : (p : ℕ) (xs : Bytes) → OwnAt p xs 91
unfolding start_at marked is_regular is_white is_delimiter
own_square p xs g = own_byte (mark open_array) p 91 xs (λ p' ys. refl)

own_unsquare : (p : ℕ) (xs : Bytes) → OwnAt p xs 93
unfolding start_at marked is_regular is_white is_delimiter
own_unsquare p xs g = own_byte (mark close_array) p 93 xs (λ p' ys. refl)

-- the token that starts at a place is decided by its own bytes
pub start_own : (p : ℕ) (xs : Bytes) → Good (start_at p xs).kind → Own xs (start_at p xs)
unfolding start_at marked Good
start_own p [] g = absurd g
start_own p (x ∷ xs) g =
    cases (is_regular x) (λ a. own_run p x xs a g)
    (λ a.
    cases (eqb x 47) (λ b. subst (OwnAt p xs) (sym (eqb-true x 47 b)) (own_name p xs) g)
    (λ b.
    cases (eqb x 40) (λ c. subst (OwnAt p xs) (sym (eqb-true x 40 c)) (own_text p xs) g)
    (λ c.
    cases (eqb x 60) (λ d. subst (OwnAt p xs) (sym (eqb-true x 60 d)) (own_less p xs) g)
    (λ d.
    cases (eqb x 62) (λ e. subst (OwnAt p xs) (sym (eqb-true x 62 e)) (own_greater p xs) g)
    (λ e.
    cases (eqb x 91) (λ h. subst (OwnAt p xs) (sym (eqb-true x 91 h)) (own_square p xs) g)
    (λ h.
    cases (eqb x 93) (λ k. subst (OwnAt p xs) (sym (eqb-true x 93 k)) (own_unsquare p xs) g)
    (λ k. absurd (rw (a, b, c, d, e, h, k, start_at, marked, Good) at g))))))))

-- a token's own bytes are some
own_some : (x : ℕ) (zs : Bytes) (t : Token) → Good t.kind → Own (x ∷ zs) t → (c : Bytes) × (x ∷ zs ≡ (x ∷ c) ++ t.rest) × ((p : ℕ) (ys : Bytes) → Fits t.kind ys → start_at p (x ∷ (c ++ ys)) ≡ tok t.kind p (x ∷ (c ++ ys)) (p + suc (length c)) ys)
unfolding start_at stops Good
own_some x zs t g o = go o.core o.parts o.again
  where
    go : (d : Bytes) → x ∷ zs ≡ d ++ t.rest → ((p : ℕ) (ys : Bytes) → Fits t.kind ys → start_at p (d ++ ys) ≡ tok t.kind p (d ++ ys) (p + length d) ys) →
        (c : Bytes) × (x ∷ zs ≡ (x ∷ c) ++ t.rest) × ((p : ℕ) (ys : Bytes) → Fits t.kind ys → start_at p (x ∷ (c ++ ys)) ≡ tok t.kind p (x ∷ (c ++ ys)) (p + suc (length c)) ys)
    go [] e f = let k : ended ≡ t.kind = ap (λ (u : Token). u.kind) (f 0 [] (λ _. refl)) in absurd (subst Good (sym k) g)
    go (y ∷ d) e f = let q : y ≡ x = cc in let r : zs ≡ d ++ t.rest = cc in (d, ap {B = Bytes} (λ ys. x ∷ ys) r, rw (← q) f)

-- what the token reader took decides what it answers, before any bytes that do not lengthen the token
pub token_local : (p : ℕ) (xs : Bytes) → Good (token_at p xs).kind → Taken xs (token_at p xs)
unfolding token_at Good start_at
token_local p xs g = go (skip false p xs).1 refl g
  where
    go : (zs : Bytes) → (skip false p xs).1 ≡ zs → Good (start_at (skip false p xs).0 zs).kind → Taken xs (start_at (skip false p xs).0 (skip false p xs).1)
    go [] e h = absurd h
    go (x ∷ zs) e h =
        let q : ℕ = (skip false p xs).0 in
        let t : Token = start_at q (x ∷ zs) in
        let o = start_own q (x ∷ zs) h in
        let s = own_some x zs t h o in
        let w = skip_local false p xs x zs e in
        subst (λ ys. Taken xs (start_at q ys)) (sym e)
        (record {
          gap = w.pre;
          core = x ∷ s.0;
          parts = w.parts ∙ ap {B = Bytes} (λ ys. w.pre ++ ys) s.1;
          held = o.held ∙ s.1;
          again = λ p' ys f. rw (w.again p' (s.0 ++ ys)) (s.2 (p' + length w.pre) ys f);
        })

string_run : (k : Bytes → Kind) (f : ℕ → Flaw) (p : ℕ) (xs : Bytes) (z : Span) → ((w : Bytes) → is_run (k w) ≡ false) → is_run (string_token k f p xs z).kind ≡ false
unfolding string_token is_run
string_run k f p xs (closed q rest) e = e (up_to p xs q)
string_run k f p xs unclosed e = refl
string_run k f p xs (too_deep_at q) e = refl
string_run k f p xs (broken_at q) e = refl

text_run : (p : ℕ) (xs : Bytes) (z : Span) → is_run (string_token text (λ q. stray) p xs z).kind ≡ false
unfolding is_run
text_run p xs z = string_run text (λ q. stray) p xs z (λ w. refl)

less_run : (p x : ℕ) (xs : Bytes) → is_run (after_less p x xs).kind ≡ false
unfolding after_less is_run
less_run p x [] = refl
less_run p x (y ∷ ys) = cases (eqb y 60) (λ e. rw (e, after_less) refl) (λ e. rw (e, after_less) (string_run hex bad_hex p (x ∷ y ∷ ys) (hex_string (suc p) (y ∷ ys)) (λ w. refl)))

greater_run : (p x : ℕ) (xs : Bytes) → is_run (after_greater p x xs).kind ≡ false
unfolding after_greater is_run
greater_run p x [] = refl
greater_run p x (y ∷ ys) = cases (eqb y 62) (λ e. rw (e, after_greater) refl) (λ e. rw (e, after_greater) refl)

-- a token that starts at a place and that a regular byte would lengthen has none behind it
pub start_stops : (p : ℕ) (xs : Bytes) → is_run (start_at p xs).kind ≡ true → stops is_regular (start_at p xs).rest ≡ true
unfolding start_at marked run_token name_token is_run
start_stops p [] e = not_both (is_run ended) e refl
start_stops p (x ∷ xs) e =
    cases (is_regular x) (λ a. rw (a, start_at) (span_stops is_regular (suc p) xs))
    (λ a.
    cases (eqb x 47) (λ b. rw (a, b, start_at, marked) (span_stops is_regular (suc p) xs))
    (λ b.
    cases (eqb x 40) (λ c. not_both _ (rw (a, b, c, start_at, marked) at e) (text_run p (x ∷ xs) (string p xs)))
    (λ c.
    cases (eqb x 60) (λ d. not_both _ (rw (a, b, c, d, start_at, marked) at e) (less_run p x xs))
    (λ d.
    cases (eqb x 62) (λ f. not_both _ (rw (a, b, c, d, f, start_at, marked) at e) (greater_run p x xs))
    (λ f.
    cases (eqb x 91) (λ h. not_both _ (rw (a, b, c, d, f, h, start_at, marked) at e) refl)
    (λ h.
    cases (eqb x 93) (λ k. not_both _ (rw (a, b, c, d, f, h, k, start_at, marked) at e) refl)
    (λ k. not_both _ (rw (a, b, c, d, f, h, k, start_at, marked) at e) refl)))))))

-- a token that a regular byte would lengthen has none behind it
pub token_stops : (p : ℕ) (xs : Bytes) → is_run (token_at p xs).kind ≡ true → stops is_regular (token_at p xs).rest ≡ true
unfolding token_at
token_stops p xs e = start_stops (skip false p xs).0 (skip false p xs).1 e

-- the token itself, by what was taken
pub token_is : (p : ℕ) (xs : Bytes) (l : Taken xs (token_at p xs)) →
    token_at p xs ≡ tok (token_at p xs).kind (p + length l.gap) (l.core ++ (token_at p xs).rest) (p + length l.gap + length l.core) (token_at p xs).rest
token_is p xs l = ap (token_at p) l.parts ∙ l.again p (token_at p xs).rest (λ i. token_stops p xs i)

-- tokens are local
pub tokens_are_local : TokensAreLocal
tokens_are_local p xs g =
    let l = token_local p xs g in
    let e = token_is p xs l in
    record {
      taken = l;
      starts = ap (λ (t : Token). t.from) e;
      ends = ap (λ (t : Token). t.to) e;
      fits = λ i. token_stops p xs i;
    }
