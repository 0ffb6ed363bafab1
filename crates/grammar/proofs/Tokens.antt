-- Tokens are what the reader takes for them.
use Rattle.std.proofs.Common.{◌≡◌, ℕ, suc, ◌+◌, ◌<◌, true, false, not, eqb, [], ◌∷◌, ◌++◌, length, sym, refl, ap, ◌∙◌, subst, append_assoc, arith, length-append, eqb-true}
use borrow.Author.Tests.{not-true}
use Rattle.format.specs.Bytes.{Bytes, up_to, is_white, is_delimiter, is_regular, span, every}
use Rattle.format.specs.Names.{Decoded, decoded, wrong_hash, plain, decode}
use Rattle.format.specs.Numbers.{Numeral, whole, fraction, past_bound, no_number, starts_number, numeral}
use Rattle.format.specs.Space.{skip}
use Rattle.format.specs.Strings.{Span, closed, unclosed, too_deep_at, broken_at, turns, string_by, string, hex_string}
use Rattle.format.specs.Tokens.{Kind, name, text, hex, mark, word, open_array, close_array, open_dict, close_dict, Flaw, stray, bad_hex, Token, tok, string_token, after_less, after_greater, name_kind, name_token, marked, numeral_kind, run_kind, run_token, start_at, token_at}
use Rattle.locality.specs.Locality.{stops, Good, is_run, Fits}
use Rattle.locality.proofs.Cases.{cases}
use Rattle.locality.proofs.Local.{up_to_taken}
use Rattle.locality.proofs.Runs.{span_parts}
use Rattle.locality.proofs.Spaces.{Tight, tight_stays}
use Rattle.locality.proofs.Strings.{Closes, string_closes, hex_string_closes}
use Rattle.locality.proofs.Tests.{and_left}
use Rattle.grammar.specs.Gaps.{Gap}
use Rattle.grammar.specs.Spellings.{Spelled, Name, Balanced, HexBytes}
use Rattle.grammar.proofs.Gaps.{gap_skips}
use Rattle.grammar.proofs.Lists.{every_cons, every_first, every_others, differs, span_run, span_passes}
use Rattle.grammar.proofs.Names.{name_regular, name_read, read_name}
use Rattle.grammar.proofs.Numbers.{Starts, integer_read, integer_starts, real_read, real_starts, read_integer, read_real}
use Rattle.grammar.proofs.Strings.{by_deeper, balanced_read, Inside, read_deeper, hex_read, hex_first, InsideHex, read_hexes}

-- regular bytes before one that is not
run_start : (p x : ℕ) (r ys : Bytes) → every is_regular (x ∷ r) ≡ true → stops is_regular ys ≡ true →
    start_at p (x ∷ (r ++ ys)) ≡ tok (run_kind p x (x ∷ r)) p (x ∷ (r ++ ys)) (p + suc (length r)) ys
unfolding start_at run_token
run_start p x r ys a h =
    rw (every_first is_regular x r a, start_at)
    (rw (span_run is_regular (suc p) r ys (every_others is_regular x r a) h)
    (let q : suc p + length r ≡ p + suc (length r) = omega arith in λ i. tok (run_kind p x (x ∷ r)) p (x ∷ (r ++ ys)) (q i) ys))

abbrev Started : Kind → Bytes → ℕ → Bytes → Type 0
Started k w p ys = start_at p (w ++ ys) ≡ tok k p (w ++ ys) (p + length w) ys

run_as : (k : Kind) (p x : ℕ) (r ys : Bytes) → every is_regular (x ∷ r) ≡ true → stops is_regular ys ≡ true → run_kind p x (x ∷ r) ≡ k → Started k (x ∷ r) p ys
run_as k p x r ys a h e = run_start p x r ys a h ∙ (λ i. tok (e i) p (x ∷ (r ++ ys)) (p + suc (length r)) ys)

number_kind : (p x : ℕ) (r : Bytes) (n : Numeral) → starts_number x ≡ true → numeral p (x ∷ r) ≡ n → run_kind p x (x ∷ r) ≡ numeral_kind (x ∷ r) n
unfolding run_kind
number_kind p x r n s e = rw (s, run_kind) (ap (numeral_kind (x ∷ r)) e)

number_start : (w : Bytes) → Starts w → (p : ℕ) (ys : Bytes) (n : Numeral) → numeral p w ≡ n → stops is_regular ys ≡ true → Started (numeral_kind w n) w p ys
number_start w s p ys n e h =
    subst (λ v. numeral p v ≡ n → Started (numeral_kind v n) v p ys) (sym s.is)
    (λ k. run_as (numeral_kind (s.first ∷ s.others) n) p s.first s.others ys s.regular h (number_kind p s.first s.others n s.starts k)) e

word_kind : (p x : ℕ) (r : Bytes) → starts_number x ≡ false → run_kind p x (x ∷ r) ≡ word (x ∷ r)
unfolding run_kind
word_kind p x r s = rw (s, run_kind) refl

name_start : {w d : Bytes} → Name w d → (p : ℕ) (ys : Bytes) → stops is_regular ys ≡ true → Started (name d) (47 ∷ w) p ys
unfolding start_at marked name_token name_kind is_regular is_white is_delimiter
name_start {w} {d} n p ys h =
    rw (span_run is_regular (suc p) w ys (name_regular n) h)
    (let q : suc p + length w ≡ p + suc (length w) = omega arith in
    let k : name_kind (decode plain (suc p) w) ≡ name d = rw (name_read n (suc p)) refl in
    λ i. tok (k i) p (47 ∷ (w ++ ys)) (q i) ys)

-- a string that its reader closes
string_start : (k : Bytes → Kind) (f : ℕ → Flaw) (p q : ℕ) (ws ys : Bytes) (s : Span) → s ≡ closed q ys → q ≡ p + length ws →
    string_token k f p (ws ++ ys) s ≡ tok (k ws) p (ws ++ ys) (p + length ws) ys
unfolding string_token
string_start k f p q ws ys s e h = rw (e, string_token) (let u = up_to_taken p q ws ys h in λ i. tok (k (u i)) p (ws ++ ys) (h i) ys)

start_text : (p : ℕ) (xs : Bytes) → start_at p (40 ∷ xs) ≡ string_token text (λ q. stray) p (40 ∷ xs) (string p xs)
unfolding start_at marked is_regular is_white is_delimiter
start_text p xs = refl

start_hex : (p y : ℕ) (xs : Bytes) → eqb y 60 ≡ false → start_at p (60 ∷ y ∷ xs) ≡ string_token hex bad_hex p (60 ∷ y ∷ xs) (hex_string (suc p) (y ∷ xs))
unfolding start_at marked after_less is_regular is_white is_delimiter
start_hex p y xs e = rw (e, after_less) refl

string_is : (p : ℕ) (xs : Bytes) → string p xs ≡ string_by (suc 31) p xs
unfolding string
string_is p xs = refl

-- one byte behind
length_closed : (w : Bytes) (e : ℕ) → length (w ++ (e ∷ [])) ≡ suc (length w)
length_closed w e = length-append w (e ∷ []) ∙ omega arith

text_start : (w : Bytes) → Balanced 31 w → length w < turns → (p : ℕ) (ys : Bytes) → Started (text (40 ∷ (w ++ (41 ∷ [])))) (40 ∷ (w ++ (41 ∷ []))) p ys
text_start w b k p ys =
    start_text p ((w ++ (41 ∷ [])) ++ ys)
    ∙ string_start text (λ q. stray) p (suc p + suc (length w)) (40 ∷ (w ++ (41 ∷ []))) ys (string p ((w ++ (41 ∷ [])) ++ ys))
    (ap (string p) (append_assoc w (41 ∷ []) ys) ∙ string_is p (w ++ (41 ∷ ys)) ∙ by_deeper 31 p (w ++ (41 ∷ ys)) ∙ balanced_read b k turns (suc p) ys k)
    (let l = length_closed w 41 in omega arith)

hex_start : (w : Bytes) → HexBytes w → (p : ℕ) (ys : Bytes) → Started (hex (60 ∷ (w ++ (62 ∷ [])))) (60 ∷ (w ++ (62 ∷ []))) p ys
hex_start w b p ys =
    let e : (w ++ (62 ∷ [])) ++ ys ≡ w ++ (62 ∷ ys) = append_assoc w (62 ∷ []) ys in
    let f = hex_first b ys in
    let first : start_at p (60 ∷ ((w ++ (62 ∷ [])) ++ ys)) ≡ string_token hex bad_hex p (60 ∷ ((w ++ (62 ∷ [])) ++ ys)) (hex_string (suc p) ((w ++ (62 ∷ [])) ++ ys)) =
    subst (λ zs. start_at p (60 ∷ zs) ≡ string_token hex bad_hex p (60 ∷ zs) (hex_string (suc p) zs)) (sym (e ∙ f.2)) (start_hex p f.0 f.1 f.3) in
    first
    ∙ string_start hex bad_hex p (suc p + suc (length w)) (60 ∷ (w ++ (62 ∷ []))) ys (hex_string (suc p) ((w ++ (62 ∷ [])) ++ ys))
    (ap (hex_string (suc p)) e ∙ hex_read b (suc p) ys)
    (let l = length_closed w 62 in omega arith)

one_more : (p : ℕ) → suc p ≡ p + 1
one_more p = omega arith

two_more : (p : ℕ) → suc (suc p) ≡ p + 2
two_more p = omega arith

-- what is spelled as a token is read as it
pub spelled_start : {k : Kind} {w : Bytes} → Spelled k w → length w < turns → (p : ℕ) (ys : Bytes) → Fits k ys → Started k w p ys
unfolding numeral_kind is_run start_at marked after_less after_greater is_regular is_white is_delimiter
spelled_start (Spelled.integer {u} {z} {w} i) l p ys f = number_start w (integer_starts i) p ys (whole u z) (integer_read i p) (f refl)
spelled_start (Spelled.decimal {w} r) l p ys f = number_start w (real_starts r) p ys fraction (real_read r p) (f refl)
spelled_start (Spelled.named n) l p ys f = name_start n p ys (f refl)
spelled_start (Spelled.literal {w} b) l p ys f = text_start w b (let e = length_closed w 41 in omega arith) p ys
spelled_start (Spelled.hexadecimal {w} b) l p ys f = hex_start w b p ys
spelled_start Spelled.array_opens l p ys f = λ i. tok (mark open_array) p (91 ∷ ys) (one_more p i) ys
spelled_start Spelled.array_closes l p ys f = λ i. tok (mark close_array) p (93 ∷ ys) (one_more p i) ys
spelled_start Spelled.dict_opens l p ys f = λ i. tok (mark open_dict) p (60 ∷ 60 ∷ ys) (two_more p i) ys
spelled_start Spelled.dict_closes l p ys f = λ i. tok (mark close_dict) p (62 ∷ 62 ∷ ys) (two_more p i) ys
spelled_start (Spelled.keyword {c} {w} a s) l p ys f = run_as (word (c ∷ w)) p c w ys a (f refl) (word_kind p c w s)

regular_tight : (x : ℕ) → is_regular x ≡ true → Tight x
unfolding is_regular is_white is_delimiter
regular_tight x a = record { black = not-true (is_white x) (and_left (not (is_white x)) (not (is_delimiter x)) a); plain = differs is_regular x 37 a refl }

-- a token has a first byte, which is no white space or `%`
pub record First (w : Bytes) : Type 0 where
  pub first : ℕ
  pub others : Bytes
  pub is : w ≡ first ∷ others
  pub tight : Tight first

starts_first : {w : Bytes} → Starts w → First w
starts_first s = record { first = s.first; others = s.others; is = s.is; tight = regular_tight s.first (every_first is_regular s.first s.others s.regular) }

pub spelled_first : {k : Kind} {w : Bytes} → Spelled k w → First w
unfolding is_white
spelled_first (Spelled.integer i) = starts_first (integer_starts i)
spelled_first (Spelled.decimal r) = starts_first (real_starts r)
spelled_first (Spelled.named {w} n) = record { first = 47; others = w; is = refl; tight = record { black = refl; plain = refl } }
spelled_first (Spelled.literal {w} b) = record { first = 40; others = w ++ (41 ∷ []); is = refl; tight = record { black = refl; plain = refl } }
spelled_first (Spelled.hexadecimal {w} b) = record { first = 60; others = w ++ (62 ∷ []); is = refl; tight = record { black = refl; plain = refl } }
spelled_first Spelled.array_opens = record { first = 91; others = []; is = refl; tight = record { black = refl; plain = refl } }
spelled_first Spelled.array_closes = record { first = 93; others = []; is = refl; tight = record { black = refl; plain = refl } }
spelled_first Spelled.dict_opens = record { first = 60; others = 60 ∷ []; is = refl; tight = record { black = refl; plain = refl } }
spelled_first Spelled.dict_closes = record { first = 62; others = 62 ∷ []; is = refl; tight = record { black = refl; plain = refl } }
spelled_first (Spelled.keyword {c} {w} a s) = record { first = c; others = w; is = refl; tight = regular_tight c (every_first is_regular c w a) }

first_stays : {w : Bytes} → First w → (p : ℕ) (ys : Bytes) → skip false p (w ++ ys) ≡ (p, w ++ ys)
first_stays {w} f p ys = subst (λ v. skip false p (v ++ ys) ≡ (p, v ++ ys)) (sym f.is) (tight_stays p f.first (f.others ++ ys) f.tight)

pub gap_stays : {g w : Bytes} → Gap g → First w → (p : ℕ) (ys : Bytes) → skip false p (g ++ (w ++ ys)) ≡ (p + length g, w ++ ys)
gap_stays {g} {w} a f p ys = gap_skips a p (w ++ ys) ∙ first_stays f (p + length g) ys

-- white space and comments, and what is spelled as a token, are read as it
pub token_read : {g : Bytes} {k : Kind} {w : Bytes} → Gap g → Spelled k w → length w < turns → (p : ℕ) (ys : Bytes) → Fits k ys →
    token_at p (g ++ (w ++ ys)) ≡ tok k (p + length g) (w ++ ys) (p + length g + length w) ys
unfolding token_at
token_read {g} {k} {w} a s l p ys f = rw (gap_stays a (spelled_first s) p ys) (spelled_start s l (p + length g) ys f)

-- a token that was read, and how it is spelled
pub record Spelt (xs : Bytes) (t : Token) : Type 0 where
  pub own : Bytes
  pub is : Spelled t.kind own
  pub parts : xs ≡ own ++ t.rest

number_spelled : (p x : ℕ) (r : Bytes) (n : Numeral) → numeral p (x ∷ r) ≡ n → Good (numeral_kind (x ∷ r) n) → Spelled (numeral_kind (x ∷ r) n) (x ∷ r)
unfolding numeral_kind Good
number_spelled p x r (whole u z) e g = Spelled.integer (read_integer p x r u z e)
number_spelled p x r fraction e g = Spelled.decimal (read_real p x r e)
number_spelled p x r past_bound e g = absurd g
number_spelled p x r (no_number q) e g = absurd g

run_spelled : (p x : ℕ) (r : Bytes) → every is_regular (x ∷ r) ≡ true → Good (run_kind p x (x ∷ r)) → Spelled (run_kind p x (x ∷ r)) (x ∷ r)
unfolding run_kind
run_spelled p x r h g =
    cases (starts_number x)
    (λ a. rw (a, run_kind) (number_spelled p x r (numeral p (x ∷ r)) refl (rw (a, run_kind) at g)))
    (λ a. rw (a, run_kind) (Spelled.keyword h a))

spelt_run : (p x : ℕ) (xs : Bytes) → is_regular x ≡ true → Good (start_at p (x ∷ xs)).kind → Spelt (x ∷ xs) (start_at p (x ∷ xs))
unfolding start_at run_token
spelt_run p x xs a g =
    let r : Bytes = (span is_regular (suc p) xs).0 in
    rw (a, start_at)
    (record {
      own = x ∷ r;
      is = run_spelled p x r (every_cons is_regular x r a (span_passes is_regular (suc p) xs)) (rw (a, start_at) at g);
      parts = ap {B = Bytes} (λ ys. x ∷ ys) (span_parts is_regular (suc p) xs);
    })

abbrev SpeltAt : ℕ → Bytes → ℕ → Type 0
SpeltAt p xs c = Good (start_at p (c ∷ xs)).kind → Spelt (c ∷ xs) (start_at p (c ∷ xs))

name_spelled : (p : ℕ) (w : Bytes) → every is_regular w ≡ true → Good (name_kind (decode plain p w)) → Spelled (name_kind (decode plain p w)) (47 ∷ w)
unfolding name_kind Good
name_spelled p w h g = go (decode plain p w) refl g
  where
    go : (z : Decoded) → decode plain p w ≡ z → Good (name_kind z) → Spelled (name_kind z) (47 ∷ w)
    go (decoded d) e k = Spelled.named (read_name p w d h e)
    go (wrong_hash q) e k = absurd k

spelt_name : (p : ℕ) (xs : Bytes) → SpeltAt p xs 47
unfolding start_at marked name_token is_regular is_white is_delimiter
spelt_name p xs g = record {
  own = 47 ∷ (span is_regular (suc p) xs).0;
  is = name_spelled (suc p) (span is_regular (suc p) xs).0 (span_passes is_regular (suc p) xs) g;
  parts = ap {B = Bytes} (λ ys. 47 ∷ ys) (span_parts is_regular (suc p) xs);
}

-- the own bytes of a string that was read
own_up_to : (p q c e : ℕ) (xs v rest pre : Bytes) → xs ≡ v ++ (e ∷ rest) → xs ≡ pre ++ rest → q ≡ suc p + length pre → up_to p (c ∷ xs) q ≡ c ∷ (v ++ (e ∷ []))
own_up_to p q c e xs v rest pre h k a =
    let w : Bytes = c ∷ (v ++ (e ∷ [])) in
    let l : length xs ≡ length v + suc (length rest) = ap length h ∙ length-append v (e ∷ rest) in
    let m : length xs ≡ length pre + length rest = ap length k ∙ length-append pre rest in
    let n = length_closed v e in
    ap {B = Bytes} (λ zs. up_to p (c ∷ zs) q) (h ∙ sym (append_assoc v (e ∷ []) rest)) ∙ up_to_taken p q w rest (omega arith)

string_parts : (c e : ℕ) (xs v rest : Bytes) → xs ≡ v ++ (e ∷ rest) → c ∷ xs ≡ (c ∷ (v ++ (e ∷ []))) ++ rest
string_parts c e xs v rest h = ap {B = Bytes} (λ zs. c ∷ zs) (h ∙ sym (append_assoc v (e ∷ []) rest))

spelt_text : (p : ℕ) (xs : Bytes) → SpeltAt p xs 40
unfolding string_token Good
spelt_text p xs = subst (λ t. Good t.kind → Spelt (40 ∷ xs) t) (sym (start_text p xs)) (go (string p xs) refl)
  where
    go : (s : Span) → string p xs ≡ s → Good (string_token text (λ q. stray) p (40 ∷ xs) s).kind → Spelt (40 ∷ xs) (string_token text (λ q. stray) p (40 ∷ xs) s)
    go unclosed e g = absurd g
    go (too_deep_at q) e g = absurd g
    go (broken_at q) e g = absurd g
    go (closed q rest) e g = made (read_deeper 31 p xs q rest (sym (string_is p xs) ∙ e)) (string_closes p xs q rest e)
      where
        made : Inside 31 xs rest → Closes string suc p xs q rest → Spelt (40 ∷ xs) (tok (text (up_to p (40 ∷ xs) q)) p (40 ∷ xs) q rest)
        made i c = record {
          own = 40 ∷ (i.own ++ (41 ∷ []));
          is = subst (λ w. Spelled (text w) (40 ∷ (i.own ++ (41 ∷ [])))) (sym (own_up_to p q 40 41 xs i.own rest c.pre i.parts c.parts c.at)) (Spelled.literal i.is);
          parts = string_parts 40 41 xs i.own rest i.parts;
        }

spelt_hex : (p y : ℕ) (xs : Bytes) → eqb y 60 ≡ false → SpeltAt p (y ∷ xs) 60
unfolding string_token Good
spelt_hex p y xs n = subst (λ t. Good t.kind → Spelt (60 ∷ y ∷ xs) t) (sym (start_hex p y xs n)) (go (hex_string (suc p) (y ∷ xs)) refl)
  where
    go : (s : Span) → hex_string (suc p) (y ∷ xs) ≡ s → Good (string_token hex bad_hex p (60 ∷ y ∷ xs) s).kind → Spelt (60 ∷ y ∷ xs) (string_token hex bad_hex p (60 ∷ y ∷ xs) s)
    go unclosed e g = absurd g
    go (too_deep_at q) e g = absurd g
    go (broken_at q) e g = absurd g
    go (closed q rest) e g = made (read_hexes (suc p) (y ∷ xs) q rest e) (hex_string_closes (suc p) (y ∷ xs) q rest e)
      where
        made : InsideHex (y ∷ xs) rest → Closes hex_string (λ m. m) (suc p) (y ∷ xs) q rest → Spelt (60 ∷ y ∷ xs) (tok (hex (up_to p (60 ∷ y ∷ xs) q)) p (60 ∷ y ∷ xs) q rest)
        made i c = record {
          own = 60 ∷ (i.own ++ (62 ∷ []));
          is = subst (λ w. Spelled (hex w) (60 ∷ (i.own ++ (62 ∷ [])))) (sym (own_up_to p q 60 62 (y ∷ xs) i.own rest c.pre i.parts c.parts c.at)) (Spelled.hexadecimal i.is);
          parts = string_parts 60 62 (y ∷ xs) i.own rest i.parts;
        }

spelt_less : (p : ℕ) (xs : Bytes) → SpeltAt p xs 60
unfolding start_at marked after_less is_regular is_white is_delimiter Good
spelt_less p [] g = absurd g
spelt_less p (y ∷ xs) g =
    cases (eqb y 60)
    (λ e. subst (λ c. Spelt (60 ∷ c ∷ xs) (start_at p (60 ∷ c ∷ xs))) (sym (eqb-true y 60 e)) (record { own = 60 ∷ 60 ∷ []; is = Spelled.dict_opens; parts = refl }))
    (λ e. spelt_hex p y xs e g)

spelt_greater : (p : ℕ) (xs : Bytes) → SpeltAt p xs 62
unfolding start_at marked after_greater is_regular is_white is_delimiter Good
spelt_greater p [] g = absurd g
spelt_greater p (y ∷ xs) g =
    cases (eqb y 62)
    (λ e. subst (λ c. Spelt (62 ∷ c ∷ xs) (start_at p (62 ∷ c ∷ xs))) (sym (eqb-true y 62 e)) (record { own = 62 ∷ 62 ∷ []; is = Spelled.dict_closes; parts = refl }))
    (λ e. absurd (rw (e, after_greater) at g))

spelt_square : (p : ℕ) (xs : Bytes) → SpeltAt p xs 91
unfolding start_at marked is_regular is_white is_delimiter
spelt_square p xs g = record { own = 91 ∷ []; is = Spelled.array_opens; parts = refl }

spelt_unsquare : (p : ℕ) (xs : Bytes) → SpeltAt p xs 93
unfolding start_at marked is_regular is_white is_delimiter
spelt_unsquare p xs g = record { own = 93 ∷ []; is = Spelled.array_closes; parts = refl }

-- what is read as a token is spelled as it
pub start_spelt : (p x : ℕ) (xs : Bytes) → SpeltAt p xs x
unfolding start_at marked Good
start_spelt p x xs g =
    cases (is_regular x) (λ a. spelt_run p x xs a g)
    (λ a.
    cases (eqb x 47) (λ b. subst (SpeltAt p xs) (sym (eqb-true x 47 b)) (spelt_name p xs) g)
    (λ b.
    cases (eqb x 40) (λ c. subst (SpeltAt p xs) (sym (eqb-true x 40 c)) (spelt_text p xs) g)
    (λ c.
    cases (eqb x 60) (λ d. subst (SpeltAt p xs) (sym (eqb-true x 60 d)) (spelt_less p xs) g)
    (λ d.
    cases (eqb x 62) (λ e. subst (SpeltAt p xs) (sym (eqb-true x 62 e)) (spelt_greater p xs) g)
    (λ e.
    cases (eqb x 91) (λ h. subst (SpeltAt p xs) (sym (eqb-true x 91 h)) (spelt_square p xs) g)
    (λ h.
    cases (eqb x 93) (λ k. subst (SpeltAt p xs) (sym (eqb-true x 93 k)) (spelt_unsquare p xs) g)
    (λ k. absurd (rw (a, b, c, d, e, h, k, start_at, marked, Good) at g))))))))
