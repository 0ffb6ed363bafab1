-- The reader answers just those tokens of which the bytes are made.
use Rattle.std.proofs.Common.{◌≡◌, ℕ, zero, suc, ◌+◌, ◌<◌, ◌≤◌, false, eqb, List, [], ◌∷◌, ◌++◌, length, Some, None, Option, sym, refl, ap, ◌∙◌, subst, arith, length-append}
use Rattle.format.specs.Bytes.{Bytes, up_to, is_regular, span}
use Rattle.format.specs.Names.{Decoded, decoded, wrong_hash, plain, decode}
use Rattle.format.specs.Numbers.{Numeral, whole, fraction, past_bound, no_number, starts_number, numeral}
use Rattle.format.specs.Space.{skip}
use Rattle.format.specs.Strings.{Span, closed, unclosed, too_deep_at, broken_at, turns, string, hex_string}
use Rattle.format.specs.Tokens.{Kind, int, real, name, text, hex, mark, word, ended, flawed, stray, bad_hex, Token, tok, string_token, after_less, after_greater, name_kind, name_token, marked, numeral_kind, run_kind, run_token, start_at, token_at}
use Rattle.locality.specs.Locality.{Good, Fits}
use Rattle.locality.proofs.Cases.{cases}
use Rattle.locality.proofs.Local.{up_to_taken}
use Rattle.locality.proofs.Tests.{clash}
use Rattle.locality.proofs.Places.{skip_reaches}
use Rattle.locality.proofs.Tokens.{Own, start_own, start_stops}
use Rattle.grammar.specs.Gaps.{Gap, LastGap}
use Rattle.grammar.specs.Lexing.{Lexeme, lexeme, Lexes, Lexed}
use Rattle.grammar.specs.Reading.{Met, token, the_end, a_flaw, met, lexeme_of, before, tokens_in, tokens_of, TokensAreSpelled}
use Rattle.grammar.specs.Spellings.{Spelled}
use Rattle.grammar.proofs.Gaps.{Before, skip_gap, skip_last, last_skips}
use Rattle.grammar.proofs.Tokens.{First, spelled_first, token_read, Spelt, start_spelt}

pub cases_met : {P : Type 0} (m : Met) → (m ≡ token → P) → (m ≡ the_end → P) → (m ≡ a_flaw → P) → P
cases_met token f g h = f refl
cases_met the_end f g h = g refl
cases_met a_flaw f g h = h refl

pub met_good : (k : Kind) → met k ≡ token → Good k
unfolding met Good
met_good (int u z) e = tt
met_good (real w) e = tt
met_good (name d) e = tt
met_good (text w) e = tt
met_good (hex w) e = tt
met_good (mark m) e = tt
met_good (word w) e = tt
met_good ended e = clash (cc)
met_good (flawed f) e = clash (cc)

pub good_met : (k : Kind) → Good k → met k ≡ token
unfolding met Good
good_met (int u z) g = refl
good_met (real w) g = refl
good_met (name d) g = refl
good_met (text w) g = refl
good_met (hex w) g = refl
good_met (mark m) g = refl
good_met (word w) g = refl
good_met ended g = absurd g
good_met (flawed f) g = absurd g

pub spelled_good : {k : Kind} {w : Bytes} → Spelled k w → Good k
unfolding Good
spelled_good (Spelled.integer i) = tt
spelled_good (Spelled.decimal r) = tt
spelled_good (Spelled.named n) = tt
spelled_good (Spelled.literal b) = tt
spelled_good (Spelled.hexadecimal b) = tt
spelled_good Spelled.array_opens = tt
spelled_good Spelled.array_closes = tt
spelled_good Spelled.dict_opens = tt
spelled_good Spelled.dict_closes = tt
spelled_good (Spelled.keyword a s) = tt

-- where a byte stands, the bytes do not end
abbrev Goes : Kind → Type 0
Goes k = met k ≡ the_end → ⊥

number_goes : (w : Bytes) (n : Numeral) → Goes (numeral_kind w n)
unfolding numeral_kind met
number_goes w (whole u z) e = clash (cc)
number_goes w fraction e = clash (cc)
number_goes w past_bound e = clash (cc)
number_goes w (no_number q) e = clash (cc)

run_goes : (p x : ℕ) (w : Bytes) → Goes (run_kind p x w)
unfolding run_kind met
run_goes p x w e = cases (starts_number x) (λ a. number_goes w (numeral p w) (rw (a, run_kind) at e)) (λ a. clash (let z : token ≡ the_end = rw (a, run_kind) at e in cc))

name_goes : (z : Decoded) → Goes (name_kind z)
unfolding name_kind met
name_goes (decoded d) e = clash (cc)
name_goes (wrong_hash q) e = clash (cc)

text_goes : (p : ℕ) (xs : Bytes) (s : Span) → Goes (string_token text (λ q. stray) p xs s).kind
unfolding string_token met
text_goes p xs (closed q ys) e = clash (cc)
text_goes p xs unclosed e = clash (cc)
text_goes p xs (too_deep_at q) e = clash (cc)
text_goes p xs (broken_at q) e = clash (cc)

hex_goes : (p : ℕ) (xs : Bytes) (s : Span) → Goes (string_token hex bad_hex p xs s).kind
unfolding string_token met
hex_goes p xs (closed q ys) e = clash (cc)
hex_goes p xs unclosed e = clash (cc)
hex_goes p xs (too_deep_at q) e = clash (cc)
hex_goes p xs (broken_at q) e = clash (cc)

less_goes : (p x : ℕ) (xs : Bytes) → Goes (after_less p x xs).kind
unfolding after_less met
less_goes p x [] e = clash (cc)
less_goes p x (y ∷ ys) e = cases (eqb y 60) (λ a. clash (let z : token ≡ the_end = rw (a, after_less) at e in cc)) (λ a. hex_goes p (x ∷ y ∷ ys) (hex_string (suc p) (y ∷ ys)) (rw (a, after_less) at e))

greater_goes : (p x : ℕ) (xs : Bytes) → Goes (after_greater p x xs).kind
unfolding after_greater met
greater_goes p x [] e = clash (cc)
greater_goes p x (y ∷ ys) e = cases (eqb y 62) (λ a. clash (let z : token ≡ the_end = rw (a, after_greater) at e in cc)) (λ a. clash (let z : a_flaw ≡ the_end = rw (a, after_greater) at e in cc))

start_goes : (p x : ℕ) (xs : Bytes) → Goes (start_at p (x ∷ xs)).kind
unfolding start_at marked run_token name_token met
start_goes p x xs e =
    cases (is_regular x) (λ a. run_goes p x (x ∷ (span is_regular (suc p) xs).0) (rw (a, start_at) at e))
    (λ a.
    cases (eqb x 47) (λ b. name_goes (decode plain (suc p) (span is_regular (suc p) xs).0) (rw (a, b, start_at, marked) at e))
    (λ b.
    cases (eqb x 40) (λ c. text_goes p (x ∷ xs) (string p xs) (rw (a, b, c, start_at, marked) at e))
    (λ c.
    cases (eqb x 60) (λ d. less_goes p x xs (rw (a, b, c, d, start_at, marked) at e))
    (λ d.
    cases (eqb x 62) (λ f. greater_goes p x xs (rw (a, b, c, d, f, start_at, marked) at e))
    (λ f.
    cases (eqb x 91) (λ h. clash (let z : token ≡ the_end = rw (a, b, c, d, f, h, start_at, marked) at e in cc))
    (λ h.
    cases (eqb x 93) (λ k. clash (let z : token ≡ the_end = rw (a, b, c, d, f, h, k, start_at, marked) at e in cc))
    (λ k. clash (let z : a_flaw ≡ the_end = rw (a, b, c, d, f, h, k, start_at, marked) at e in cc))))))))

-- where the reader meets the end, the bytes are white space and comments
ended_last : (p : ℕ) (xs : Bytes) → met (token_at p xs).kind ≡ the_end → LastGap xs
unfolding token_at
ended_last p xs e = go (skip false p xs).1 refl e
  where
    go : (zs : Bytes) → (skip false p xs).1 ≡ zs → met (start_at (skip false p xs).0 zs).kind ≡ the_end → LastGap xs
    go [] h k = skip_last p xs h
    go (z ∷ zs) h k = absurd (start_goes (skip false p xs).0 z zs k)

last_ended : (p : ℕ) (xs : Bytes) → LastGap xs → met (token_at p xs).kind ≡ the_end
unfolding token_at start_at met
last_ended p xs l = rw (last_skips l p) refl

-- a token that the reader met: the bytes before it, its own, and that it is not cut short
pub record Next (p : ℕ) (xs : Bytes) (t : Token) : Type 0 where
  pub gap : Bytes
  pub own : Bytes
  pub before : Gap gap
  pub is : Spelled t.kind own
  pub whole : Fits t.kind t.rest
  pub parts : xs ≡ gap ++ (own ++ t.rest)
  pub stands : tok t.kind (p + length gap) (own ++ t.rest) (p + length gap + length own) t.rest ≡ t

-- a token at its own place, by its bytes
start_stands : (p x : ℕ) (xs : Bytes) → Good (start_at p (x ∷ xs)).kind → (s : Spelt (x ∷ xs) (start_at p (x ∷ xs))) →
    tok (start_at p (x ∷ xs)).kind p (s.own ++ (start_at p (x ∷ xs)).rest) (p + length s.own) (start_at p (x ∷ xs)).rest ≡ start_at p (x ∷ xs)
start_stands p x xs g s = go (start_own p (x ∷ xs) g)
  where
    go : Own (x ∷ xs) (start_at p (x ∷ xs)) → tok (start_at p (x ∷ xs)).kind p (s.own ++ (start_at p (x ∷ xs)).rest) (p + length s.own) (start_at p (x ∷ xs)).rest ≡ start_at p (x ∷ xs)
    go o =
        let e : start_at p (x ∷ xs) ≡ tok (start_at p (x ∷ xs)).kind p (o.core ++ (start_at p (x ∷ xs)).rest) (p + length o.core) (start_at p (x ∷ xs)).rest =
        ap (start_at p) o.parts ∙ o.again p (start_at p (x ∷ xs)).rest (λ i. start_stops p (x ∷ xs) i) in
        let b : s.own ++ (start_at p (x ∷ xs)).rest ≡ o.core ++ (start_at p (x ∷ xs)).rest = sym s.parts ∙ o.parts in
        let l : length s.own + length (start_at p (x ∷ xs)).rest ≡ length o.core + length (start_at p (x ∷ xs)).rest =
        sym (length-append s.own (start_at p (x ∷ xs)).rest) ∙ ap length b ∙ length-append o.core (start_at p (x ∷ xs)).rest in
        let n : p + length s.own ≡ p + length o.core = omega arith in
        (λ i. tok (start_at p (x ∷ xs)).kind p (b i) (n i) (start_at p (x ∷ xs)).rest) ∙ sym e

-- what the reader meets as a token is spelled as one
pub read_next : (p : ℕ) (xs : Bytes) → met (token_at p xs).kind ≡ token → Next p xs (token_at p xs)
unfolding token_at start_at met
read_next p xs e = go (skip false p xs).1 refl e
  where
    q : ℕ
    q = (skip false p xs).0

    go : (zs : Bytes) → (skip false p xs).1 ≡ zs → met (start_at q zs).kind ≡ token → Next p xs (start_at q (skip false p xs).1)
    go [] h k = clash (cc)
    go (z ∷ zs) h k = subst (λ ys. Next p xs (start_at q ys)) (sym h) (made (skip_gap p xs z zs h) (start_spelt q z zs (met_good (start_at q (z ∷ zs)).kind k)))
      where
        made : Before xs (z ∷ zs) → Spelt (z ∷ zs) (start_at q (z ∷ zs)) → Next p xs (start_at q (z ∷ zs))
        made b s =
            let r : q + length (skip false p xs).1 ≡ p + length xs = skip_reaches false p xs in
            let m : length (skip false p xs).1 ≡ length (z ∷ zs) = ap length h in
            let l : length xs ≡ length b.gap + length (z ∷ zs) = ap length b.parts ∙ length-append b.gap (z ∷ zs) in
            let place : p + length b.gap ≡ q = omega arith in
            record {
              gap = b.gap;
              own = s.own;
              before = b.is;
              is = s.is;
              whole = λ i. start_stops q (z ∷ zs) i;
              parts = b.parts ∙ ap {B = Bytes} (λ ys. b.gap ++ ys) s.parts;
              stands = (λ i. tok (start_at q (z ∷ zs)).kind (place i) (s.own ++ (start_at q (z ∷ zs)).rest) (place i + length s.own) (start_at q (z ∷ zs)).rest)
                  ∙ start_stands q z zs (met_good (start_at q (z ∷ zs)).kind k) s;
            }

-- the token as it is listed
pub next_lexeme : (p : ℕ) (xs : Bytes) (t : Token) (n : Next p xs t) → lexeme_of p xs t ≡ lexeme t.kind n.gap (p + length n.gap) n.own
next_lexeme p xs t n =
    let f : t.from ≡ p + length n.gap = ap (λ (u : Token). u.from) (sym n.stands) in
    let e : t.to ≡ p + length n.gap + length n.own = ap (λ (u : Token). u.to) (sym n.stands) in
    let b : t.bytes ≡ n.own ++ t.rest = ap (λ (u : Token). u.bytes) (sym n.stands) in
    let g : up_to p xs t.from ≡ n.gap = ap {B = Bytes} (λ ys. up_to p ys t.from) n.parts ∙ up_to_taken p t.from n.gap (n.own ++ t.rest) f in
    let w : up_to t.from t.bytes t.to ≡ n.own = ap {B = Bytes} (λ ys. up_to t.from ys t.to) b ∙ up_to_taken t.from t.to n.own t.rest (omega arith) in
    λ i. lexeme t.kind (g i) (f i) (w i)

-- a token in front
pub next_lexes : (p : ℕ) (xs : Bytes) (t : Token) (ts : List Lexeme) (q : ℕ) (rest : Bytes) → Next p xs t → Lexes t.to t.rest ts q rest → Lexes p xs (lexeme_of p xs t ∷ ts) q rest
next_lexes p xs t ts q rest n l =
    let e : t.to ≡ p + length n.gap + length n.own = ap (λ (u : Token). u.to) (sym n.stands) in
    subst (λ x. Lexes p xs (x ∷ ts) q rest) (sym (next_lexeme p xs t n))
    (subst (λ ys. Lexes p ys (lexeme t.kind n.gap (p + length n.gap) n.own ∷ ts) q rest) (sym n.parts)
    (Lexes.token n.before n.is n.whole (subst (λ m. Lexes m t.rest ts q rest) e l)))

before_is : (l : Lexeme) (r : Option (List Lexeme)) (ts : List Lexeme) → before l r ≡ Some ts → (us : List Lexeme) × (r ≡ Some us) × (l ∷ us ≡ ts)
unfolding before
before_is l None ts e = clash (cc)
before_is l (Some us) ts e = (us, refl, cc)

sound_in : (n p : ℕ) (xs : Bytes) (ts : List Lexeme) → tokens_in n p xs ≡ Some ts → Lexed p xs ts
unfolding tokens_in
sound_in zero p xs ts e = clash (cc)
sound_in (suc n) p xs ts e =
    cases_met (met (token_at p xs).kind)
    (λ m.
    let b = before_is (lexeme_of p xs (token_at p xs)) (tokens_in n (token_at p xs).to (token_at p xs).rest) ts (rw (m, tokens_in) at e) in
    subst (Lexed p xs) b.2 (more b.0 (read_next p xs m) (sound_in n (token_at p xs).to (token_at p xs).rest b.0 b.1)))
    (λ m. let h : Some [] ≡ Some ts = rw (m, tokens_in) at e in let k : [] ≡ ts = cc in
    subst (Lexed p xs) k (record { to = p; rest = xs; tokens = Lexes.none; last = ended_last p xs m }))
    (λ m. clash (let h : None ≡ Some ts = rw (m, tokens_in) at e in cc))
  where
    more : (us : List Lexeme) → Next p xs (token_at p xs) → Lexed (token_at p xs).to (token_at p xs).rest us → Lexed p xs (lexeme_of p xs (token_at p xs) ∷ us)
    more us k l = record { to = l.to; rest = l.rest; tokens = next_lexes p xs (token_at p xs) us l.to l.rest k l.tokens; last = l.last }

-- a token in front is answered
answered_more : (n p : ℕ) (g : Bytes) (k : Kind) (w ys : Bytes) (ts : List Lexeme) → Gap g → Spelled k w → length w < turns → Fits k ys →
    tokens_in n (p + length g + length w) ys ≡ Some ts → tokens_in (suc n) p (g ++ (w ++ ys)) ≡ Some (lexeme k g (p + length g) w ∷ ts)
unfolding tokens_in before
answered_more n p g k w ys ts a s l f e =
    let r = token_read a s l p ys f in
    let m : met (token_at p (g ++ (w ++ ys))).kind ≡ token = ap (λ (u : Token). met u.kind) r ∙ good_met k (spelled_good s) in
    rw (m, tokens_in)
    (rw r
    (rw (e, before)
    (let u = up_to_taken p (p + length g) g (w ++ ys) refl in
    let v = up_to_taken (p + length g) (p + length g + length w) w ys refl in
    λ i. Some (lexeme k (u i) (p + length g) (v i) ∷ ts))))

answered_none : (n p : ℕ) (xs : Bytes) → LastGap xs → tokens_in (suc n) p xs ≡ Some []
unfolding tokens_in
answered_none n p xs l = rw (last_ended p xs l, tokens_in) refl

pub first_some : {w : Bytes} → First w → 1 ≤ length w
first_some {w} f = let e : length w ≡ suc (length f.others) = ap length f.is in omega arith

complete_in : {p : ℕ} {xs : Bytes} {ts : List Lexeme} {q : ℕ} {rest : Bytes} → Lexes p xs ts q rest → LastGap rest → (n : ℕ) → length xs < n → length xs < turns → tokens_in n p xs ≡ Some ts
complete_in (Lexes.none {p} {xs}) l zero h k = absurd (omega arith)
complete_in (Lexes.none {p} {xs}) l (suc n) h k = answered_none n p xs l
complete_in (Lexes.token {p} {q} {k} {g} {w} {ys} {rest} {ts} a s f m) l zero h b = absurd (omega arith)
complete_in (Lexes.token {p} {q} {k} {g} {w} {ys} {rest} {ts} a s f m) l (suc n) h b =
    let e : length (g ++ (w ++ ys)) ≡ length g + (length w + length ys) = length-append g (w ++ ys) ∙ ap (λ z. length g + z) (length-append w ys) in
    let o = first_some (spelled_first s) in
    answered_more n p g k w ys ts a s (omega arith) f (complete_in m l n (omega arith) (omega arith))

complete_at : (p : ℕ) (xs : Bytes) (ts : List Lexeme) → length xs < turns → Lexed p xs ts → tokens_of p xs ≡ Some ts
unfolding tokens_of
complete_at p xs ts h l = complete_in l.tokens l.last (suc (length xs)) (omega arith) h

pub tokens_are_spelled : TokensAreSpelled
unfolding tokens_of
tokens_are_spelled = record {
  sound = λ p xs ts e. sound_in (suc (length xs)) p xs ts e;
  complete = complete_at;
  unique = λ p xs ts us h l m. let e : Some ts ≡ Some us = sym (complete_at p xs ts h l) ∙ complete_at p xs us h m in cc;
}
