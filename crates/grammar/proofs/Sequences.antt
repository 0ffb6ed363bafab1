-- Tokens one after another, and what the reader meets there.
use Rattle.std.proofs.Common.{◌≡◌, ℕ, ◌+◌, ◌<◌, ◌≤◌, false, List, [], ◌∷◌, ◌++◌, length, sym, refl, ap, ◌∙◌, subst, append_assoc, arith, length-append}
use Rattle.format.specs.Bytes.{Bytes, up_to}
use Rattle.format.specs.Space.{skip}
use Rattle.format.specs.Strings.{turns}
use Rattle.format.specs.Tokens.{Token, tok, start_at, token_at}
use Rattle.locality.specs.Locality.{Good}
use Rattle.locality.proofs.Local.{up_to_taken}
use Rattle.locality.proofs.Spaces.{skip_tight, tight_stays}
use Rattle.grammar.specs.Lexing.{Lexeme, lexeme, Lexes}
use Rattle.grammar.specs.Reading.{lexeme_of}
use Rattle.grammar.specs.Trees.{with_leads, bytes_of, Ahead}
use Rattle.grammar.proofs.Lexing.{good_met, spelled_good, read_next, next_lexes, first_some}
use Rattle.grammar.proofs.Tokens.{spelled_first, gap_stays, token_read}

-- the first of some tokens is what the reader meets, and the others stand behind it
pub record Head (p : ℕ) (xs : Bytes) (t : Lexeme) (ts : List Lexeme) (q : ℕ) (rest : Bytes) : Type 0 where
  pub lex : lexeme_of p xs (token_at p xs) ≡ t
  pub skips : skip false p xs ≡ (t.from, t.own ++ (token_at p xs).rest)
  pub at : t.from ≡ p + length t.lead
  pub ends : (token_at p xs).to ≡ t.from + length t.own
  pub good : Good t.kind
  pub shorter : length (token_at p xs).rest < length xs
  pub more : Lexes (token_at p xs).to (token_at p xs).rest ts q rest

pub head : {p : ℕ} {xs : Bytes} {t : Lexeme} {ts : List Lexeme} {q : ℕ} {rest : Bytes} → Lexes p xs (t ∷ ts) q rest → length xs < turns → Head p xs t ts q rest
head (Lexes.token {p} {q} {k} {g} {w} {ys} {rest} {ts} a s f m) h =
    let e : length (g ++ (w ++ ys)) ≡ length g + (length w + length ys) = length-append g (w ++ ys) ∙ ap (λ z. length g + z) (length-append w ys) in
    let o = first_some (spelled_first s) in
    let r : token_at p (g ++ (w ++ ys)) ≡ tok k (p + length g) (w ++ ys) (p + length g + length w) ys = token_read a s (omega arith) p ys f in
    let u = up_to_taken p (p + length g) g (w ++ ys) refl in
    let v = up_to_taken (p + length g) (p + length g + length w) w ys refl in
    let b : length ys < length (g ++ (w ++ ys)) = omega arith in
    record {
      lex = ap (lexeme_of p (g ++ (w ++ ys))) r ∙ (λ i. lexeme k (u i) (p + length g) (v i));
      skips = gap_stays a (spelled_first s) p ys ∙ (λ i. (p + length g, w ++ (sym r i).rest));
      at = refl;
      ends = ap (λ (x : Token). x.to) r;
      good = spelled_good s;
      shorter = subst (λ (x : Token). length x.rest < length (g ++ (w ++ ys))) (sym r) b;
      more = subst (λ (x : Token). Lexes x.to x.rest ts q rest) (sym r) m;
    }

-- one token
pub one_lexes : (p : ℕ) (xs : Bytes) → Good (token_at p xs).kind → Lexes p xs (lexeme_of p xs (token_at p xs) ∷ []) (token_at p xs).to (token_at p xs).rest
one_lexes p xs g = next_lexes p xs (token_at p xs) [] (token_at p xs).to (token_at p xs).rest (read_next p xs (good_met (token_at p xs).kind g)) Lexes.none

-- tokens, and others behind them
pub lexes_join : {p : ℕ} {xs : Bytes} {ts us : List Lexeme} {q r : ℕ} {ys rest : Bytes} → Lexes p xs ts q ys → Lexes q ys us r rest → Lexes p xs (ts ++ us) r rest
lexes_join Lexes.none l = l
lexes_join (Lexes.token a s f m) l = Lexes.token a s f (lexes_join m l)

pub record Split (p : ℕ) (xs : Bytes) (ts us : List Lexeme) (r : ℕ) (rest : Bytes) : Type 0 where
  pub place : ℕ
  pub bytes : Bytes
  pub before : Lexes p xs ts place bytes
  pub behind : Lexes place bytes us r rest

record Uncons (p : ℕ) (xs : Bytes) (t : Lexeme) (ts : List Lexeme) (q : ℕ) (rest : Bytes) : Type 0 where
  to : ℕ
  left : Bytes
  more : Lexes to left ts q rest
  again : (us : List Lexeme) (r : ℕ) (ys : Bytes) → Lexes to left us r ys → Lexes p xs (t ∷ us) r ys

uncons : {p : ℕ} {xs : Bytes} {t : Lexeme} {ts : List Lexeme} {q : ℕ} {rest : Bytes} → Lexes p xs (t ∷ ts) q rest → Uncons p xs t ts q rest
uncons (Lexes.token {p} {q} {k} {g} {w} {ys} {rest} {ts} a s f m) = record { to = p + length g + length w; left = ys; more = m; again = λ us r zs l. Lexes.token a s f l }

pub lexes_split : (ts : List Lexeme) {us : List Lexeme} {p : ℕ} {xs : Bytes} {r : ℕ} {rest : Bytes} → Lexes p xs (ts ++ us) r rest → Split p xs ts us r rest
lexes_split [] {us} {p} {xs} l = record { place = p; bytes = xs; before = Lexes.none; behind = l }
lexes_split (t ∷ ts) l =
    let u = uncons l in
    let v = lexes_split ts u.more in
    record { place = v.place; bytes = v.bytes; before = u.again ts v.place v.bytes v.before; behind = v.behind }

-- the bytes that tokens take
pub lexes_bytes : {p : ℕ} {xs : Bytes} {ts : List Lexeme} {q : ℕ} {rest : Bytes} → Lexes p xs ts q rest → (xs ≡ with_leads ts ++ rest) × (q ≡ p + length (with_leads ts))
unfolding with_leads
lexes_bytes (Lexes.none {p}) = (refl, omega arith)
lexes_bytes (Lexes.token {p} {q} {k} {g} {w} {ys} {rest} {ts} a s f m) =
    let b = lexes_bytes m in
    let l : length (g ++ (w ++ with_leads ts)) ≡ length g + (length w + length (with_leads ts)) = length-append g (w ++ with_leads ts) ∙ ap (λ z. length g + z) (length-append w (with_leads ts)) in
    let e = b.1 in
    (ap {B = Bytes} (λ zs. g ++ (w ++ zs)) b.0 ∙ ap {B = Bytes} (λ zs. g ++ zs) (sym (append_assoc w (with_leads ts) rest)) ∙ sym (append_assoc g (w ++ with_leads ts) rest), omega arith)

pub lexes_shorter : {p : ℕ} {xs : Bytes} {ts : List Lexeme} {q : ℕ} {rest : Bytes} → Lexes p xs ts q rest → length rest ≤ length xs
lexes_shorter {xs = xs} {ts = ts} {rest = rest} l = let e : length xs ≡ length (with_leads ts) + length rest = ap length (lexes_bytes l).0 ∙ length-append (with_leads ts) rest in omega arith

pub lexes_reach : {p : ℕ} {xs : Bytes} {ts : List Lexeme} {q : ℕ} {rest : Bytes} → Lexes p xs ts q rest → q + length rest ≡ p + length xs
lexes_reach {p} {xs} {ts} {q} {rest} l =
    let e : length xs ≡ length (with_leads ts) + length rest = ap length (lexes_bytes l).0 ∙ length-append (with_leads ts) rest in
    let f = (lexes_bytes l).1 in
    omega arith

-- tokens ahead of others
pub ahead_more : {p : ℕ} {xs : Bytes} {ts us : List Lexeme} {q : ℕ} {rest : Bytes} → Lexes p xs ts q rest → Ahead q rest us → Ahead p xs (ts ++ us)
ahead_more {ts = ts} {us = us} l (Ahead.enough m h) = Ahead.enough (lexes_join l m) (let e : length (ts ++ us) ≡ length ts + length us = length-append ts us in omega arith)
ahead_more l (Ahead.all_there m h) = Ahead.all_there (lexes_join l m) h

-- the reader starts behind what it skips
pub token_skips : (p : ℕ) (xs : Bytes) → token_at (skip false p xs).0 (skip false p xs).1 ≡ token_at p xs
unfolding token_at skip
token_skips p xs = go (skip false p xs).1 refl
  where
    go : (zs : Bytes) → (skip false p xs).1 ≡ zs → start_at (skip false (skip false p xs).0 zs).0 (skip false (skip false p xs).0 zs).1 ≡ start_at (skip false p xs).0 zs
    go [] h = refl
    go (z ∷ zs) h = rw (tight_stays (skip false p xs).0 z zs (skip_tight false p xs z zs h)) refl

-- no tokens take no bytes
pub lexes_none : {p : ℕ} {xs : Bytes} {q : ℕ} {rest : Bytes} → Lexes p xs [] q rest → (p ≡ q) × (xs ≡ rest)
lexes_none Lexes.none = (refl, refl)

-- one token is the one that the reader meets
pub record Single (p : ℕ) (xs : Bytes) (t : Lexeme) (q : ℕ) (rest : Bytes) : Type 0 where
  pub kind : (token_at p xs).kind ≡ t.kind
  pub to : (token_at p xs).to ≡ q
  pub left : (token_at p xs).rest ≡ rest

pub single : {p : ℕ} {xs : Bytes} {t : Lexeme} {q : ℕ} {rest : Bytes} → Lexes p xs (t ∷ []) q rest → length xs < turns → Single p xs t q rest
single l h = let k = head l h in let n = lexes_none k.more in record { kind = ap (λ (x : Lexeme). x.kind) k.lex; to = n.0; left = n.1 }

-- the bytes of tokens, from behind what is skipped
pub value_bytes : {p : ℕ} {xs : Bytes} (ts : List Lexeme) {q : ℕ} {rest : Bytes} → Lexes p xs ts q rest → 1 ≤ length ts → length xs < turns → up_to (skip false p xs).0 (skip false p xs).1 q ≡ bytes_of ts
unfolding bytes_of
value_bytes [] l s h = absurd (omega arith)
value_bytes {p} {xs} (t ∷ ts) {q} {rest} l s h =
    let k = head l h in
    let b = lexes_bytes k.more in
    let e = b.1 in
    let f = k.ends in
    let n : length (t.own ++ with_leads ts) ≡ length t.own + length (with_leads ts) = length-append t.own (with_leads ts) in
    rw k.skips
    (ap {B = Bytes} (λ ys. up_to t.from (t.own ++ ys) q) b.0
    ∙ ap {B = Bytes} (λ ys. up_to t.from ys q) (sym (append_assoc t.own (with_leads ts) rest))
    ∙ up_to_taken t.from q (t.own ++ with_leads ts) rest (omega arith))

-- the tokens ahead stand there
pub ahead_lexes : {p : ℕ} {xs : Bytes} {ts : List Lexeme} → Ahead p xs ts → (q : ℕ) × (rest : Bytes) × Lexes p xs ts q rest
ahead_lexes (Ahead.enough {q = q} {rest = rest} l h) = (q, rest, l)
ahead_lexes (Ahead.all_there {q = q} {rest = rest} l h) = (q, rest, l)
