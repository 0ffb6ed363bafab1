-- A hex string, at a place inside it.
use Rattle.std.proofs.Common.{◌≡◌, ℕ, suc, ◌+◌, ◌<◌, ◌≤◌, Bool, true, false, ◌||◌, eqb, [], ◌∷◌, length, get_or, drop, sym, refl, ap, ◌∙◌, add-one, arith, drop-drop}
use Rattle.std.specs.List.{between}
use Rattle.std.proofs.lemmas.List.{at_drop_all}
use Rattle.std.proofs.lemmas.Bool.{eq-eqb, eqb-true, ne_eqb, false≢true}
use Rattle.format.specs.Bytes.{Bytes, is_white, is_digit}
use Rattle.format.specs.Names.{hex_digit}
use Rattle.format.specs.Strings.{Span, closed, unclosed, broken_at, is_hex, hex_string}
use Rattle.lexer.proofs.Cases.{cases}
use Rattle.lexer.proofs.Places.{at_place}
use Rattle.lexer.proofs.Runs.{passing, passing_on, passing_off, found_there}

module _ (p x : ℕ) (xs : Bytes) where
  closes : eqb x 62 ≡ true → hex_string p (x ∷ xs) ≡ closed (suc p) xs
  unfolding hex_string
  closes e = rw (e, hex_string)

  passes : eqb x 62 ≡ false → (is_hex x || is_white x) ≡ true → hex_string p (x ∷ xs) ≡ hex_string (suc p) xs
  unfolding hex_string
  passes e f = rw (e, f, hex_string)

  breaks : eqb x 62 ≡ false → (is_hex x || is_white x) ≡ false → hex_string p (x ∷ xs) ≡ broken_at p
  unfolding hex_string
  breaks e f = rw (e, f, hex_string)

none_left : (p : ℕ) → hex_string p [] ≡ unclosed
unfolding hex_string
none_left p = refl

-- a byte that can stand in a hex string
abbrev pub inside : ℕ → Bool
inside x = is_hex x || is_white x

-- the closing mark is none
no_close : (x : ℕ) → inside x ≡ true → eqb x 62 ≡ false
unfolding is_hex hex_digit is_digit is_white
no_close x e = cases (eqb x 62) (λ t. let i : x ≡ 62 = eqb-true x 62 t in let f : false ≡ true = rw i at e in absurd (false≢true f)) (λ t. t)

-- a hex string goes on behind the bytes that can stand in it
hex_run : (p : ℕ) (xs : Bytes) → hex_string p xs ≡ hex_string (p + passing inside xs) (drop (passing inside xs) xs)
hex_run p [] = let i : p ≡ p + 0 = omega arith in ap (λ q. hex_string q []) i
hex_run p (x ∷ xs) =
    let n = passing inside xs in
    cases (inside x)
    (λ e.
    let i : suc p + n ≡ p + suc n = omega arith in
    passes p x xs (no_close x e) e
    ∙ hex_run (suc p) xs
    ∙ ap (λ q. hex_string q (drop n xs)) i
    ∙ ap (λ k. hex_string (p + k) (drop k (x ∷ xs))) (sym (passing_on inside x xs e)))
    (λ e. let i : p ≡ p + 0 = omega arith in ap (λ q. hex_string q (x ∷ xs)) i ∙ ap (λ k. hex_string (p + k) (drop k (x ∷ xs))) (sym (passing_off inside x xs e)))

-- a hex string from a place of the bytes on
abbrev pub hex_at : Bytes → ℕ → Span
hex_at src p = hex_string p (drop p src)

module _ (src : Bytes) (p : ℕ) {z : Span} where
  pub hex_ends : length src ≤ p → hex_at src p ≡ z → unclosed ≡ z
  hex_ends h was = sym (at_drop_all (hex_string p) src p h ∙ none_left p) ∙ was

  pub hex_closes : p < length src → get_or src p 0 ≡ 62 → hex_at src p ≡ z → closed (p + 1) (drop (p + 1) src) ≡ z
  hex_closes h b was = rw add-one (sym (at_place (hex_string p) src p h ∙ closes p _ _ (eq-eqb _ _ b)) ∙ was)

  pub hex_breaks : p < length src → (get_or src p 0 ≡ 62 → ⊥) → (is_hex (get_or src p 0) || is_white (get_or src p 0)) ≡ false → hex_at src p ≡ z → broken_at p ≡ z
  hex_breaks h b f was = sym (at_place (hex_string p) src p h ∙ breaks p _ _ (ne_eqb _ _ b) f) ∙ was

pub hex_found : (src : Bytes) (p n : ℕ) → n ≡ passing inside (between p (length src) src) → hex_at src (p + n) ≡ hex_at src p
hex_found src p n found =
    sym (
    hex_run p (drop p src)
    ∙ ap (λ k. hex_string (p + k) (drop k (drop p src))) (sym (found_there inside src p n found))
    ∙ ap (hex_string (p + n)) (drop-drop n p src))
