-- The token that starts at a place of the bytes.
use Rattle.std.proofs.Common.{◌≡◌, ℕ, suc, ◌+◌, ◌-◌, ◌<◌, ◌≤◌, true, false, eqb, [], ◌∷◌, length, get_or, take, drop, Some, Result, sym, refl, ap, ◌∙◌, subst, add-one, arith, length-drop, drop-cons}
use Rattle.std.proofs.lemmas.List.{at_drop_all}
use Rattle.std.proofs.lemmas.Bool.{eq-eqb, ne_eqb}
use Rattle.std.specs.List.{between}
use Rattle.format.specs.Bytes.{Bytes, end_of, up_to, is_regular, span}
use Rattle.format.specs.Names.{decoded, wrong_hash, plain, decode}
use Rattle.format.specs.Numbers.{starts_number, numeral}
use Rattle.format.specs.Strings.{Span, closed, unclosed, too_deep_at, broken_at, string_by, string, hex_string}
use Rattle.format.specs.Tokens.{open_array, close_array, open_dict, close_dict, Flaw, bad_name, bad_hex, stray, cut_short, deep_bracket, Kind, name, text, hex, mark, word, flawed, Token, tok, one_byte, string_token, after_less, after_greater, name_kind, name_token, marked, numeral_kind, run_kind, run_token, start_at}
use Rattle.lexer.specs.declared.flaw.Flaw.{Flaw as Broken}
use Rattle.lexer.specs.declared.token.Token.{Token as Read}
use Rattle.lexer.specs.Endings.{span_flaw}
use Rattle.lexer.specs.Views.{Reads, bytes_at}
use Rattle.lexer.proofs.Places.{at_place}

-- a flawed token by its parts
pub flawed_parts : (t : Token) (f : Flaw) (p q : ℕ) (xs ys : Bytes) → t ≡ tok (flawed f) p xs q ys → (t.from ≡ p) × (t.kind ≡ flawed f)
flawed_parts t f p q xs ys e = (ap (λ t. t.from) e, ap (λ t. t.kind) e)

-- the same flaw of a token under another name
pub flawed_as : (t u : Token) (p : ℕ) (f : Flaw) → t ≡ u → (u.from ≡ p) × (u.kind ≡ flawed f) → (t.from ≡ p) × (t.kind ≡ flawed f)
flawed_as t u p f e (a, b) = (ap (λ t. t.from) e ∙ a, ap (λ t. t.kind) e ∙ b)

-- the same token under another name
pub reads_as : (src : Bytes) (p : ℕ) (t u : Token) (r : Result (Read × ℕ) Broken) → t ≡ u → Reads src p u r → Reads src p t r
reads_as src p t u r e h = subst (λ t. Reads src p t r) (sym e) h

-- the bytes from p to q, of which one stands at p
pub from_here : (src : Bytes) (p q : ℕ) → p < length src → take (q - p) (bytes_at src p) ≡ between p q src
from_here src p q h = ap (take (q - p)) (sym (drop-cons src p 0 h))

pub and_behind : (src : Bytes) (p q : ℕ) → p < length src → p + 1 ≤ q → get_or src p 0 ∷ between (p + 1) q src ≡ between p q src
and_behind src p q h l =
    let i : q - p ≡ suc (q - (p + 1)) = omega arith in
    rw (i, drop-cons src p 0 h, add-one)

-- strings of both sorts
module _ (k : Bytes → Kind) (f : ℕ → Flaw) (src : Bytes) (p : ℕ) (h : p < length src) (s : Span) where
  pub string_closed : (q : ℕ) → s ≡ closed q (drop q src) → string_token k f p (bytes_at src p) s ≡ tok (k (between p q src)) p (bytes_at src p) q (drop q src)
  unfolding string_token up_to
  string_closed q e = rw (e, string_token) (ap (λ w. tok (k w) p (bytes_at src p) q (drop q src)) (from_here src p q h))

  pub string_flawed : (y : Flaw) → span_flaw f src s ≡ Some y → ((string_token k f p (bytes_at src p) s).from ≡ p) × ((string_token k f p (bytes_at src p) s).kind ≡ flawed y)
  unfolding string_token end_of
  string_flawed y e = flawed_span s e
    where
      flawed_span : (t : Span) → span_flaw f src t ≡ Some y → ((string_token k f p (bytes_at src p) t).from ≡ p) × ((string_token k f p (bytes_at src p) t).kind ≡ flawed y)
      flawed_span (closed q xs) g = let z : ◌≡◌ {A = ℕ} 0 1 = cc in absurd (omega arith)
      flawed_span unclosed g =
          let n : p + length (bytes_at src p) ≡ length src = simp length-drop (omega arith) in
          let i : cut_short (length src) ≡ y = cc in
          (refl, ap (λ m. flawed (cut_short m)) n ∙ ap flawed i)
      flawed_span (too_deep_at q) g = let i : deep_bracket q ≡ y = cc in (refl, ap flawed i)
      flawed_span (broken_at q) g = let i : f q ≡ y = cc in (refl, ap flawed i)

pub string_is : (p : ℕ) (xs : Bytes) → string p xs ≡ string_by 32 p xs
unfolding string
string_is p xs = refl

module _ (src : Bytes) (p : ℕ) where
  -- names
  pub name_reads : (q : ℕ) (run d : Bytes) → span is_regular (p + 1) (drop (p + 1) src) ≡ (run, q, drop q src) → decode plain (p + 1) run ≡ decoded d
      → name_token p (get_or src p 0) (drop (suc p) src) (span is_regular (suc p) (drop (suc p) src)) ≡ tok (name d) p (bytes_at src p) q (drop q src)
  unfolding name_token name_kind
  name_reads q run d s e =
      ap (name_token p (get_or src p 0) (drop (suc p) src)) (rw add-one at s)
      ∙ ap (λ r. tok (name_kind r) p (bytes_at src p) q (drop q src)) (rw add-one at e)

  pub name_flaws : (q : ℕ) (run : Bytes) (w : ℕ) → span is_regular (p + 1) (drop (p + 1) src) ≡ (run, q, drop q src) → decode plain (p + 1) run ≡ wrong_hash w
      → name_token p (get_or src p 0) (drop (suc p) src) (span is_regular (suc p) (drop (suc p) src)) ≡ tok (flawed (bad_name w)) p (bytes_at src p) q (drop q src)
  unfolding name_token name_kind
  name_flaws q run w s e =
      ap (name_token p (get_or src p 0) (drop (suc p) src)) (rw add-one at s)
      ∙ ap (λ r. tok (name_kind r) p (bytes_at src p) q (drop q src)) (rw add-one at e)

  -- runs
  pub run_reads : (q : ℕ) (k : Kind) → p < length src → p + 1 ≤ q → span is_regular (p + 1) (drop (p + 1) src) ≡ (up_to (p + 1) (drop (p + 1) src) q, q, drop q src)
      → run_kind p (get_or src p 0) (between p q src) ≡ k
      → run_token p (get_or src p 0) (drop (suc p) src) (span is_regular (suc p) (drop (suc p) src)) ≡ tok k p (bytes_at src p) q (drop q src)
  unfolding run_token up_to
  run_reads q k h l s e =
      ap (run_token p (get_or src p 0) (drop (suc p) src)) (rw (add-one p) at s)
      ∙ ap (λ r. tok (run_kind p (get_or src p 0) r) p (bytes_at src p) q (drop q src)) (rw (add-one p) at (and_behind src p q h l))
      ∙ ap (λ k. tok k p (bytes_at src p) q (drop q src)) e

pub word_kind : (p x : ℕ) (w : Bytes) → starts_number x ≡ false → run_kind p x w ≡ word w
unfolding run_kind
word_kind p x w e = rw (e, run_kind)

pub number_kind : (p x : ℕ) (w : Bytes) (k : Kind) → starts_number x ≡ true → k ≡ numeral_kind w (numeral p w) → run_kind p x w ≡ k
unfolding run_kind
number_kind p x w k e f = rw (e, run_kind) (sym f)

-- a token that starts with `<`
module _ (src : Bytes) (p : ℕ) where
  less_none : after_less p (get_or src p 0) [] ≡ tok (flawed (cut_short (p + 1))) p (get_or src p 0 ∷ []) (suc p) []
  unfolding after_less
  less_none = ap (λ n. tok (flawed (cut_short n)) p (get_or src p 0 ∷ []) (suc p) []) (sym (add-one p))

  pub less_cut : p + 1 ≡ length src → ((after_less p (get_or src p 0) (drop (suc p) src)).from ≡ p) × ((after_less p (get_or src p 0) (drop (suc p) src)).kind ≡ flawed (cut_short (p + 1)))
  less_cut e =
      let l : length src ≤ suc p = omega arith in
      flawed_parts _ _ _ _ _ _ (at_drop_all (after_less p (get_or src p 0)) src (suc p) l ∙ less_none)

  less_twice : (y : ℕ) (ys : Bytes) → eqb y 60 ≡ true → after_less p (get_or src p 0) (y ∷ ys) ≡ tok (mark open_dict) p (get_or src p 0 ∷ y ∷ ys) (suc (suc p)) ys
  unfolding after_less
  less_twice y ys e = rw (e, after_less)

  less_once : (y : ℕ) (ys : Bytes) → eqb y 60 ≡ false → after_less p (get_or src p 0) (y ∷ ys) ≡ string_token hex bad_hex p (get_or src p 0 ∷ y ∷ ys) (hex_string (suc p) (y ∷ ys))
  unfolding after_less
  less_once y ys e = rw (e, after_less)

  pub less_dict : p + 1 < length src → get_or src (p + 1) 0 ≡ 60 → after_less p (get_or src p 0) (drop (suc p) src) ≡ tok (mark open_dict) p (bytes_at src p) (p + 2) (drop (p + 2) src)
  less_dict h e =
      let l : suc p < length src = omega arith in
      let i : p + 2 ≡ suc (suc p) = omega arith in
      let f : get_or src (suc p) 0 ≡ 60 = rw add-one at e in
      rw i (at_place (after_less p (get_or src p 0)) src (suc p) l
      ∙ less_twice _ _ (eq-eqb _ _ f)
      ∙ sym (at_place (λ r. tok (mark open_dict) p (get_or src p 0 ∷ r) (suc (suc p)) (drop (suc (suc p)) src)) src (suc p) l))

  pub less_hex : p + 1 < length src → (get_or src (p + 1) 0 ≡ 60 → ⊥) → after_less p (get_or src p 0) (drop (suc p) src) ≡ string_token hex bad_hex p (bytes_at src p) (hex_string (p + 1) (drop (p + 1) src))
  less_hex h e =
      let l : suc p < length src = omega arith in
      let f : get_or src (suc p) 0 ≡ 60 → ⊥ = rw add-one at e in
      rw add-one (at_place (after_less p (get_or src p 0)) src (suc p) l
      ∙ less_once _ _ (ne_eqb _ _ f)
      ∙ sym (at_place (λ r. string_token hex bad_hex p (get_or src p 0 ∷ r) (hex_string (suc p) r)) src (suc p) l))

  -- a token that starts with `>`
  greater_none : after_greater p (get_or src p 0) [] ≡ tok (flawed (cut_short (p + 1))) p (get_or src p 0 ∷ []) (suc p) []
  unfolding after_greater
  greater_none = ap (λ n. tok (flawed (cut_short n)) p (get_or src p 0 ∷ []) (suc p) []) (sym (add-one p))

  pub greater_cut : p + 1 ≡ length src → ((after_greater p (get_or src p 0) (drop (suc p) src)).from ≡ p) × ((after_greater p (get_or src p 0) (drop (suc p) src)).kind ≡ flawed (cut_short (p + 1)))
  greater_cut e =
      let l : length src ≤ suc p = omega arith in
      flawed_parts _ _ _ _ _ _ (at_drop_all (after_greater p (get_or src p 0)) src (suc p) l ∙ greater_none)

  greater_twice : (y : ℕ) (ys : Bytes) → eqb y 62 ≡ true → after_greater p (get_or src p 0) (y ∷ ys) ≡ tok (mark close_dict) p (get_or src p 0 ∷ y ∷ ys) (suc (suc p)) ys
  unfolding after_greater
  greater_twice y ys e = rw (e, after_greater)

  greater_once : (y : ℕ) (ys : Bytes) → eqb y 62 ≡ false → after_greater p (get_or src p 0) (y ∷ ys) ≡ tok (flawed stray) p (get_or src p 0 ∷ y ∷ ys) (suc p) (y ∷ ys)
  unfolding after_greater
  greater_once y ys e = rw (e, after_greater)

  pub greater_dict : p + 1 < length src → get_or src (p + 1) 0 ≡ 62 → after_greater p (get_or src p 0) (drop (suc p) src) ≡ tok (mark close_dict) p (bytes_at src p) (p + 2) (drop (p + 2) src)
  greater_dict h e =
      let l : suc p < length src = omega arith in
      let i : p + 2 ≡ suc (suc p) = omega arith in
      let f : get_or src (suc p) 0 ≡ 62 = rw add-one at e in
      rw i (at_place (after_greater p (get_or src p 0)) src (suc p) l
      ∙ greater_twice _ _ (eq-eqb _ _ f)
      ∙ sym (at_place (λ r. tok (mark close_dict) p (get_or src p 0 ∷ r) (suc (suc p)) (drop (suc (suc p)) src)) src (suc p) l))

  pub greater_stray : p + 1 < length src → (get_or src (p + 1) 0 ≡ 62 → ⊥) → ((after_greater p (get_or src p 0) (drop (suc p) src)).from ≡ p) × ((after_greater p (get_or src p 0) (drop (suc p) src)).kind ≡ flawed stray)
  greater_stray h e =
      let l : suc p < length src = omega arith in
      let f : get_or src (suc p) 0 ≡ 62 → ⊥ = rw add-one at e in
      flawed_parts _ _ _ _ _ _ (at_place (after_greater p (get_or src p 0)) src (suc p) l ∙ greater_once _ _ (ne_eqb _ _ f))

-- a delimiter
module _ (p x : ℕ) (xs : Bytes) where
  pub on_slash : x ≡ 47 → marked p x xs ≡ name_token p x xs (span is_regular (suc p) xs)
  unfolding marked
  on_slash e = rw (eq-eqb x 47 e, marked)

  module _ (n1 : x ≡ 47 → ⊥) where
    pub on_bracket : x ≡ 40 → marked p x xs ≡ string_token text (λ q. stray) p (x ∷ xs) (string p xs)
    unfolding marked
    on_bracket e = rw (ne_eqb x 47 n1, eq-eqb x 40 e, marked)

    module _ (n2 : x ≡ 40 → ⊥) where
      pub on_less : x ≡ 60 → marked p x xs ≡ after_less p x xs
      unfolding marked
      on_less e = rw (ne_eqb x 47 n1, ne_eqb x 40 n2, eq-eqb x 60 e, marked)

      module _ (n3 : x ≡ 60 → ⊥) where
        pub on_greater : x ≡ 62 → marked p x xs ≡ after_greater p x xs
        unfolding marked
        on_greater e = rw (ne_eqb x 47 n1, ne_eqb x 40 n2, ne_eqb x 60 n3, eq-eqb x 62 e, marked)

        module _ (n4 : x ≡ 62 → ⊥) where
          pub on_open : x ≡ 91 → marked p x xs ≡ one_byte (mark open_array) p x xs
          unfolding marked
          on_open e = rw (ne_eqb x 47 n1, ne_eqb x 40 n2, ne_eqb x 60 n3, ne_eqb x 62 n4, eq-eqb x 91 e, marked)

          module _ (n5 : x ≡ 91 → ⊥) where
            pub on_close : x ≡ 93 → marked p x xs ≡ one_byte (mark close_array) p x xs
            unfolding marked
            on_close e = rw (ne_eqb x 47 n1, ne_eqb x 40 n2, ne_eqb x 60 n3, ne_eqb x 62 n4, ne_eqb x 91 n5, eq-eqb x 93 e, marked)

            pub on_other : (x ≡ 93 → ⊥) → marked p x xs ≡ one_byte (flawed stray) p x xs
            unfolding marked
            on_other n6 = rw (ne_eqb x 47 n1, ne_eqb x 40 n2, ne_eqb x 60 n3, ne_eqb x 62 n4, ne_eqb x 91 n5, ne_eqb x 93 n6, marked)

            pub on_stray : (x ≡ 93 → ⊥) → ((marked p x xs).from ≡ p) × ((marked p x xs).kind ≡ flawed stray)
            on_stray n6 = flawed_parts _ _ _ _ _ _ (on_other n6)

-- a mark of one byte
pub one_byte_fact : (k : Kind) (src : Bytes) (p : ℕ) {t : Token} → t ≡ one_byte k p (get_or src p 0) (drop (suc p) src) → t ≡ tok k p (bytes_at src p) (p + 1) (drop (p + 1) src)
one_byte_fact k src p e = rw add-one e

-- a regular byte starts a run, and another one a mark
module _ (src : Bytes) (p : ℕ) (h : p < length src) where
  pub starts_run : is_regular (get_or src p 0) ≡ true → start_at p (drop p src) ≡ run_token p (get_or src p 0) (drop (suc p) src) (span is_regular (suc p) (drop (suc p) src))
  unfolding start_at
  starts_run e = at_place (start_at p) src p h ∙ rw (e, start_at)

  pub starts_mark : is_regular (get_or src p 0) ≡ false → start_at p (drop p src) ≡ marked p (get_or src p 0) (drop (suc p) src)
  unfolding start_at
  starts_mark e = at_place (start_at p) src p h ∙ rw (e, start_at)
