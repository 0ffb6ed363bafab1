-- The bytes of a name, one step at a time.
use Rattle.std.proofs.Common.{◌≡◌, ℕ, suc, ◌+◌, ◌*◌, ◌<◌, ◌≤◌, true, false, eqb, [], ◌∷◌, length, get_or, drop, Some, None, Ok, Err, Option, Result, sym, refl, ap, ◌∙◌, ⊎_elim, add-one, arith}
use Rattle.std.specs.Option.{ok_or}
use Rattle.std.proofs.lemmas.List.{at_drop_all, at_drop_more, nil_from_length}
use Rattle.std.proofs.lemmas.Bool.{cases_lt, eq-eqb, ne_eqb}
use Rattle.format.specs.Bytes.{Bytes}
use Rattle.format.specs.Names.{hex_digit, Decoded, decoded, wrong_hash, joined, plain, hash, half, decode}
use Rattle.format.specs.Tokens.{bad_name}
use Rattle.lexer.specs.declared.flaw.Flaw.{Flaw}
use Rattle.lexer.specs.declared.flaw.Flaw.TheVariants.{BadName}
use Rattle.lexer.specs.Flaws.{flaw_shown}
use Rattle.lexer.specs.Spelled.{hex_byte, spelled, checked}
use Rattle.lexer.proofs.Cases.{cases, either_some}
use Rattle.lexer.proofs.Places.{at_place, at_three, at_two, at_two_more}

-- behind a `#`: a byte in front, or nothing
abbrev on_hex : Option ℕ → ℕ → Decoded → Decoded
on_hex None p r = wrong_hash p
on_hex (Some c) p r = joined c r

module _ (p x : ℕ) (xs : Bytes) where
  plain_step : eqb x 35 ≡ false → decode plain p (x ∷ xs) ≡ joined x (decode plain (suc p) xs)
  unfolding decode
  plain_step e = rw (e, decode)

  hash_opens : eqb x 35 ≡ true → decode plain p (x ∷ xs) ≡ decode (hash p) (suc p) xs
  unfolding decode
  hash_opens e = rw (e, decode)

  no_high : (s : ℕ) → hex_digit x ≡ None → decode (hash s) p (x ∷ xs) ≡ wrong_hash s
  unfolding decode
  no_high s e = rw (e, decode)

  high : (s h : ℕ) → hex_digit x ≡ Some h → decode (hash s) p (x ∷ xs) ≡ decode (half s h) (suc p) xs
  unfolding decode
  high s h e = rw (e, decode)

  no_low : (s h : ℕ) → hex_digit x ≡ None → decode (half s h) p (x ∷ xs) ≡ wrong_hash s
  unfolding decode
  no_low s h e = rw (e, decode)

  low_zero : (s h l : ℕ) → hex_digit x ≡ Some l → eqb (h * 16 + l) 0 ≡ true → decode (half s h) p (x ∷ xs) ≡ wrong_hash s
  unfolding decode
  low_zero s h l e f = rw (e, f, decode)

  low : (s h l : ℕ) → hex_digit x ≡ Some l → eqb (h * 16 + l) 0 ≡ false → decode (half s h) p (x ∷ xs) ≡ joined (h * 16 + l) (decode plain (suc p) xs)
  unfolding decode
  low s h l e f = rw (e, f, decode)

cut_hash : (s p : ℕ) → decode (hash s) p [] ≡ wrong_hash s
unfolding decode
cut_hash s p = refl

cut_half : (s h p : ℕ) → decode (half s h) p [] ≡ wrong_hash s
unfolding decode
cut_half s h p = refl

-- two bytes behind a `#`
module _ (y z : ℕ) where
  pub byte_no_high : hex_digit y ≡ None → hex_byte y z ≡ None
  unfolding hex_byte
  byte_no_high e = rw (e, hex_byte)

  pub byte_no_low : (h : ℕ) → hex_digit y ≡ Some h → hex_digit z ≡ None → hex_byte y z ≡ None
  unfolding hex_byte
  byte_no_low h e f = rw (e, f, hex_byte)

  pub byte_zero : (h l : ℕ) → hex_digit y ≡ Some h → hex_digit z ≡ Some l → eqb (h * 16 + l) 0 ≡ true → hex_byte y z ≡ None
  unfolding hex_byte
  byte_zero h l e f g = rw (e, f, g, hex_byte)

  pub byte_is : (h l : ℕ) → hex_digit y ≡ Some h → hex_digit z ≡ Some l → eqb (h * 16 + l) 0 ≡ false → hex_byte y z ≡ Some (h * 16 + l)
  unfolding hex_byte
  byte_is h l e f g = rw (e, f, g, hex_byte)

module _ (p x : ℕ) (e : eqb x 35 ≡ true) where
  hash_step : (y z : ℕ) (zs : Bytes) → decode plain p (x ∷ y ∷ z ∷ zs) ≡ on_hex (hex_byte y z) p (decode plain (suc (suc (suc p))) zs)
  hash_step y z zs =
      let r = decode plain (suc (suc (suc p))) zs in
      hash_opens p x (y ∷ z ∷ zs) e
      ∙ either_some (hex_digit y)
      (λ h a.
      high (suc p) y (z ∷ zs) p h a
      ∙ either_some (hex_digit z)
      (λ l b.
      cases (eqb (h * 16 + l) 0)
      (λ c. low_zero (suc (suc p)) z zs p h l b c ∙ sym (ap (λ o. on_hex o p r) (byte_zero y z h l a b c)))
      (λ c. low (suc (suc p)) z zs p h l b c ∙ sym (ap (λ o. on_hex o p r) (byte_is y z h l a b c))))
      (λ b. no_low (suc (suc p)) z zs p h b ∙ sym (ap (λ o. on_hex o p r) (byte_no_low y z h a b))))
      (λ a. no_high (suc p) y (z ∷ zs) p a ∙ sym (ap (λ o. on_hex o p r) (byte_no_high y z a)))

  hash_last : decode plain p (x ∷ []) ≡ wrong_hash p
  hash_last = hash_opens p x [] e ∙ cut_hash p (suc p)

  hash_last_but_one : (y : ℕ) → decode plain p (x ∷ y ∷ []) ≡ wrong_hash p
  hash_last_but_one y =
      hash_opens p x (y ∷ []) e
      ∙ either_some (hex_digit y) (λ h a. high (suc p) y [] p h a ∙ cut_half p h (suc (suc p))) (λ a. no_high (suc p) y [] p a)

wrong_joined : (c : ℕ) (r : Decoded) → checked (joined c r) ≡ checked r
unfolding joined
wrong_joined c (decoded cs) = refl
wrong_joined c (wrong_hash q) = refl

decode_none : (p : ℕ) → decode plain p [] ≡ decoded []
unfolding decode
decode_none p = refl

-- the first wrong `#` from a place of the bytes on
abbrev pub wrong_from : Bytes → ℕ → ℕ → Result Unit Flaw
wrong_from run p i = checked (decode plain (p + i) (drop i run))

module _ (run : Bytes) (p i : ℕ) {z : Result Unit Flaw} where
  pub wrong_ends : length run ≤ i → wrong_from run p i ≡ z → Ok tt ≡ z
  wrong_ends h was = sym (ap checked (at_drop_all (decode plain (p + i)) run i h ∙ decode_none (p + i))) ∙ was

  pub wrong_plain : i < length run → (get_or run i 0 ≡ 35 → ⊥) → wrong_from run p i ≡ z → wrong_from run p (i + 1) ≡ z
  wrong_plain h e was =
      let j : p + (i + 1) ≡ suc (p + i) = omega arith in
      rw (j, add-one) (sym (ap checked (at_place (decode plain (p + i)) run i h ∙ plain_step (p + i) _ _ (ne_eqb _ _ e)) ∙ wrong_joined _ _) ∙ was)

  wrong_pair : (c : ℕ) → i + 2 < length run → get_or run i 0 ≡ 35 → hex_byte (get_or run (i + 1) 0) (get_or run (i + 2) 0) ≡ Some c → wrong_from run p i ≡ z → wrong_from run p (i + 3) ≡ z
  wrong_pair c h e f was =
      let j : p + (i + 3) ≡ suc (suc (suc (p + i))) = omega arith in
      rw j (sym (ap checked (at_three (decode plain (p + i)) run i h ∙ hash_step (p + i) _ (eq-eqb _ _ e) _ _ _ ∙ ap (λ o. on_hex o (p + i) (decode plain (suc (suc (suc (p + i)))) (drop (i + 3) run))) f) ∙ wrong_joined _ _) ∙ was)

  wrong_here : i + 2 < length run → get_or run i 0 ≡ 35 → hex_byte (get_or run (i + 1) 0) (get_or run (i + 2) 0) ≡ None → wrong_from run p i ≡ z → Err (BadName (p + i)) ≡ z
  wrong_here h e f was =
      sym (ap checked (at_three (decode plain (p + i)) run i h ∙ hash_step (p + i) _ (eq-eqb _ _ e) _ _ _ ∙ ap (λ o. on_hex o (p + i) (decode plain (suc (suc (suc (p + i)))) (drop (i + 3) run))) f)) ∙ was

  wrong_short : i < length run → length run ≤ i + 2 → get_or run i 0 ≡ 35 → wrong_from run p i ≡ z → Err (BadName (p + i)) ≡ z
  wrong_short h l e was =
      ⊎_elim
      (λ g. sym (ap checked (at_two (decode plain (p + i)) run i g l ∙ hash_last_but_one (p + i) _ (eq-eqb _ _ e) _)) ∙ was)
      (λ g.
      let k : length run ≤ suc i = omega arith in
      sym (ap checked (at_place (decode plain (p + i)) run i h ∙ at_drop_all (λ r. decode plain (p + i) (get_or run i 0 ∷ r)) run (suc i) k ∙ hash_last (p + i) _ (eq-eqb _ _ e))) ∙ was)
      (cases_lt (i + 1) (length run))

-- what a name's bytes stand for, one step at a time
module _ (x : ℕ) where
  spelled_plain : (xs : Bytes) → eqb x 35 ≡ false → spelled (x ∷ xs) ≡ x ∷ spelled xs
  unfolding spelled
  spelled_plain [] e = refl
  spelled_plain (y ∷ []) e = refl
  spelled_plain (y ∷ z ∷ zs) e = rw (e, spelled)

  spelled_pair : (y z c : ℕ) (zs : Bytes) → eqb x 35 ≡ true → hex_byte y z ≡ Some c → spelled (x ∷ y ∷ z ∷ zs) ≡ c ∷ spelled zs
  unfolding spelled
  spelled_pair y z c zs e f = rw (e, f, spelled)

  spelled_wrong : (y z : ℕ) (zs : Bytes) → eqb x 35 ≡ true → hex_byte y z ≡ None → spelled (x ∷ y ∷ z ∷ zs) ≡ x ∷ spelled (y ∷ z ∷ zs)
  unfolding spelled
  spelled_wrong y z zs e f = rw (e, f, spelled)

  spelled_two : (y : ℕ) → spelled (x ∷ y ∷ []) ≡ x ∷ spelled (y ∷ [])
  unfolding spelled
  spelled_two y = refl

  spelled_one : spelled (x ∷ []) ≡ x ∷ spelled []
  unfolding spelled
  spelled_one = refl

module _ (run : Bytes) (i : ℕ) where
  pub spelled_at_plain : i < length run → (get_or run i 0 ≡ 35 → ⊥) → spelled (drop i run) ≡ get_or run i 0 ∷ spelled (drop (i + 1) run)
  spelled_at_plain h e = rw add-one (at_place spelled run i h ∙ spelled_plain _ _ (ne_eqb _ _ e))

  spelled_at_pair : (c : ℕ) → i + 2 < length run → get_or run i 0 ≡ 35 → hex_byte (get_or run (i + 1) 0) (get_or run (i + 2) 0) ≡ Some c → spelled (drop i run) ≡ c ∷ spelled (drop (i + 3) run)
  spelled_at_pair c h e f = at_three spelled run i h ∙ spelled_pair _ _ _ c _ (eq-eqb _ _ e) f

  spelled_at_wrong : i + 2 < length run → get_or run i 0 ≡ 35 → hex_byte (get_or run (i + 1) 0) (get_or run (i + 2) 0) ≡ None → spelled (drop i run) ≡ get_or run i 0 ∷ spelled (drop (i + 1) run)
  spelled_at_wrong h e f =
      at_three spelled run i h
      ∙ spelled_wrong _ _ _ _ (eq-eqb _ _ e) f
      ∙ sym (at_two_more (λ r. get_or run i 0 ∷ spelled r) run (i + 1) (i + 2) (i + 3) (omega arith) (omega arith) h)

  spelled_at_short : i < length run → length run ≤ i + 2 → spelled (drop i run) ≡ get_or run i 0 ∷ spelled (drop (i + 1) run)
  spelled_at_short h l =
      ⊎_elim
      (λ g.
      let j : i + 1 + 1 ≡ i + 2 = omega arith in
      at_two spelled run i g l
      ∙ spelled_two _ _
      ∙ sym (at_drop_more (λ r. get_or run i 0 ∷ spelled r) run (i + 1) 0 g ∙ rw j (at_drop_all (λ r. get_or run i 0 ∷ spelled (get_or run (i + 1) 0 ∷ r)) run (i + 2) l)))
      (λ g.
      at_drop_more spelled run i 0 h
      ∙ at_drop_all (λ r. spelled (get_or run i 0 ∷ r)) run (i + 1) g
      ∙ spelled_one _
      ∙ sym (at_drop_all (λ r. get_or run i 0 ∷ spelled r) run (i + 1) g))
      (cases_lt (i + 1) (length run))

-- a `#`, where the byte r that it gives with the two behind it is known
module _ (run : Bytes) (i : ℕ) (h : i < length run) (e : get_or run i 0 ≡ 35) (r : Option ℕ) (far : i + 2 < length run → r ≡ hex_byte (get_or run (i + 1) 0) (get_or run (i + 2) 0)) (near : length run ≤ i + 2 → r ≡ None) where
  pub is_far : (c : ℕ) → r ≡ Some c → i + 2 < length run
  is_far c s =
      ⊎_elim
      (λ l. l)
      (λ l. let n : None ≡ Some c = sym (near l) ∙ s in let z : ◌≡◌ {A = ℕ} 0 1 = cc in absurd (omega arith))
      (cases_lt (i + 2) (length run))

  pub spelled_given : (c : ℕ) → r ≡ Some c → spelled (drop i run) ≡ c ∷ spelled (drop (i + 3) run)
  spelled_given c s = let l = is_far c s in spelled_at_pair run i c l e (sym (far l) ∙ s)

  pub spelled_left : r ≡ None → spelled (drop i run) ≡ get_or run i 0 ∷ spelled (drop (i + 1) run)
  spelled_left s = ⊎_elim (λ l. spelled_at_wrong run i l e (sym (far l) ∙ s)) (λ l. spelled_at_short run i h l) (cases_lt (i + 2) (length run))

  pub checked_given : (p : ℕ) (z : Result Unit Flaw) (c : ℕ) → r ≡ Some c → wrong_from run p i ≡ z → wrong_from run p (i + 3) ≡ z
  checked_given p z c s was = let l = is_far c s in wrong_pair run p i c l e (sym (far l) ∙ s) was

  pub checked_left : (p : ℕ) (z : Result Unit Flaw) → r ≡ None → wrong_from run p i ≡ z → Err (BadName (p + i)) ≡ z
  checked_left p z s was = ⊎_elim (λ l. wrong_here run p i l e (sym (far l) ∙ s) was) (λ l. wrong_short run p i h l e was) (cases_lt (i + 2) (length run))

spelled_none : spelled [] ≡ []
unfolding spelled
spelled_none = refl

pub spelled_empty : (xs : Bytes) → length xs ≡ 0 → spelled xs ≡ []
spelled_empty xs e = rw (nil_from_length xs e) spelled_none

-- what `ok_or` answers, told of the option
pub ok_or_some : (r : Option ℕ) (f : Flaw) (x : ℕ) → Ok x ≡ ok_or r f → r ≡ Some x
ok_or_some (Some a) f x e = let g : x ≡ a = cc in ap Some (sym g)
ok_or_some None f x e = let z : ◌≡◌ {A = ℕ} 0 1 = cc in absurd (omega arith)

pub ok_or_none : (r : Option ℕ) (f g : Flaw) → Err g ≡ ok_or r f → (r ≡ None) × (g ≡ f)
ok_or_none (Some a) f g e = let z : ◌≡◌ {A = ℕ} 0 1 = cc in absurd (omega arith)
ok_or_none None f g e = (refl, cc)

-- the bytes that a name stands for are those that the definition decodes
joined_parts : (c : ℕ) (r : Decoded) (d : Bytes) → joined c r ≡ decoded d → (e : Bytes) × (r ≡ decoded e) × (d ≡ c ∷ e)
unfolding joined
joined_parts c (decoded e) d q = (e, refl, cc)
joined_parts c (wrong_hash p) d q = let z : ◌≡◌ {A = ℕ} 0 1 = cc in absurd (omega arith)

wrong_is_not : {A : Type 0} (p : ℕ) (d : Bytes) → wrong_hash p ≡ decoded d → A
wrong_is_not p d q = let z : ◌≡◌ {A = ℕ} 0 1 = cc in absurd (omega arith)

module _ (p x : ℕ) (xs d : Bytes) where
  plain_is : eqb x 35 ≡ false → ((d : Bytes) → decode plain (suc p) xs ≡ decoded d → spelled xs ≡ d) → decode plain p (x ∷ xs) ≡ decoded d → spelled (x ∷ xs) ≡ d
  plain_is e more q =
      let j = joined_parts x (decode plain (suc p) xs) d (sym (plain_step p x xs e) ∙ q) in
      spelled_plain x xs e ∙ ap (λ r. x ∷ r) (more j.0 j.1) ∙ sym j.2

pub spelled_is : (p : ℕ) (xs d : Bytes) → decode plain p xs ≡ decoded d → spelled xs ≡ d
spelled_is p [] d e =
    let f : decoded [] ≡ decoded d = sym (decode_none p) ∙ e in
    let g : ◌≡◌ {A = Bytes} [] d = cc in
    spelled_none ∙ g
spelled_is p (x ∷ []) d e =
    cases (eqb x 35)
    (λ t. wrong_is_not p d (sym (hash_last p x t) ∙ e))
    (λ f. plain_is p x [] d f (λ r q. spelled_is (suc p) [] r q) e)
spelled_is p (x ∷ y ∷ []) d e =
    cases (eqb x 35)
    (λ t. wrong_is_not p d (sym (hash_last_but_one p x t y) ∙ e))
    (λ f. plain_is p x (y ∷ []) d f (λ r q. spelled_is (suc p) (y ∷ []) r q) e)
spelled_is p (x ∷ y ∷ z ∷ zs) d e =
    let rest = decode plain (suc (suc (suc p))) zs in
    cases (eqb x 35)
    (λ t.
    either_some (hex_byte y z)
    (λ c f.
    let j = joined_parts c rest d (sym (hash_step p x t y z zs ∙ ap (λ o. on_hex o p rest) f) ∙ e) in
    spelled_pair x y z c zs t f ∙ ap (λ r. c ∷ r) (spelled_is (suc (suc (suc p))) zs j.0 j.1) ∙ sym j.2)
    (λ f. wrong_is_not p d (sym (hash_step p x t y z zs ∙ ap (λ o. on_hex o p rest) f) ∙ e)))
    (λ f. plain_is p x (y ∷ z ∷ zs) d f (λ r q. spelled_is (suc p) (y ∷ z ∷ zs) r q) e)

either_decoded : {P : Type 0} (r : Decoded) → ((d : Bytes) → r ≡ decoded d → P) → ((q : ℕ) → r ≡ wrong_hash q → P) → P
either_decoded (decoded d) f g = f d refl
either_decoded (wrong_hash q) f g = g q refl

-- a name without a wrong `#` is decoded to what it stands for
pub no_wrong : (p : ℕ) (xs : Bytes) (u : Unit) → Ok u ≡ checked (decode plain p xs) → decode plain p xs ≡ decoded (spelled xs)
no_wrong p xs u e =
    either_decoded (decode plain p xs)
    (λ d f. f ∙ ap decoded (sym (spelled_is p xs d f)))
    (λ q f. let g : Ok u ≡ Err (BadName q) = e ∙ ap checked f in let z : ◌≡◌ {A = ℕ} 0 1 = cc in absurd (omega arith))

-- and with one it is refused there
pub one_wrong : (p : ℕ) (xs : Bytes) (w : Flaw) → Err w ≡ checked (decode plain p xs) → (q : ℕ) × (decode plain p xs ≡ wrong_hash q) × (flaw_shown w ≡ bad_name q)
one_wrong p xs w e =
    either_decoded (decode plain p xs)
    (λ d f. let g : ◌≡◌ {A = Result Unit Flaw} (Err w) (Ok tt) = e ∙ ap checked f in let z : ◌≡◌ {A = ℕ} 0 1 = cc in absurd (omega arith))
    (λ q f. let g : ◌≡◌ {A = Result Unit Flaw} (Err w) (Err (BadName q)) = e ∙ ap checked f in let h : w ≡ BadName q = cc in (q, f, ap flaw_shown h))
