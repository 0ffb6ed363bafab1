-- Names are what the reader takes for them.
use Rattle.std.proofs.Common.{◌≡◌, ℕ, zero, suc, ◌+◌, ◌-◌, ◌*◌, ◌≤◌, true, false, ◌&&◌, eqb, leb, [], ◌∷◌, Some, None, sym, refl, ap, ◌∙◌, subst, arith, ne_eqb, eqb-true, leb-true}
use borrow.Author.Tests.{eqb-false}
use Rattle.format.specs.Bytes.{Bytes, is_digit, is_white, is_delimiter, is_regular, every}
use Rattle.format.specs.Names.{hex_digit, Decoded, decoded, wrong_hash, joined, Escape, plain, hash, half, decode}
use Rattle.locality.proofs.Cases.{cases, cases_o}
use Rattle.locality.proofs.Tests.{clash, and_left, and_right}
use Rattle.grammar.specs.Spellings.{HexDigit, Name}
use Rattle.grammar.proofs.Lists.{every_cons, every_first, every_others, every_none}

-- what a hexadecimal digit is read as
pub record Hexed (a v : ℕ) : Type 0 where
  pub means : hex_digit a ≡ Some v
  pub regular : is_regular a ≡ true

hexed_digit : (v : ℕ) → v ≤ 9 → Hexed (48 + v) v
unfolding hex_digit is_digit is_regular is_white is_delimiter
hexed_digit zero h = record { means = refl; regular = refl }
hexed_digit (suc zero) h = record { means = refl; regular = refl }
hexed_digit (suc (suc zero)) h = record { means = refl; regular = refl }
hexed_digit (suc (suc (suc zero))) h = record { means = refl; regular = refl }
hexed_digit (suc (suc (suc (suc zero)))) h = record { means = refl; regular = refl }
hexed_digit (suc (suc (suc (suc (suc zero))))) h = record { means = refl; regular = refl }
hexed_digit (suc (suc (suc (suc (suc (suc zero)))))) h = record { means = refl; regular = refl }
hexed_digit (suc (suc (suc (suc (suc (suc (suc zero))))))) h = record { means = refl; regular = refl }
hexed_digit (suc (suc (suc (suc (suc (suc (suc (suc zero)))))))) h = record { means = refl; regular = refl }
hexed_digit (suc (suc (suc (suc (suc (suc (suc (suc (suc zero))))))))) h = record { means = refl; regular = refl }
hexed_digit (suc (suc (suc (suc (suc (suc (suc (suc (suc (suc v)))))))))) h = absurd (omega arith)

hexed_upper : (v : ℕ) → v ≤ 5 → Hexed (65 + v) (10 + v)
unfolding hex_digit is_digit is_regular is_white is_delimiter
hexed_upper zero h = record { means = refl; regular = refl }
hexed_upper (suc zero) h = record { means = refl; regular = refl }
hexed_upper (suc (suc zero)) h = record { means = refl; regular = refl }
hexed_upper (suc (suc (suc zero))) h = record { means = refl; regular = refl }
hexed_upper (suc (suc (suc (suc zero)))) h = record { means = refl; regular = refl }
hexed_upper (suc (suc (suc (suc (suc zero))))) h = record { means = refl; regular = refl }
hexed_upper (suc (suc (suc (suc (suc (suc v)))))) h = absurd (omega arith)

hexed_lower : (v : ℕ) → v ≤ 5 → Hexed (97 + v) (10 + v)
unfolding hex_digit is_digit is_regular is_white is_delimiter
hexed_lower zero h = record { means = refl; regular = refl }
hexed_lower (suc zero) h = record { means = refl; regular = refl }
hexed_lower (suc (suc zero)) h = record { means = refl; regular = refl }
hexed_lower (suc (suc (suc zero))) h = record { means = refl; regular = refl }
hexed_lower (suc (suc (suc (suc zero)))) h = record { means = refl; regular = refl }
hexed_lower (suc (suc (suc (suc (suc zero))))) h = record { means = refl; regular = refl }
hexed_lower (suc (suc (suc (suc (suc (suc v)))))) h = absurd (omega arith)

pub hexed : {a v : ℕ} → HexDigit a v → Hexed a v
hexed (HexDigit.digit {v} h) = hexed_digit v h
hexed (HexDigit.upper {v} h) = hexed_upper v h
hexed (HexDigit.lower {v} h) = hexed_lower v h

hex_at : {a b v w : ℕ} → a ≡ b → v ≡ w → HexDigit a v → HexDigit b w
hex_at {a} {b} {v} {w} e f h = subst (λ y. HexDigit b y) f (subst (λ x. HexDigit x v) e h)

-- what is read as a hexadecimal digit is one
pub read_hex : (c v : ℕ) → hex_digit c ≡ Some v → HexDigit c v
unfolding hex_digit is_digit
read_hex c v e =
    cases (leb 48 c && leb c 57)
    (λ a.
    let l : 48 ≤ c = leb-true 48 c (and_left (leb 48 c) (leb c 57) a) in
    let h : c ≤ 57 = leb-true c 57 (and_right (leb 48 c) (leb c 57) a) in
    let k : Some (c - 48) ≡ Some v = rw (a, hex_digit) at e in
    let q : c - 48 ≡ v = cc in
    hex_at (omega arith) q (HexDigit.digit {v = c - 48} (omega arith)))
    (λ a.
    cases (leb 65 c && leb c 70)
    (λ b.
    let l : 65 ≤ c = leb-true 65 c (and_left (leb 65 c) (leb c 70) b) in
    let h : c ≤ 70 = leb-true c 70 (and_right (leb 65 c) (leb c 70) b) in
    let k : Some (c - 55) ≡ Some v = rw (a, b, hex_digit) at e in
    let q : c - 55 ≡ v = cc in
    hex_at (omega arith) (omega arith) (HexDigit.upper {v = c - 65} (omega arith)))
    (λ b.
    cases (leb 97 c && leb c 102)
    (λ d.
    let l : 97 ≤ c = leb-true 97 c (and_left (leb 97 c) (leb c 102) d) in
    let h : c ≤ 102 = leb-true c 102 (and_right (leb 97 c) (leb c 102) d) in
    let k : Some (c - 87) ≡ Some v = rw (a, b, d, hex_digit) at e in
    let q : c - 87 ≡ v = cc in
    hex_at (omega arith) (omega arith) (HexDigit.lower {v = c - 97} (omega arith)))
    (λ d. clash (let k : None ≡ Some v = rw (a, b, d, hex_digit) at e in cc))))

-- a name's bytes are regular
pub name_regular : {w d : Bytes} → Name w d → every is_regular w ≡ true
unfolding is_regular is_white is_delimiter
name_regular Name.none = every_none is_regular
name_regular (Name.byte {c} {w} a b n) = every_cons is_regular c w a (name_regular n)
name_regular (Name.code {a} {b} {w = w} x y h n) = every_cons is_regular 35 (a ∷ b ∷ w) refl (every_cons is_regular a (b ∷ w) (hexed x).regular (every_cons is_regular b w (hexed y).regular (name_regular n)))

-- a name is read as what it stands for
pub name_read : {w d : Bytes} → Name w d → (p : ℕ) → decode plain p w ≡ decoded d
unfolding decode joined
name_read Name.none p = refl
name_read (Name.byte {c} {w} a b n) p = rw (b, decode) (rw (name_read n (suc p)) refl)
name_read (Name.code {a} {b} {h} {l} {w} {d} x y k n) p =
    let z : eqb (h * 16 + l) 0 ≡ false = ne_eqb (h * 16 + l) 0 (λ e. absurd (omega arith)) in
    rw ((hexed x).means, decode) (rw ((hexed y).means, decode) (rw (z, decode) (rw (name_read n (suc (suc (suc p)))) refl)))

-- what stands behind a `#`, and behind that and a digit
record Code (h : ℕ) (w d : Bytes) : Type 0 where
  b : ℕ
  l : ℕ
  w' : Bytes
  d' : Bytes
  is : HexDigit b l
  some : 1 ≤ h * 16 + l
  more : Name w' d'
  bytes : w ≡ b ∷ w'
  stands : d ≡ (h * 16 + l) ∷ d'

record Coded (w d : Bytes) : Type 0 where
  a : ℕ
  h : ℕ
  v : Bytes
  is : HexDigit a h
  more : Code h v d
  bytes : w ≡ a ∷ v

abbrev From : Escape → Bytes → Bytes → Type 0
From plain w d = Name w d
From (hash s) w d = Coded w d
From (half s h) w d = Code h w d

wrong : {q : ℕ} {d : Bytes} {B : Type 0} → wrong_hash q ≡ decoded d → B
wrong e = clash (cc)

-- one byte in front
joined_is : (c : ℕ) (z : Decoded) (d : Bytes) → joined c z ≡ decoded d → (b : Bytes) × (z ≡ decoded b) × (c ∷ b ≡ d)
unfolding joined
joined_is c (wrong_hash q) d e = wrong e
joined_is c (decoded b) d e = (b, refl, cc)

coded_name : (x : ℕ) (w d : Bytes) → eqb x 35 ≡ true → Coded w d → Name (x ∷ w) d
coded_name x w d e c =
    let m = c.more in
    let q : 35 ≡ x = sym (eqb-true x 35 e) in
    let r : c.a ∷ m.b ∷ m.w' ≡ w = ap {B = Bytes} (λ ys. c.a ∷ ys) (sym m.bytes) ∙ sym c.bytes in
    subst (λ z. Name z d) (λ i. q i ∷ r i) (subst (λ z. Name (35 ∷ c.a ∷ m.b ∷ m.w') z) (sym m.stands) (Name.code c.is m.is m.some m.more))

read_from : (e : Escape) (p : ℕ) (w d : Bytes) → every is_regular w ≡ true → decode e p w ≡ decoded d → From e w d
unfolding decode
read_from plain p [] d r h = let q : [] ≡ d = cc in subst (λ z. Name [] z) q Name.none
read_from (hash s) p [] d r h = wrong h
read_from (half s v) p [] d r h = wrong h
read_from plain p (x ∷ w) d r h =
    cases (eqb x 35)
    (λ a. coded_name x w d a (read_from (hash p) (suc p) w d (every_others is_regular x w r) (rw (a, decode) at h)))
    (λ a.
    let j = joined_is x (decode plain (suc p) w) d (rw (a, decode) at h) in
    subst (λ z. Name (x ∷ w) z) j.2 (Name.byte (every_first is_regular x w r) a (read_from plain (suc p) w j.0 (every_others is_regular x w r) j.1)))
read_from (hash s) p (x ∷ w) d r h =
    cases_o (hex_digit x)
    (λ a. wrong (rw (a, decode) at h))
    (λ v a. record { a = x; h = v; v = w; is = read_hex x v a; more = read_from (half s v) (suc p) w d (every_others is_regular x w r) (rw (a, decode) at h); bytes = refl })
read_from (half s v) p (x ∷ w) d r h =
    cases_o (hex_digit x)
    (λ a. wrong (rw (a, decode) at h))
    (λ l a.
    cases (eqb (v * 16 + l) 0)
    (λ b. wrong (rw (a, b, decode) at h))
    (λ b.
    let j = joined_is (v * 16 + l) (decode plain (suc p) w) d (rw (a, b, decode) at h) in
    record {
      b = x;
      l = l;
      w' = w;
      d' = j.0;
      is = read_hex x l a;
      some = let n = eqb-false (v * 16 + l) 0 b in omega arith;
      more = read_from plain (suc p) w j.0 (every_others is_regular x w r) j.1;
      bytes = refl;
      stands = sym j.2;
    }))

-- what is read as a name is one
pub read_name : (p : ℕ) (w d : Bytes) → every is_regular w ≡ true → decode plain p w ≡ decoded d → Name w d
read_name p w d r h = read_from plain p w d r h
