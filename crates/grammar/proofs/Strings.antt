-- Strings are what the reader takes for them.
use Rattle.std.proofs.Common.{◌≡◌, ℕ, zero, suc, ◌+◌, ◌<◌, true, false, ◌||◌, eqb, [], ◌∷◌, ◌++◌, length, Some, sym, refl, ap, ◌∙◌, append_assoc, arith, length-append, eqb-true}
use Rattle.format.specs.Bytes.{Bytes, is_white, is_digit}
use Rattle.format.specs.Names.{hex_digit}
use Rattle.format.specs.Strings.{Span, closed, unclosed, too_deep_at, broken_at, Bracketed, turns, onward, literal, string_by, is_hex, hex_string}
use Rattle.locality.proofs.Cases.{cases, cases_o}
use Rattle.locality.proofs.Tests.{clash}
use Rattle.grammar.specs.Spellings.{Balanced, HexBytes}
use Rattle.grammar.proofs.Lists.{differs}
use Rattle.grammar.proofs.Names.{hexed, read_hex}

closed_at : {p q : ℕ} {ys : Bytes} → p ≡ q → closed p ys ≡ closed q ys
closed_at {ys = ys} e = λ i. closed (e i) ys

-- one step of the reader
lit_close : (inner : Bracketed) (n p : ℕ) (ys : Bytes) → literal inner (suc n) p (41 ∷ ys) ≡ closed (suc p) ys
unfolding literal
lit_close inner n p ys = refl

lit_byte : (inner : Bracketed) (n p c : ℕ) (xs : Bytes) → eqb c 40 ≡ false → eqb c 41 ≡ false → eqb c 92 ≡ false → literal inner (suc n) p (c ∷ xs) ≡ literal inner n (suc p) xs
unfolding literal
lit_byte inner n p c xs x y z = rw (y, x, z, literal) refl

lit_escape : (inner : Bracketed) (n p c : ℕ) (xs : Bytes) → literal inner (suc n) p (92 ∷ c ∷ xs) ≡ literal inner n (suc (suc p)) xs
unfolding literal
lit_escape inner n p c xs = refl

lit_part : (inner : Bracketed) (n p : ℕ) (xs : Bytes) (q : ℕ) (ys : Bytes) → inner p xs ≡ closed q ys → literal inner (suc n) p (40 ∷ xs) ≡ literal inner n q ys
unfolding literal
lit_part inner n p xs q ys e = rw (e, literal) refl

pub by_deeper : (d p : ℕ) (xs : Bytes) → string_by (suc d) p xs ≡ literal (string_by d) turns (suc p) xs
unfolding string_by
by_deeper d p xs = refl

-- whatever the turns, if they are enough
abbrev Enough : ℕ → Bytes → Type 0
Enough d w = (n p : ℕ) (ys : Bytes) → length w < n → literal (string_by d) n p (w ++ (41 ∷ ys)) ≡ closed (p + suc (length w)) ys

enough_none : (d : ℕ) → Enough d []
enough_none d zero p ys h = absurd (omega arith)
enough_none d (suc n) p ys h = lit_close (string_by d) n p ys ∙ closed_at (omega arith)

enough_byte : (d c : ℕ) (w : Bytes) → eqb c 40 ≡ false → eqb c 41 ≡ false → eqb c 92 ≡ false → Enough d w → Enough d (c ∷ w)
enough_byte d c w x y z r zero p ys h = absurd (omega arith)
enough_byte d c w x y z r (suc n) p ys h = lit_byte (string_by d) n p c (w ++ (41 ∷ ys)) x y z ∙ r n (suc p) ys (omega arith) ∙ closed_at (omega arith)

enough_escape : (d c : ℕ) (w : Bytes) → Enough d w → Enough d (92 ∷ c ∷ w)
enough_escape d c w r zero p ys h = absurd (omega arith)
enough_escape d c w r (suc n) p ys h = lit_escape (string_by d) n p c (w ++ (41 ∷ ys)) ∙ r n (suc (suc p)) ys (omega arith) ∙ closed_at (omega arith)

enough_part : (d : ℕ) (v w : Bytes) → length v < turns → Enough d v → Enough (suc d) w → Enough (suc d) (40 ∷ (v ++ (41 ∷ w)))
enough_part d v w k a b zero p ys h = absurd (omega arith)
enough_part d v w k a b (suc n) p ys h =
    let e : length (v ++ (41 ∷ w)) ≡ length v + suc (length w) = length-append v (41 ∷ w) in
    ap (λ zs. literal (string_by (suc d)) (suc n) p (40 ∷ zs)) (append_assoc v (41 ∷ w) (41 ∷ ys))
    ∙ lit_part (string_by (suc d)) n p (v ++ (41 ∷ (w ++ (41 ∷ ys)))) (suc p + suc (length v)) (w ++ (41 ∷ ys))
    (by_deeper d p (v ++ (41 ∷ (w ++ (41 ∷ ys)))) ∙ a turns (suc p) (w ++ (41 ∷ ys)) k)
    ∙ b n (suc p + suc (length v)) ys (omega arith)
    ∙ closed_at (omega arith)

-- balanced bytes are read up to the bracket behind them
pub balanced_read : {d : ℕ} {w : Bytes} → Balanced d w → length w < turns → Enough d w
balanced_read (Balanced.none {d}) k = enough_none d
balanced_read (Balanced.byte {d} {c} {w} x y z b) k = enough_byte d c w x y z (balanced_read b (omega arith))
balanced_read (Balanced.escape {d} {c} {w} b) k = enough_escape d c w (balanced_read b (omega arith))
balanced_read (Balanced.part {d} {v} {w} a b) k =
    let e : length (v ++ (41 ∷ w)) ≡ length v + suc (length w) = length-append v (41 ∷ w) in
    let l : length v < turns = omega arith in
    enough_part d v w l (balanced_read a l) (balanced_read b (omega arith))

-- bytes up to the bracket that closes them
pub record Inside (d : ℕ) (xs rest : Bytes) : Type 0 where
  pub own : Bytes
  pub is : Balanced d own
  pub parts : xs ≡ own ++ (41 ∷ rest)

-- a bracketed part, from behind its bracket
abbrev Part : ℕ → Bytes → Bytes → Type 0
Part zero xs rest = ⊥
Part (suc d) xs rest = Inside d xs rest

never_closed : {q : ℕ} {rest : Bytes} {B : Type 0} → unclosed ≡ closed q rest → B
never_closed e = clash (cc)

never_deep : {p q : ℕ} {rest : Bytes} {B : Type 0} → too_deep_at p ≡ closed q rest → B
never_deep e = clash (cc)

never_broken : {p q : ℕ} {rest : Bytes} {B : Type 0} → broken_at p ≡ closed q rest → B
never_broken e = clash (cc)

onward_is : (s : Span) (k : ℕ → Bytes → Span) (q : ℕ) (rest : Bytes) → onward s k ≡ closed q rest → (p : ℕ) × (ys : Bytes) × (s ≡ closed p ys) × (k p ys ≡ closed q rest)
onward_is (closed p ys) k q rest e = (p, ys, refl, e)
onward_is unclosed k q rest e = never_closed e
onward_is (too_deep_at p) k q rest e = never_deep e
onward_is (broken_at p) k q rest e = never_broken e

inside_end : (d x : ℕ) (xs rest : Bytes) → eqb x 41 ≡ true → xs ≡ rest → Inside d (x ∷ xs) rest
inside_end d x xs rest a e = record { own = []; is = Balanced.none; parts = let q : x ≡ 41 = eqb-true x 41 a in λ i. q i ∷ e i }

inside_byte : (d x : ℕ) (xs rest : Bytes) → eqb x 40 ≡ false → eqb x 41 ≡ false → eqb x 92 ≡ false → Inside d xs rest → Inside d (x ∷ xs) rest
inside_byte d x xs rest a b c r = record { own = x ∷ r.own; is = Balanced.byte a b c r.is; parts = ap {B = Bytes} (λ ys. x ∷ ys) r.parts }

inside_escape : (d x y : ℕ) (xs rest : Bytes) → eqb x 92 ≡ true → Inside d xs rest → Inside d (x ∷ y ∷ xs) rest
inside_escape d x y xs rest a r = record {
  own = 92 ∷ y ∷ r.own;
  is = Balanced.escape r.is;
  parts = let q : x ≡ 92 = eqb-true x 92 a in let e = r.parts in λ i. q i ∷ y ∷ e i;
}

inside_part : (d x : ℕ) (xs ys rest : Bytes) → eqb x 40 ≡ true → Part d xs ys → Inside d ys rest → Inside d (x ∷ xs) rest
inside_part zero x xs ys rest a v r = absurd v
inside_part (suc d) x xs ys rest a v r = record {
  own = 40 ∷ (v.own ++ (41 ∷ r.own));
  is = Balanced.part v.is r.is;
  parts =
      let q : x ≡ 40 = eqb-true x 40 a in
      let e : xs ≡ (v.own ++ (41 ∷ r.own)) ++ (41 ∷ rest) = v.parts ∙ ap {B = Bytes} (λ zs. v.own ++ (41 ∷ zs)) r.parts ∙ sym (append_assoc v.own (41 ∷ r.own) (41 ∷ rest)) in
      λ i. q i ∷ e i;
}

read_inside : (d : ℕ) → ((p : ℕ) (xs : Bytes) (q : ℕ) (rest : Bytes) → string_by d p xs ≡ closed q rest → Part d xs rest) →
    (n p : ℕ) (xs : Bytes) (q : ℕ) (rest : Bytes) → literal (string_by d) n p xs ≡ closed q rest → Inside d xs rest
unfolding literal
read_inside d k zero p xs q rest e = never_closed e
read_inside d k (suc n) p [] q rest e = never_closed e
read_inside d k (suc n) p (x ∷ xs) q rest e =
    cases (eqb x 41)
    (λ a. let h : closed (suc p) xs ≡ closed q rest = rw (a, literal) at e in inside_end d x xs rest a (cc))
    (λ a.
    cases (eqb x 40)
    (λ b.
    let o = onward_is (string_by d p xs) (λ r zs. literal (string_by d) n r zs) q rest (rw (a, b, literal) at e) in
    inside_part d x xs o.1 rest b (k p xs o.0 o.1 o.2) (read_inside d k n o.0 o.1 q rest o.3))
    (λ b.
    cases (eqb x 92)
    (λ c. escaped xs (λ ys h. read_inside d k n (suc (suc p)) ys q rest h) c (rw (a, b, c, literal) at e))
    (λ c. inside_byte d x xs rest b a c (read_inside d k n (suc p) xs q rest (rw (a, b, c, literal) at e)))))
  where
    escaped : (ys : Bytes) → ((zs : Bytes) → literal (string_by d) n (suc (suc p)) zs ≡ closed q rest → Inside d zs rest) → eqb x 92 ≡ true →
        ◌≡◌ {A = Span} (elim ys [ [] ↦ unclosed | y ∷ zs ↦ literal (string_by d) n (suc (suc p)) zs ]) (closed q rest) → Inside d (x ∷ ys) rest
    escaped [] m c h = never_closed h
    escaped (y ∷ zs) m c h = inside_escape d x y zs rest c (m zs h)

-- what is read as a bracketed part is balanced
pub read_part : (d p : ℕ) (xs : Bytes) (q : ℕ) (rest : Bytes) → string_by d p xs ≡ closed q rest → Part d xs rest
unfolding string_by
read_part zero p xs q rest e = never_deep e
read_part (suc d) p xs q rest e = read_inside d (read_part d) turns (suc p) xs q rest e

is_hex_fact : (a v : ℕ) → hex_digit a ≡ Some v → is_hex a || is_white a ≡ true
unfolding is_hex
is_hex_fact a v e = rw (e, is_hex) refl

hex_unlike : (is_hex 62 ≡ false) × (is_hex 60 ≡ false)
unfolding is_hex hex_digit is_digit
hex_unlike = (refl, refl)

hex_is : (a v : ℕ) → hex_digit a ≡ Some v → is_hex a ≡ true
unfolding is_hex
hex_is a v e = rw (e, is_hex) refl

not_close : (a v : ℕ) → hex_digit a ≡ Some v → eqb a 62 ≡ false
not_close a v e = differs is_hex a 62 (hex_is a v e) hex_unlike.0

white_unlike : (is_white 62 ≡ false) × (is_white 60 ≡ false)
unfolding is_white
white_unlike = (refl, refl)

hex_byte_fact : (a : ℕ) (w : Bytes) (p : ℕ) (ys : Bytes) → is_hex a || is_white a ≡ true → eqb a 62 ≡ false → hex_string (suc p) (w ++ (62 ∷ ys)) ≡ closed (suc p + suc (length w)) ys →
    hex_string p (a ∷ (w ++ (62 ∷ ys))) ≡ closed (p + suc (suc (length w))) ys
unfolding hex_string
hex_byte_fact a w p ys x y e = rw (y, x, hex_string) (e ∙ closed_at (omega arith))

pub read_deeper : (d p : ℕ) (xs : Bytes) (q : ℕ) (rest : Bytes) → string_by (suc d) p xs ≡ closed q rest → Inside d xs rest
read_deeper d p xs q rest e = read_part (suc d) p xs q rest e

-- hexadecimal digits and white space are read up to the mark behind them
pub hex_read : {w : Bytes} → HexBytes w → (p : ℕ) (ys : Bytes) → hex_string p (w ++ (62 ∷ ys)) ≡ closed (p + suc (length w)) ys
unfolding hex_string
hex_read HexBytes.none p ys = closed_at (omega arith)
hex_read (HexBytes.digit {a} {v} {w} x h) p ys = hex_byte_fact a w p ys (is_hex_fact a v (hexed x).means) (not_close a v (hexed x).means) (hex_read h (suc p) ys)
hex_read (HexBytes.white {c} {w} x h) p ys =
    hex_byte_fact c w p ys (cases (is_hex c) (λ a. rw a refl) (λ a. rw a x)) (differs is_white c 62 x white_unlike.0) (hex_read h (suc p) ys)

-- the byte behind the mark of a hex string is not another such mark
pub hex_first : {w : Bytes} → HexBytes w → (zs : Bytes) → (y : ℕ) × (ys : Bytes) × (w ++ (62 ∷ zs) ≡ y ∷ ys) × (eqb y 60 ≡ false)
hex_first HexBytes.none zs = (62, zs, refl, refl)
hex_first (HexBytes.digit {a} {v} {w} x h) zs = (a, w ++ (62 ∷ zs), refl, differs is_hex a 60 (hex_is a v (hexed x).means) hex_unlike.1)
hex_first (HexBytes.white {c} {w} x h) zs = (c, w ++ (62 ∷ zs), refl, differs is_white c 60 x white_unlike.1)

-- bytes up to the mark that closes them
pub record InsideHex (xs rest : Bytes) : Type 0 where
  pub own : Bytes
  pub is : HexBytes own
  pub parts : xs ≡ own ++ (62 ∷ rest)

hex_or_white : (x : ℕ) (xs rest : Bytes) → is_hex x || is_white x ≡ true → InsideHex xs rest → InsideHex (x ∷ xs) rest
unfolding is_hex
hex_or_white x xs rest e r =
    cases_o (hex_digit x)
    (λ a. record { own = x ∷ r.own; is = HexBytes.white (rw (a, is_hex) at e) r.is; parts = ap {B = Bytes} (λ ys. x ∷ ys) r.parts })
    (λ v a. record { own = x ∷ r.own; is = HexBytes.digit (read_hex x v a) r.is; parts = ap {B = Bytes} (λ ys. x ∷ ys) r.parts })

-- what is read as a hex string is hexadecimal digits and white space
pub read_hexes : (p : ℕ) (xs : Bytes) (q : ℕ) (rest : Bytes) → hex_string p xs ≡ closed q rest → InsideHex xs rest
unfolding hex_string
read_hexes p [] q rest e = never_closed e
read_hexes p (x ∷ xs) q rest e =
    cases (eqb x 62)
    (λ a.
    let h : closed (suc p) xs ≡ closed q rest = rw (a, hex_string) at e in
    let r : xs ≡ rest = cc in
    let s : x ≡ 62 = eqb-true x 62 a in
    record { own = []; is = HexBytes.none; parts = λ i. s i ∷ r i })
    (λ a.
    cases (is_hex x || is_white x)
    (λ b. hex_or_white x xs rest b (read_hexes (suc p) xs q rest (rw (a, b, hex_string) at e)))
    (λ b. never_broken (rw (a, b, hex_string) at e)))
