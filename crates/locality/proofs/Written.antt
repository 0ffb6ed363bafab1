-- A written object reads back: its number, its generation and its body.
use Rattle.std.proofs.Common.{◌≡◌, ℕ, suc, ◌+◌, ◌≤◌, true, false, eqb, [], ◌∷◌, ◌++◌, length, pos, Some, None, codes, sym, refl, ap, ◌∙◌, subst, append_assoc, append-nil, arith, length-append}
use Rattle.format.specs.Bytes.{Bytes, Got, ok, bad, is_digit, is_white, is_regular, is_delimiter, same, span}
use Rattle.format.specs.Space.{skip}
use Rattle.format.specs.Numbers.{starts_number}
use Rattle.format.specs.Tokens.{int, word, Token, tok, start_at, token_at, run_kind, run_token}
use Rattle.format.specs.Objects.{Obj, plain_int, is_word, plain_word}
use Rattle.format.specs.Frames.{the_word, the_int, framed_body, frame_number, frame, body_at, body_ends, starts_loose, body_fault}
use Rattle.format.specs.Writing.{decimal, framed_bytes}
use Rattle.locality.specs.Locality.{stops}
use Rattle.locality.specs.LocalityFrames.{WrittenObjectsReadBack}
use Rattle.locality.proofs.Cases.{cases}
use Rattle.locality.proofs.Local.{up_to_taken}
use Rattle.locality.proofs.Decimals.{skip_decimal, int_start, int_token}
use Rattle.locality.proofs.Frames.{number_is, the_int_is, end_follows}
use Rattle.locality.proofs.Spaces.{Tight, tight_stays}
use Rattle.locality.proofs.Streams.{BodyHeld, body_local}
use Rattle.locality.proofs.Tests.{clash, or_none}

-- a body that may be put: one object or stream, from its first byte to its last
pub record Putable (b : Bytes) : Type 0 where
  pub value : Obj
  pub held : BodyHeld b value []
  pub stays : (p : ℕ) (ys : Bytes) → skip false p (b ++ ys) ≡ (p, b ++ ys)

body_ok : (b : Bytes) (g : Got Obj) → body_ends b g ≡ None → (o : Obj) × (q : ℕ) × (g ≡ ok o q [])
unfolding body_ends
body_ok b (bad f) e = clash (cc)
body_ok b (ok o q []) e = (o, q, refl)
body_ok b (ok o q (x ∷ xs)) e = clash (cc)

not_some : {A B : Type 0} {a : A} → Some a ≡ None → B
not_some e = clash (cc)

loose_first : (x : ℕ) (xs : Bytes) → starts_loose (x ∷ xs) ≡ false → Tight x
unfolding starts_loose
loose_first x xs e = of (or_none (is_white x) (eqb x 37) e)
  where
    of : (is_white x ≡ false) × (eqb x 37 ≡ false) → Tight x
    of t = record { black = t.0; plain = t.1 }

-- what `body_fault` lets pass may be put
pub putable : (b : Bytes) → body_fault b ≡ None → Putable b
unfolding body_fault
putable b e =
    cases (starts_loose b)
    (λ a. not_some (rw (a, body_fault) at e))
    (λ a. let u = body_ok b (body_at 0 b) (rw (a, body_fault) at e) in go a u.0 (body_local 0 b u.0 u.1 [] u.2))
  where
    go : starts_loose b ≡ false → (o : Obj) → BodyHeld b o [] → Putable b
    go a o h = record { value = o; held = h; stays = λ p ys. subst (λ zs. skip false p (zs ++ ys) ≡ (p, zs ++ ys)) (sym is) (tight_stays p h.first (h.others ++ ys) tight) }
      where
        is : b ≡ h.first ∷ h.others
        is = h.loc.parts ∙ append-nil h.loc.pre ∙ h.some

        tight : Tight h.first
        tight = loose_first h.first h.others (ap starts_loose (sym is) ∙ a)

abbrev End : Bytes → Bytes
End ys = 10 ∷ 101 ∷ 110 ∷ 100 ∷ 111 ∷ 98 ∷ 106 ∷ 10 ∷ ys

end_token : (p : ℕ) (ys : Bytes) → token_at p (End ys) ≡ tok (word (codes "endobj")) (suc p) (101 ∷ 110 ∷ 100 ∷ 111 ∷ 98 ∷ 106 ∷ 10 ∷ ys) (suc (suc (suc (suc (suc (suc (suc p))))))) (10 ∷ ys)
unfolding token_at skip start_at is_white is_regular is_delimiter span run_kind run_token starts_number is_digit
end_token p ys = refl

end_edge : (ys : Bytes) → stops is_regular (End ys) ≡ true
unfolding stops is_regular is_white is_delimiter
end_edge ys = refl

end_read : (p : ℕ) (ys : Bytes) → the_word (codes "endobj") (token_at p (End ys)) ≡ ok tt (suc (suc (suc (suc (suc (suc (suc p))))))) (10 ∷ ys)
unfolding the_word is_word plain_word same
end_read p ys = rw (end_token p ys) refl

obj_read : (p : ℕ) (ys : Bytes) → the_word (codes "obj") (token_at p (32 ∷ 111 ∷ 98 ∷ 106 ∷ 10 ∷ ys)) ≡ ok tt (suc (suc (suc (suc p)))) (10 ∷ ys)
unfolding the_word token_at skip start_at is_white is_regular is_delimiter span run_kind run_token starts_number is_digit is_word plain_word same
obj_read p ys = refl

body_read : (b : Bytes) (v : Putable b) (p : ℕ) (ys : Bytes) → body_at p (b ++ End ys) ≡ ok v.value (p + length b) (End ys)
body_read b v p ys =
    let h = v.held in
    let e : b ≡ h.loc.pre = h.loc.parts ∙ append-nil h.loc.pre in
    subst (λ c. body_at p (c ++ End ys) ≡ ok v.value (p + length c) (End ys)) (sym e)
    (h.loc.again p (End ys) (end_follows h.edged v.value (End ys) (λ _. end_edge ys) (λ q. ap (λ (u : Token). u.kind) (end_token q ys))))

space_regular : is_regular 32 ≡ false
unfolding is_regular is_white is_delimiter
space_regular = refl

int_is : (n : ℕ) → plain_int (int true (pos n)) ≡ Some n
unfolding plain_int
int_is n = refl

first_read : (p n : ℕ) (ys : Bytes) → n ≤ 2147483647 → frame_number p (decimal n ++ (32 ∷ ys)) ≡ ok n (p + length (decimal n)) (32 ∷ ys)
first_read p n ys h =
    number_is p (decimal n ++ (32 ∷ ys)) (skip_decimal p n (32 ∷ ys) (omega arith))
    ∙ rw (int_start p n 32 ys h space_regular) (the_int_is (tok (int true (pos n)) p (decimal n ++ (32 ∷ ys)) (p + length (decimal n)) (32 ∷ ys)) n (int_is n))

behind_space : (q : ℕ) (zs : Bytes) → token_at q (32 ∷ zs) ≡ token_at (suc q) zs
unfolding token_at skip is_white
behind_space q zs = refl

second_read : (p n : ℕ) (ys : Bytes) → n ≤ 2147483647 → the_int (token_at p (32 ∷ (decimal n ++ (32 ∷ ys)))) ≡ ok n (suc p + length (decimal n)) (32 ∷ ys)
second_read p n ys h =
    rw (behind_space p (decimal n ++ (32 ∷ ys)))
    (rw (int_token (suc p) n 32 ys h space_regular) (the_int_is (tok (int true (pos n)) (suc p) (decimal n ++ (32 ∷ ys)) (suc p + length (decimal n)) (32 ∷ ys)) n (int_is n)))

skip_lf : (p : ℕ) (xs : Bytes) → skip false p (10 ∷ xs) ≡ skip false (suc p) xs
unfolding skip is_white
skip_lf p xs = refl

-- a written object, read before any bytes
pub frame_read : WrittenObjectsReadBack
unfolding frame framed_bytes framed_body
frame_read n g p b ys hn hg f = go (putable b f)
  where
    q : ℕ
    q = suc (suc (suc (suc (suc (p + length (decimal n)) + length (decimal g)))))

    go : Putable b → frame p (framed_bytes n g b ++ ys) ≡ ok (record { number = n; gen = g; start = p + length (decimal n) + length (decimal g) + 6; body = b }) (p + length (decimal n) + length (decimal g) + length b + 13) (10 ∷ ys)
    go v =
        simp append_assoc
        (rw (first_read p n (decimal g ++ (32 ∷ 111 ∷ 98 ∷ 106 ∷ 10 ∷ (b ++ End ys))) hn)
        (rw (second_read (p + length (decimal n)) g (111 ∷ 98 ∷ 106 ∷ 10 ∷ (b ++ End ys)) hg)
        (rw (obj_read (suc (p + length (decimal n)) + length (decimal g)) (b ++ End ys))
        (rw (skip_lf q (b ++ End ys))
        (rw (v.stays (suc q) (End ys))
        (rw (body_read b v (suc q) ys)
        (rw (end_read (suc q + length b) ys)
        (rw (up_to_taken (suc q) (suc q + length b) b (End ys) refl)
        (let s : suc q ≡ p + length (decimal n) + length (decimal g) + 6 = omega arith in
        let t : suc (suc (suc (suc (suc (suc (suc (suc q + length b))))))) ≡ p + length (decimal n) + length (decimal g) + length b + 13 = omega arith in
        λ i. ok (record { number = n; gen = g; start = s i; body = b }) (t i) (10 ∷ ys))))))))))

-- how long a written object is
pub framed_length : (n g : ℕ) (b : Bytes) → length (framed_bytes n g b) ≡ length (decimal n) + length (decimal g) + length b + 14
unfolding framed_bytes
framed_length n g b = simp length-append (omega arith)
