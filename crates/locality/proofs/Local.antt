-- What a reader took decides what it answers: the bytes behind do not matter.
use Rattle.std.proofs.Common.{◌≡◌, ℕ, suc, ◌+◌, ◌-◌, [], ◌∷◌, ◌++◌, length, sym, refl, ap, ◌∙◌, append_assoc, arith, length-append}
use lib.Seq.{take-append_seam}
use Rattle.faults.specs.declared.fault.Fault.{Fault}
use Rattle.format.specs.Bytes.{Bytes, Got, ok, bad, then, up_to}

-- The reader r, which took xs down to rest and answered a, does so before any bytes for which Q holds, from any place.
pub record Local {A : Type 0} (r : ℕ → Bytes → Got A) (Q : Bytes → Type 0) (xs : Bytes) (a : A) (rest : Bytes) : Type 0 where
  pub pre : Bytes
  pub parts : xs ≡ pre ++ rest
  pub again : (p : ℕ) (ys : Bytes) → Q ys → r p (pre ++ ys) ≡ ok a (p + length pre) ys

-- no condition on what follows
abbrev pub Any : Bytes → Type 0
Any ys = Unit {0}

-- a fault is no answer
pub never : {A : Type 0} {f : Fault} {a : A} {p : ℕ} {xs : Bytes} {B : Type 0} → ◌≡◌ {A = Got A} (bad f) (ok a p xs) → B
never e = let z : ◌≡◌ {A = ℕ} 0 1 = cc in absurd (omega arith)

-- equal answers leave the same bytes
pub same_rest : {A : Type 0} {a b : A} {p q : ℕ} {xs ys : Bytes} → ◌≡◌ {A = Got A} (ok a p xs) (ok b q ys) → xs ≡ ys
same_rest e = cc

-- equal answers have the same value
pub same_value : {A : Type 0} {a b : A} {p q : ℕ} {xs ys : Bytes} → ◌≡◌ {A = Got A} (ok a p xs) (ok b q ys) → a ≡ b
same_value e = cc

-- equal answers end at the same place
pub same_place : {A : Type 0} {a b : A} {p q : ℕ} {xs ys : Bytes} → ◌≡◌ {A = Got A} (ok a p xs) (ok b q ys) → p ≡ q
same_place e = cc

-- an answer at an equal place
pub ok_at : {A : Type 0} {a : A} {p q : ℕ} {xs : Bytes} → p ≡ q → ◌≡◌ {A = Got A} (ok a p xs) (ok a q xs)
ok_at {a = a} {xs = xs} e = λ i. ok a (e i) xs

-- one byte more in front
pub cons : {A : Type 0} {r s : ℕ → Bytes → Got A} {Q : Bytes → Type 0} {xs : Bytes} {a : A} {rest : Bytes} (x : ℕ) →
    ((p : ℕ) (ys : Bytes) → r p (x ∷ ys) ≡ s (suc p) ys) → Local s Q xs a rest → Local r Q (x ∷ xs) a rest
cons {A} {a = a} x f l = record {
  pre = x ∷ l.pre;
  parts = ap {B = Bytes} (λ ys. x ∷ ys) l.parts;
  again = λ p ys h. f p (l.pre ++ ys) ∙ l.again (suc p) ys h ∙ (let e : suc p + length l.pre ≡ p + suc (length l.pre) = omega arith in λ i. ok a (e i) ys);
}

-- just one byte
pub last : {A : Type 0} {r : ℕ → Bytes → Got A} {xs : Bytes} {a : A} {rest : Bytes} (x : ℕ) →
    ((p : ℕ) (ys : Bytes) → r p (x ∷ ys) ≡ ok a (suc p) ys) → xs ≡ rest → Local r Any (x ∷ xs) a rest
last {a = a} x f e = record {
  pre = x ∷ [];
  parts = ap {B = Bytes} (λ ys. x ∷ ys) e;
  again = λ p ys h. f p ys ∙ (let q : suc p ≡ p + 1 = omega arith in λ i. ok a (q i) ys);
}

-- no byte
pub none_taken : {A : Type 0} {r : ℕ → Bytes → Got A} {xs : Bytes} {a : A} {rest : Bytes} → ((p : ℕ) (ys : Bytes) → r p ys ≡ ok a p ys) → xs ≡ rest → Local r Any xs a rest
none_taken {a = a} f e = record { pre = []; parts = e; again = λ p ys _. f p ys ∙ (let q : p ≡ p + 0 = omega arith in λ i. ok a (q i) ys) }

-- an answer of two readers, one after another, is an answer of each
pub then_ok : {A B : Type 0} (r : Got A) (k : A → ℕ → Bytes → Got B) (b : B) (q : ℕ) (rest : Bytes) → then r k ≡ ok b q rest →
    (a : A) × (p : ℕ) × (ys : Bytes) × (r ≡ ok a p ys) × (k a p ys ≡ ok b q rest)
then_ok (ok a p ys) k b q rest e = (a, p, ys, refl, e)
then_ok (bad f) k b q rest e = never e

-- one reader after another
pub then_local : {A B : Type 0} (r : ℕ → Bytes → Got A) (k : A → ℕ → Bytes → Got B) (P Q : Bytes → Type 0) (xs : Bytes) (a : A) (ys : Bytes) (b : B) (rest : Bytes) →
    (l : Local r P xs a ys) (m : Local (k a) Q ys b rest) → ((zs : Bytes) → Q zs → P (m.pre ++ zs)) → Local (λ p zs. then (r p zs) k) Q xs b rest
then_local r k P Q xs a ys b rest l m f = record {
  pre = l.pre ++ m.pre;
  parts = l.parts ∙ ap (λ zs. l.pre ++ zs) m.parts ∙ sym (append_assoc l.pre m.pre rest);
  again = λ p zs q. rw append_assoc (rw (l.again p (m.pre ++ zs) (f zs q)) (m.again (p + length l.pre) zs q
      ∙ (let v : p + length l.pre + length m.pre ≡ p + length (l.pre ++ m.pre) = rw length-append (omega arith) in λ i. ok b (v i) zs)));
}

-- the bytes before a place are those taken up to it
pub up_to_taken : (p q : ℕ) (ws ys : Bytes) → q ≡ p + length ws → up_to p (ws ++ ys) q ≡ ws
unfolding up_to
up_to_taken p q ws ys e = let n : q - p ≡ length ws = omega arith in rw n (take-append_seam ws ys)
