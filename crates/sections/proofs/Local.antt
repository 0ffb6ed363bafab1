-- Readers one after another: what they took decides what they answer.
use Rattle.std.proofs.Common.{◌≡◌, ℕ, suc, [], ◌∷◌, ◌++◌, sym, refl, ap, ◌∙◌, append_assoc, arith, length-append}
use Rattle.faults.specs.declared.fault.Fault.{Fault}
use Rattle.format.specs.Bytes.{Bytes, Got, ok, bad, then}
use Rattle.format.specs.Lines.{Piece, took, short, misfit, next, placed}
use Rattle.sections.specs.Reading.{Local}

-- one reader's answer, handed on to what comes next
pub onward : {R S : Type 0} (f : R → S) (r mid : Bytes → R) (out : Bytes → S) (P Q : Bytes → Type 0) {p p₁ q : ℕ} {xs xs₁ rest : Bytes} →
    Local r mid P p p₁ xs xs₁ → Local (λ ys. f (mid ys)) out Q p₁ q xs₁ rest → ((zs ws : Bytes) → f (mid zs) ≡ out ws → Q ws → P zs) →
    Local (λ ys. f (r ys)) out Q p q xs rest
onward f r mid out P Q {p} {p₁} {q} {rest = rest} l m follow = record {
  pre = l.pre ++ m.pre;
  parts = l.parts ∙ (ap (λ zs. l.pre ++ zs) m.parts ∙ sym (append_assoc l.pre m.pre rest));
  to = let a = l.to in let b = m.to in rw length-append (omega arith);
  again = λ ys h.
      ap (λ zs. f (r zs)) (append_assoc l.pre m.pre ys)
      ∙ (ap f (l.again (m.pre ++ ys) (follow (m.pre ++ ys) ys (m.again ys h) h)) ∙ m.again ys h);
}

-- one byte more in front
pub cons : {R : Type 0} {r s out : Bytes → R} {Q : Bytes → Type 0} {p q : ℕ} {xs rest : Bytes} (x : ℕ) →
    ((ys : Bytes) → r (x ∷ ys) ≡ s ys) → Local s out Q (suc p) q xs rest → Local r out Q p q (x ∷ xs) rest
cons x f l = record {
  pre = x ∷ l.pre;
  parts = ap {B = Bytes} (λ ys. x ∷ ys) l.parts;
  to = let a = l.to in omega arith;
  again = λ ys h. f (l.pre ++ ys) ∙ l.again ys h;
}

-- a reader that answers as another one wherever that one takes something
pub reread : {R : Type 0} {r s out : Bytes → R} {Q : Bytes → Type 0} {p q : ℕ} {xs rest : Bytes} →
    Local s out Q p q xs rest → ((zs ws : Bytes) → s zs ≡ out ws → Q ws → r zs ≡ s zs) → Local r out Q p q xs rest
reread l f = record {
  pre = l.pre;
  parts = l.parts;
  to = l.to;
  again = λ ys h. f (l.pre ++ ys) ys (l.again ys h) h ∙ l.again ys h;
}

-- a part that takes nothing
pub took_done : {A : Type 0} {a b : A} {p q : ℕ} {xs rest : Bytes} (Q : Bytes → Type 0) →
    ◌≡◌ {A = Piece A} (took a p xs) (took b q rest) → Local (took a p) (took b q) Q p q xs rest
took_done {a = a} {b} {p} {q} Q e =
    let u : a ≡ b = cc in
    let v : p ≡ q = cc in
    record { pre = []; parts = cc; to = omega arith; again = λ ys h i. took (u i) (v i) ys }

-- a reader that takes nothing
pub ok_done : {A : Type 0} {a b : A} {p q : ℕ} {xs rest : Bytes} (Q : Bytes → Type 0) →
    ◌≡◌ {A = Got A} (ok a p xs) (ok b q rest) → Local (ok a p) (ok b q) Q p q xs rest
ok_done {a = a} {b} {p} {q} Q e =
    let u : a ≡ b = cc in
    let v : p ≡ q = cc in
    record { pre = []; parts = cc; to = omega arith; again = λ ys h i. ok (u i) (v i) ys }

-- nothing is taken where the bytes end
pub not_short : {A : Type 0} {P : Type 0} {a : A} {p : ℕ} {xs : Bytes} → ◌≡◌ {A = Piece A} short (took a p xs) → P
not_short e = let z : ◌≡◌ {A = ℕ} 0 1 = cc in absurd (omega arith)

-- nothing is taken where the bytes do not fit
pub not_misfit : {A : Type 0} {P : Type 0} {a : A} {p : ℕ} {xs : Bytes} → ◌≡◌ {A = Piece A} misfit (took a p xs) → P
not_misfit e = let z : ◌≡◌ {A = ℕ} 0 1 = cc in absurd (omega arith)

-- nothing is read where there is a fault
pub not_bad : {A : Type 0} {P : Type 0} {f : Fault} {a : A} {p : ℕ} {xs : Bytes} → ◌≡◌ {A = Got A} (bad f) (ok a p xs) → P
not_bad e = let z : ◌≡◌ {A = ℕ} 0 1 = cc in absurd (omega arith)

-- where one part after another was taken, each was
pub next_took : {A B P : Type 0} (z : Piece A) (k : A → ℕ → Bytes → Piece B) {b : B} {q : ℕ} {rest : Bytes} → next z k ≡ took b q rest →
    ((a : A) (p : ℕ) (ys : Bytes) → z ≡ took a p ys → k a p ys ≡ took b q rest → P) → P
next_took (took a p ys) k e f = f a p ys refl e
next_took short k e f = not_short e
next_took misfit k e f = not_misfit e

-- where one reader after another read something, each did
pub then_ok : {A B P : Type 0} (z : Got A) (k : A → ℕ → Bytes → Got B) {b : B} {q : ℕ} {rest : Bytes} → then z k ≡ ok b q rest →
    ((a : A) (p : ℕ) (ys : Bytes) → z ≡ ok a p ys → k a p ys ≡ ok b q rest → P) → P
then_ok (ok a p ys) k e f = f a p ys refl e
then_ok (bad g) k e f = not_bad e

-- what a line's reader read is what its parts took
pub placed_ok : {A : Type 0} (p : ℕ) (xs : Bytes) (z : Piece A) {a : A} {q : ℕ} {rest : Bytes} → placed p xs z ≡ ok a q rest → z ≡ took a q rest
unfolding placed
placed_ok p xs (took b r ys) {a} {q} {rest} e =
    let u : b ≡ a = cc in
    let v : r ≡ q = cc in
    let w : ys ≡ rest = cc in
    λ i. took (u i) (v i) (w i)
placed_ok p xs short e = not_bad e
placed_ok p xs misfit e = not_bad e

-- parts of a line one after another
pub next_local : {A B : Type 0} (r : Bytes → Piece A) (k : A → ℕ → Bytes → Piece B) (P : Bytes → Type 0) {Q : Bytes → Type 0} {p : ℕ} {xs : Bytes} {b : B} {q : ℕ} {rest : Bytes} →
    next (r xs) k ≡ took b q rest →
    ((a : A) (p₁ : ℕ) (xs₁ : Bytes) → r xs ≡ took a p₁ xs₁ → Local r (took a p₁) P p p₁ xs xs₁) →
    ((a : A) (p₁ : ℕ) (xs₁ : Bytes) → k a p₁ xs₁ ≡ took b q rest → Local (k a p₁) (took b q) Q p₁ q xs₁ rest) →
    ((a : A) (p₁ : ℕ) (zs ws : Bytes) → k a p₁ zs ≡ took b q ws → Q ws → P zs) → Local (λ ys. next (r ys) k) (took b q) Q p q xs rest
next_local r k P {Q} {xs = xs} {b} {q} e l m follow =
    next_took (r xs) k e
    (λ a p₁ xs₁ e₁ e₂. onward (λ z. next z k) r (took a p₁) (took b q) P Q (l a p₁ xs₁ e₁) (m a p₁ xs₁ e₂) (follow a p₁))

-- readers one after another
pub then_local : {A B : Type 0} (r : Bytes → Got A) (k : A → ℕ → Bytes → Got B) (P : Bytes → Type 0) {Q : Bytes → Type 0} {p : ℕ} {xs : Bytes} {b : B} {q : ℕ} {rest : Bytes} →
    then (r xs) k ≡ ok b q rest →
    ((a : A) (p₁ : ℕ) (xs₁ : Bytes) → r xs ≡ ok a p₁ xs₁ → Local r (ok a p₁) P p p₁ xs xs₁) →
    ((a : A) (p₁ : ℕ) (xs₁ : Bytes) → k a p₁ xs₁ ≡ ok b q rest → Local (k a p₁) (ok b q) Q p₁ q xs₁ rest) →
    ((a : A) (p₁ : ℕ) (zs ws : Bytes) → k a p₁ zs ≡ ok b q ws → Q ws → P zs) → Local (λ ys. then (r ys) k) (ok b q) Q p q xs rest
then_local r k P {Q} {xs = xs} {b} {q} e l m follow =
    then_ok (r xs) k e
    (λ a p₁ xs₁ e₁ e₂. onward (λ z. then z k) r (ok a p₁) (ok b q) P Q (l a p₁ xs₁ e₁) (m a p₁ xs₁ e₂) (follow a p₁))

-- a part that is a line or an entry of its own
pub placed_local : {A : Type 0} (r : Bytes → Piece A) {Q : Bytes → Type 0} {p : ℕ} {xs : Bytes} {a : A} {q : ℕ} {rest : Bytes} →
    Local r (took a q) Q p q xs rest → Local (λ ys. placed p ys (r ys)) (ok a q) Q p q xs rest
unfolding placed
placed_local r {p = p} l = record {
  pre = l.pre;
  parts = l.parts;
  to = l.to;
  again = λ ys h. ap (λ z. placed p (l.pre ++ ys) z) (l.again ys h);
}
