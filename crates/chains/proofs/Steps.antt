-- Going by what an answer, an option or a reading is.
use Rattle.std.proofs.Common.{◌≡◌, ℕ, true, false, Ok, Err, refl, arith}
use Rattle.faults.specs.declared.fault.Fault.{Fault}
use Rattle.format.specs.Bytes.{Bytes, Got, ok, bad}
use Rattle.format.specs.Chain.{Answer, also}

-- by the two forms of an answer
pub by_answer : {A P : Type 0} (a : Answer A) → ((x : A) → a ≡ Ok x → P) → ((f : Fault) → a ≡ Err f → P) → P
by_answer (Ok x) f g = f x refl
by_answer (Err e) f g = g e refl

-- by the two forms of a reading
pub by_reading : {A P : Type 0} (g : Got A) → ((a : A) (p : ℕ) (xs : Bytes) → g ≡ ok a p xs → P) → ((f : Fault) → g ≡ bad f → P) → P
by_reading (ok a p xs) f g = f a p xs refl
by_reading (bad e) f g = g e refl

-- a refusal is no answer
pub never_answer : {A P : Type 0} {x : A} {f : Fault} → ◌≡◌ {A = Answer A} (Err f) (Ok x) → P
never_answer e = let z : ◌≡◌ {A = ℕ} 0 1 = cc in absurd (omega arith)

-- a fault is no reading
pub never_reading : {A P : Type 0} {x : A} {p : ℕ} {xs : Bytes} {f : Fault} → ◌≡◌ {A = Got A} (bad f) (ok x p xs) → P
never_reading e = let z : ◌≡◌ {A = ℕ} 0 1 = cc in absurd (omega arith)

pub never_true : {P : Type 0} → false ≡ true → P
never_true e = let z : ◌≡◌ {A = ℕ} 0 1 = cc in absurd (omega arith)

-- the value of an answer
pub answered : {A : Type 0} {x y : A} → ◌≡◌ {A = Answer A} (Ok x) (Ok y) → x ≡ y
answered e = cc

-- what follows an answer is the same if it is the same for its value
pub also_same : {A B : Type 0} (a : Answer A) (k k' : A → Answer B) → ((x : A) → a ≡ Ok x → k x ≡ k' x) → also a k ≡ also a k'
also_same (Ok x) k k' h = h x refl
also_same (Err f) k k' h = refl
