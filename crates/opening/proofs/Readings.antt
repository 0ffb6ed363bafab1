-- What was read, and what was refused.
use Rattle.std.proofs.Common.{◌≡◌, ℕ, Ok, Err, IsErrAnd, Result, refl, ap, arith, MatchResult}
use Rattle.faults.specs.declared.fault.Fault.{Fault}
use Rattle.format.specs.Bytes.{Bytes, Got, ok, bad}
use Rattle.opening.specs.Readings.{seen_as, Reads}

-- what the exit of a `?` returns
pub exit_is : {T E : Type 0} (r : Result T E) (x : E) → IsErrAnd r (λ y. y ≡ x) → r ≡ Err x
exit_is (Ok a) x w = absurd w
exit_is (Err y) x w = ap Err w

-- such an exit, where what was to be read is refused
pub reads_bad : {A B T : Type 0} {view : A → B} {got : Got A} {value : T → B} {place : T → ℕ} {base : ℕ} {src : Bytes} {from : ℕ} {r : Result T Fault} (f : Fault) → IsErrAnd r (λ y. y ≡ f) → seen_as view got ≡ bad f → Reads view got value place base src from r
reads_bad {r = r} f exit is = rw (exit_is r f exit) (record { is = is; within = tt })

-- what holds of the fault holds of such an exit
pub err_case : {T E : Type 0} (P : T → Type 0) (Q : E → Type 0) (r : Result T E) (f : E) → IsErrAnd r (λ y. y ≡ f) → Q f → MatchResult r P Q
err_case P Q r f exit q = rw (exit_is r f exit) q

-- what was seen of an answer is the answer's
pub seen_ok : {A B : Type 0} (view : A → B) (g : Got A) {b : B} {q : ℕ} {ys : Bytes} → seen_as view g ≡ ok b q ys → (a : A) × (g ≡ ok a q ys) × (view a ≡ b)
seen_ok view (ok a p xs) {b} {q} {ys} e =
    let f : p ≡ q = cc in
    let g : xs ≡ ys = cc in
    (a, rw (f, g) refl, cc)
seen_ok view (bad f) e = absurd (let z : ◌≡◌ {A = ℕ} 0 1 = cc in omega arith)

pub seen_bad : {A B : Type 0} (view : A → B) (g : Got A) {f : Fault} → seen_as view g ≡ bad f → g ≡ bad f
seen_bad view (ok s p xs) e = absurd (let z : ◌≡◌ {A = ℕ} 0 1 = cc in omega arith)
seen_bad view (bad g) {f} e = let h : g ≡ f = cc in ap bad h
