-- Ways to go by the value of a term, with the equation at hand.
use Rattle.std.proofs.Common.{◌≡◌, ℕ, Bool, true, false, MatchResult, Some, None, Ok, Err, Option, Result, refl, ap, arith}
use Rattle.std.specs.Option.{ok_or}
use Rattle.std.specs.Result.{result_ok, IsErrAnd}
use Rattle.faults.specs.declared.fault.Fault.{Fault}
use Rattle.format.specs.Bytes.{Bytes, Got, ok, bad, then}
use Rattle.objects.specs.Shifts.{later_fault}

-- by a test
pub cases : {P : Type 0} (b : Bool) → (b ≡ true → P) → (b ≡ false → P) → P
cases true f g = f refl
cases false f g = g refl

-- a fault is no answer
pub never : {A : Type 0} {f : Fault} {a : A} {p : ℕ} {xs : Bytes} {B : Type 0} → ◌≡◌ {A = Got A} (bad f) (ok a p xs) → B
never e = let z : ◌≡◌ {A = ℕ} 0 1 = cc in absurd (omega arith)

-- two readers, one after another, that answer: what each answered
pub then_ok : {A B : Type 0} (r : Got A) (k : A → ℕ → Bytes → Got B) (b : B) (q : ℕ) (rest : Bytes) → then r k ≡ ok b q rest →
    (a : A) × (p : ℕ) × (ys : Bytes) × (r ≡ ok a p ys) × (k a p ys ≡ ok b q rest)
then_ok (ok a p ys) k b q rest e = (a, p, ys, refl, e)
then_ok (bad f) k b q rest e = never e

-- by an option
pub cases_o : {A P : Type 0} (o : Option A) → (o ≡ None → P) → ((a : A) → o ≡ Some a → P) → P
cases_o None f g = f refl
cases_o (Some a) f g = g a refl

-- what an answer without its refusal was
pub ok_some : {T E : Type 0} (r : Result T E) (x : T) → Some x ≡ result_ok r → r ≡ Ok x
ok_some (Ok y) x h = let z : x ≡ y = cc in rw z refl
ok_some (Err e) x h = absurd (let z : ◌≡◌ {A = ℕ} 0 1 = cc in omega arith)

pub ok_none : {T E : Type 0} (r : Result T E) → None ≡ result_ok r → (e : E) × (r ≡ Err e)
ok_none (Ok y) h = absurd (let z : ◌≡◌ {A = ℕ} 0 1 = cc in omega arith)
ok_none (Err e) h = (e, refl)

-- an option, or a refusal in its stead
pub ok_or_ok : {T E : Type 0} (o : Option T) (e : E) (x : T) → Ok x ≡ ok_or o e → Some x ≡ o
ok_or_ok None e x h = absurd (let z : ◌≡◌ {A = ℕ} 0 1 = cc in omega arith)
ok_or_ok (Some y) e x h = cc

pub ok_or_err : {T E : Type 0} (o : Option T) (e f : E) → Err f ≡ ok_or o e → (None ≡ o) × (f ≡ e)
ok_or_err None e f h = (refl, cc)
ok_or_err (Some y) e f h = absurd (let z : ◌≡◌ {A = ℕ} 0 1 = cc in omega arith)

-- the same answer, where the place of a refusal is later by b
abbrev pub Moved : {T : Type 0} → ℕ → Result T Fault → Result T Fault → Type 0
Moved b r s = MatchResult r (λ x. s ≡ Ok x) (λ f. IsErrAnd s (λ g. g ≡ later_fault b f))

pub moved_ok : {T : Type 0} (b : ℕ) (r s : Result T Fault) (x : T) → Moved b r s → s ≡ Ok x → r ≡ Ok x
moved_ok b (Ok y) s x m e = cc
moved_ok b (Err f) (Ok y) x m e = absurd m
moved_ok b (Err f) (Err g) x m e = absurd (let z : ◌≡◌ {A = ℕ} 0 1 = cc in omega arith)

pub moved_err : {T : Type 0} (b : ℕ) (r s : Result T Fault) (g : Fault) → Moved b r s → s ≡ Err g → (f : Fault) × (r ≡ Err f) × (g ≡ later_fault b f)
moved_err b (Ok y) s g m e = absurd (let z : ◌≡◌ {A = ℕ} 0 1 = cc in omega arith)
moved_err b (Err f) (Ok y) g m e = absurd m
moved_err b (Err f) (Err h) g m e = let i : g ≡ h = cc in (f, refl, rw i m)

-- a test is not both
pub not_both : {P : Type 0} (b : Bool) → b ≡ true → b ≡ false → P
not_both b e f = absurd (let z : ◌≡◌ {A = ℕ} 0 1 = cc in omega arith)

-- a refusal that is handed up
pub handed : {T : Type 0} (r : Result T Fault) (f : Fault) → IsErrAnd r (λ g. g ≡ f) → r ≡ Err f
handed (Ok x) f h = absurd h
handed (Err g) f h = ap Err h
