-- Calls that a state does not allow.
use Rattle.std.proofs.Common.{◌≡◌, ℕ, true, false, refl, arith}
use Rattle.faults.specs.Faults.{refused}
use Rattle.format.specs.Book.{decide}
use Rattle.book.specs.declared.call.Phase.{Phase}
use Rattle.book.specs.declared.call.Phase.TheVariants.{Shut, Standing, Updating}
use Rattle.book.specs.declared.call.Call.{Call}
use Rattle.book.specs.declared.call.Call.TheVariants.{Open, Begin, Put, Remove, Commit, Abandon, Back}
use Rattle.book.specs.Calls.{number_of, allows, obstacle, Refuses}

clash : {P : Type 0} → true ≡ false → P
clash e = let z : ◌≡◌ {A = ℕ} 0 1 = cc in absurd (omega arith)

-- what stands in the way is the fault that is decided
pub refuses : (p : Phase) (c : Call) → Refuses p c (refused (obstacle p c) (number_of c))
unfolding decide
refuses Shut Open e s u = clash e
refuses Shut Begin e s u = refl
refuses Shut (Put x n b) e s u = refl
refuses Shut (Remove x n) e s u = refl
refuses Shut (Commit x) e s u = refl
refuses Shut (Abandon x) e s u = refl
refuses Shut (Back k) e s u = refl
refuses Standing Open e s u = refl
refuses Standing Begin e s u = clash e
refuses Standing (Put x n b) e s u = refl
refuses Standing (Remove x n) e s u = refl
refuses Standing (Commit x) e s u = refl
refuses Standing (Abandon x) e s u = refl
refuses Standing (Back k) e s u = clash e
refuses Updating Open e s u = refl
refuses Updating Begin e s u = refl
refuses Updating (Put true n b) e s u = refl
refuses Updating (Put false n b) e s u = clash e
refuses Updating (Remove true n) e s u = refl
refuses Updating (Remove false n) e s u = clash e
refuses Updating (Commit true) e s u = refl
refuses Updating (Commit false) e s u = clash e
refuses Updating (Abandon true) e s u = refl
refuses Updating (Abandon false) e s u = clash e
refuses Updating (Back k) e s u = refl

-- the calls that a state does not allow, by those that it does
pub shut_others : (c : Call) → (c ≡ Open → ⊥) → allows Shut c ≡ false
shut_others Open h = absurd (h refl)
shut_others Begin h = refl
shut_others (Put x n b) h = refl
shut_others (Remove x n) h = refl
shut_others (Commit x) h = refl
shut_others (Abandon x) h = refl
shut_others (Back k) h = refl

pub standing_others : (c : Call) → (c ≡ Begin → ⊥) → ((k : ℕ) → c ≡ Back k → ⊥) → allows Standing c ≡ false
standing_others Open h i = refl
standing_others Begin h i = absurd (h refl)
standing_others (Put x n b) h i = refl
standing_others (Remove x n) h i = refl
standing_others (Commit x) h i = refl
standing_others (Abandon x) h i = refl
standing_others (Back k) h i = absurd (i k refl)
