-- Runs from their front on, step by step.
use Rattle.std.proofs.Common.{◌≡◌, ℕ, Bool, false, List, [], ◌∷◌, Err, sym, refl, ap, ◌∙◌, subst, arith}
use Rattle.faults.specs.declared.fault.Fault.{Fault}
use Rattle.faults.specs.declared.reason.Reason.TheVariants.{BookShut, NoUpdate}
use Rattle.faults.specs.Faults.{refused}
use Rattle.format.specs.Account.{account, account_from}
use Rattle.format.specs.Book.{Phase, shut, standing, updating, Moment, Call, put, remove, commit, abandon, decide, Leaves, Step}
use Rattle.format.specs.Bytes.{Bytes}
use Rattle.format.specs.Chain.{Answer}
use Rattle.format.specs.Law.{shut_over, opening}
use Rattle.stores.specs.Meanings.{Meaning}
use Rattle.laws.proofs.Cuts.{run_join, account_split}
use Rattle.laws.proofs.Held.{never}
use Rattle.keeping.specs.Driving.{events_of, EventsGrow, RunsGrow, is_updating, SlipsWaitForUpdates}

pub events_grow : EventsGrow
events_grow [] xs c a l h = absurd (omega arith)
events_grow (d ∷ cs) [] c a l h = λ i. record { call = sym h i; answer = a } ∷ none cs i
  where
    none : (cs : List Call) → events_of cs [] ≡ []
    none [] = refl
    none (e ∷ es) = refl
events_grow (d ∷ cs) (b ∷ xs) c a l h = ap (λ es. record { call = d; answer = b } ∷ es) (events_grow cs xs c a (omega arith) h)

pub runs_grow : RunsGrow
unfolding account account_from
runs_grow = record {
  more = λ m x y es c a r s. run_join es (record { call = c; answer = a } ∷ []) m x y r (y, s, refl);
  opened = λ was space m s. (m, s, refl);
  onward = λ was space es x y c a r s. run_join (opening ∷ es) (record { call = c; answer = a } ∷ []) (shut_over was space) x y r (y, s, refl);
  account = λ was es e. account_split was (record { kept = 0; held = []; pending = [] }) (opening ∷ es) (e ∷ []);
}

-- what a call that is shown a slip is refused with while no update is open
abbrev said : Phase → ℕ → Fault
said shut n = refused BookShut n
said standing n = refused NoUpdate n
said (updating u) n = refused NoUpdate n

module _ (s : Meaning) where
  put_said : (p : Phase) → is_updating p ≡ false → (x : Bool) (n : ℕ) (b : Bytes) → decide s p (put x n b) ≡ Err (said p n)
  unfolding decide
  put_said shut u x n b = refl
  put_said standing u x n b = refl
  put_said (updating v) u x n b = never u

  remove_said : (p : Phase) → is_updating p ≡ false → (x : Bool) (n : ℕ) → decide s p (remove x n) ≡ Err (said p n)
  unfolding decide
  remove_said shut u x n = refl
  remove_said standing u x n = refl
  remove_said (updating v) u x n = never u

  commit_said : (p : Phase) → is_updating p ≡ false → (x : Bool) → decide s p (commit x) ≡ Err (said p 0)
  unfolding decide
  commit_said shut u x = refl
  commit_said standing u x = refl
  commit_said (updating v) u x = never u

  abandon_said : (p : Phase) → is_updating p ≡ false → (x : Bool) → decide s p (abandon x) ≡ Err (said p 0)
  unfolding decide
  abandon_said shut u x = refl
  abandon_said standing u x = refl
  abandon_said (updating v) u x = never u

-- two calls that are refused alike are the same step
refused_alike : (m : Moment) (c d : Call) (f : Fault) (a : Answer (Unit {0})) (m' : Moment) →
    decide m.store m.phase c ≡ Err f → decide m.store m.phase d ≡ Err f → Step m c a m' → Step m d a m'
refused_alike m c d f a m' p q s =
    let e : a ≡ Err f = s.answer ∙ p in
    let l : m' ≡ m = subst (λ x. Leaves m c x m') e s.leaves in
    record { answer = e ∙ sym q; leaves = subst (λ x. Leaves m d x m') (sym e) l }

pub slips_wait : SlipsWaitForUpdates
slips_wait m u =
    let s = m.store in
    let p = m.phase in
    record {
      put = λ x y n b a m'. refused_alike m (put x n b) (put y n b) (said p n) a m' (put_said s p u x n b) (put_said s p u y n b);
      remove = λ x y n a m'. refused_alike m (remove x n) (remove y n) (said p n) a m' (remove_said s p u x n) (remove_said s p u y n);
      commit = λ x y a m'. refused_alike m (commit x) (commit y) (said p 0) a m' (commit_said s p u x) (commit_said s p u y);
      abandon = λ x y a m'. refused_alike m (abandon x) (abandon y) (said p 0) a m' (abandon_said s p u x) (abandon_said s p u y);
    }
