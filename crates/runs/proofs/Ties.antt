-- The slip that is held is owed exactly while an update is open, whatever call is made.
use Rattle.std.proofs.Common.{◌≡◌, ℕ, Bool, true, false, not, Ok, Err, sym, refl, ap, ◌∙◌, arith}
use Rattle.faults.specs.declared.fault.Fault.{Fault}
use Rattle.stores.specs.Meanings.{Meaning}
use Rattle.format.specs.Book.{Phase, shut, standing, updating, Moment, Call, open_file, begin, put, remove, commit, abandon, back, decide, phase_after, bytes_after, SpaceAfter, Step, spent_after}
use Rattle.format.specs.Bytes.{Bytes}
use Rattle.format.specs.Chain.{Answer}
use Rattle.laws.proofs.Held.{never}
use Rattle.keeping.specs.Driving.{is_updating}
use Rattle.book.specs.declared.call.Call as book
use Rattle.book.specs.declared.call.Call.TheVariants.{Open, Begin, Put, Remove, Commit, Abandon, Back}
use Rattle.book.specs.Calls.{call_of, shows_spent}
use Rattle.keeping.proofs.Runs.{slips_wait}
use Rattle.runs.specs.Made.{with_slip, held_after}

clash : {P : Type 0} (u : Unit {0}) (f : Fault) → ◌≡◌ {A = Answer (Unit {0})} (Ok u) (Err f) → P
clash u f e = let z : ◌≡◌ {A = ℕ} 0 1 = cc in absurd (omega arith)

-- the state after an accepted call
after_ok : (s : Meaning) (p : Phase) (c : Call) (u : Unit {0}) (x : Bool) → Ok u ≡ decide s p c → is_updating p ≡ not x → is_updating (phase_after p c) ≡ not (held_after c (Ok u) x)
unfolding decide phase_after
after_ok s shut open_file u x e t = t
after_ok s shut begin u x e t = clash u _ e
after_ok s shut (put y n b) u x e t = clash u _ e
after_ok s shut (remove y n) u x e t = clash u _ e
after_ok s shut (commit y) u x e t = clash u _ e
after_ok s shut (abandon y) u x e t = clash u _ e
after_ok s shut (back k) u x e t = clash u _ e
after_ok s standing open_file u x e t = clash u _ e
after_ok s standing begin u x e t = refl
after_ok s standing (put y n b) u x e t = clash u _ e
after_ok s standing (remove y n) u x e t = clash u _ e
after_ok s standing (commit y) u x e t = clash u _ e
after_ok s standing (abandon y) u x e t = clash u _ e
after_ok s standing (back k) u x e t = t
after_ok s (updating v) open_file u x e t = clash u _ e
after_ok s (updating v) begin u x e t = clash u _ e
after_ok s (updating v) (put y n b) u x e t = t
after_ok s (updating v) (remove y n) u x e t = t
after_ok s (updating v) (commit y) u x e t = refl
after_ok s (updating v) (abandon y) u x e t = refl
after_ok s (updating v) (back k) u x e t = clash u _ e

-- a refused call leaves the slip as it is
kept : (c : Call) (f : Fault) (x : Bool) → held_after c (Err f) x ≡ x
kept open_file f x = refl
kept begin f x = refl
kept (put y n b) f x = refl
kept (remove y n) f x = refl
kept (commit y) f x = refl
kept (abandon y) f x = refl
kept (back k) f x = refl

pub tie_after : (m m' : Moment) (c : Call) (a : Answer (Unit {0})) (x : Bool) → Step m c a m' → is_updating m.phase ≡ not x → is_updating m'.phase ≡ not (held_after c a x)
tie_after m m' c (Ok u) x s t = ap is_updating s.leaves.phase ∙ after_ok m.store m.phase c u x s.answer t
tie_after m m' c (Err f) x s t = ap (λ n. is_updating n.phase) s.leaves ∙ (t ∙ ap not (sym (kept c f x)))

-- a spent slip ends no update
no_commit : (s : Meaning) (p : Phase) (u : Unit {0}) → Ok u ≡ decide s p (commit true) → ⊥
unfolding decide
no_commit s shut u e = clash u _ e
no_commit s standing u e = clash u _ e
no_commit s (updating v) u e = clash u _ e

no_abandon : (s : Meaning) (p : Phase) (u : Unit {0}) → Ok u ≡ decide s p (abandon true) → ⊥
unfolding decide
no_abandon s shut u e = clash u _ e
no_abandon s standing u e = clash u _ e
no_abandon s (updating v) u e = clash u _ e

spent_commit : (m m' : Moment) (a : Answer (Unit {0})) (x : Bool) → Step m (commit true) a m' → is_updating m.phase ≡ not x → is_updating m'.phase ≡ not x
spent_commit m m' (Ok u) x s t = absurd (no_commit m.store m.phase u s.answer)
spent_commit m m' (Err f) x s t = tie_after m m' (commit true) (Err f) x s t

spent_abandon : (m m' : Moment) (a : Answer (Unit {0})) (x : Bool) → Step m (abandon true) a m' → is_updating m.phase ≡ not x → is_updating m'.phase ≡ not x
spent_abandon m m' (Ok u) x s t = absurd (no_abandon m.store m.phase u s.answer)
spent_abandon m m' (Err f) x s t = tie_after m m' (abandon true) (Err f) x s t

-- A call that asks for a spent slip is made with one, and that one stays spent; the slip that is held meanwhile stays as it is.
pub as_asked : (d : book.Call) → shows_spent d ≡ true → with_slip true (call_of d) ≡ call_of d
as_asked Open e = refl
as_asked Begin e = refl
as_asked (Put true n b) e = refl
as_asked (Put false n b) e = never (sym e)
as_asked (Remove true n) e = refl
as_asked (Remove false n) e = never (sym e)
as_asked (Commit true) e = refl
as_asked (Commit false) e = never (sym e)
as_asked (Abandon true) e = refl
as_asked (Abandon false) e = never (sym e)
as_asked (Back k) e = refl

-- a spent slip stays spent, by the definition of what is spent after a call
pub spent_stays : (c : Call) (a : Answer (Unit {0})) → spent_after c a true ≡ true
unfolding spent_after
spent_stays c (Err f) = refl
spent_stays open_file (Ok u) = refl
spent_stays begin (Ok u) = refl
spent_stays (put x n b) (Ok u) = refl
spent_stays (remove x n) (Ok u) = refl
spent_stays (commit x) (Ok u) = refl
spent_stays (abandon x) (Ok u) = refl
spent_stays (back k) (Ok u) = refl

-- and so does one that was shown to a call of a list
pub stays_spent : (d : book.Call) (a : Answer (Unit {0})) → shows_spent d ≡ true → held_after (call_of d) a true ≡ true
stays_spent Open a e = refl
stays_spent Begin a e = never (sym e)
stays_spent (Put y n b) a e = refl
stays_spent (Remove y n) a e = refl
stays_spent (Commit y) (Ok u) e = refl
stays_spent (Commit y) (Err f) e = refl
stays_spent (Abandon y) (Ok u) e = refl
stays_spent (Abandon y) (Err f) e = refl
stays_spent (Back k) a e = refl

pub tie_spent : (m m' : Moment) (d : book.Call) (a : Answer (Unit {0})) (x : Bool) → shows_spent d ≡ true → Step m (call_of d) a m' → is_updating m.phase ≡ not x → is_updating m'.phase ≡ not x
tie_spent m m' Open a x e s t = never (sym e)
tie_spent m m' Begin a x e s t = never (sym e)
tie_spent m m' (Put y n b) a x e s t = tie_after m m' (put y n b.now) a x s t
tie_spent m m' (Remove y n) a x e s t = tie_after m m' (remove y n) a x s t
tie_spent m m' (Commit true) a x e s t = spent_commit m m' a x s t
tie_spent m m' (Commit false) a x e s t = never (sym e)
tie_spent m m' (Abandon true) a x e s t = spent_abandon m m' a x s t
tie_spent m m' (Abandon false) a x e s t = never (sym e)
tie_spent m m' (Back k) a x e s t = never (sym e)

-- commit and abandon spend the slip that is shown to them
pub spent_by_commit : (a : Answer (Unit {0})) (x y : Bool) → spent_after (commit x) a x ≡ held_after (commit y) a x
unfolding spent_after
spent_by_commit (Ok u) x y = refl
spent_by_commit (Err f) x y = refl

pub spent_by_abandon : (a : Answer (Unit {0})) (x y : Bool) → spent_after (abandon x) a x ≡ held_after (abandon y) a x
unfolding spent_after
spent_by_abandon (Ok u) x y = refl
spent_by_abandon (Err f) x y = refl

-- an update is begun where none is open, so the slip that is let go is spent
no_update : (s : Meaning) (p : Phase) (u : Unit {0}) → Ok u ≡ decide s p begin → is_updating p ≡ false
unfolding decide
no_update s shut u e = clash u _ e
no_update s standing u e = refl
no_update s (updating v) u e = clash u _ e

pub begun_idle : (m m' : Moment) (u : Unit {0}) → Step m begin (Ok u) m' → is_updating m.phase ≡ false
begun_idle m m' u s = no_update m.store m.phase u s.answer

-- where no update is open, the slip held is spent
pub idle_spent : (m : Moment) (x : Bool) → is_updating m.phase ≡ not x → is_updating m.phase ≡ false → x ≡ true
idle_spent m true t i = refl
idle_spent m false t i = never (sym t ∙ i)

-- The slip held serves for an unspent one: it is unspent, or no update is open and it makes no difference.
module _ (m m' : Moment) (a : Answer (Unit {0})) where
  put_held : (x : Bool) (n : ℕ) (b : Bytes) → is_updating m.phase ≡ not x → Step m (put x n b) a m' → Step m (put false n b) a m'
  put_held true n b t s = (slips_wait m t).put true false n b a m' s
  put_held false n b t s = s

  remove_held : (x : Bool) (n : ℕ) → is_updating m.phase ≡ not x → Step m (remove x n) a m' → Step m (remove false n) a m'
  remove_held true n t s = (slips_wait m t).remove true false n a m' s
  remove_held false n t s = s

  commit_held : (x : Bool) → is_updating m.phase ≡ not x → Step m (commit x) a m' → Step m (commit false) a m'
  commit_held true t s = (slips_wait m t).commit true false a m' s
  commit_held false t s = s

  abandon_held : (x : Bool) → is_updating m.phase ≡ not x → Step m (abandon x) a m' → Step m (abandon false) a m'
  abandon_held true t s = (slips_wait m t).abandon true false a m' s
  abandon_held false t s = s

pub serves : (m m' : Moment) (d : book.Call) (a : Answer (Unit {0})) (x : Bool) → shows_spent d ≡ false → is_updating m.phase ≡ not x → Step m (with_slip x (call_of d)) a m' → Step m (call_of d) a m'
serves m m' Open a x e t s = s
serves m m' Begin a x e t s = s
serves m m' (Put true n b) a x e t s = never e
serves m m' (Put false n b) a x e t s = put_held m m' a x n b.now t s
serves m m' (Remove true n) a x e t s = never e
serves m m' (Remove false n) a x e t s = remove_held m m' a x n t s
serves m m' (Commit true) a x e t s = never e
serves m m' (Commit false) a x e t s = commit_held m m' a x t s
serves m m' (Abandon true) a x e t s = never e
serves m m' (Abandon false) a x e t s = abandon_held m m' a x t s
serves m m' (Back k) a x e t s = s

-- An update that is open can always be abandoned, with its slip: that leaves the store as it is, and the slip is spent.
abandoning : (s : Meaning) (p : Phase) → is_updating p ≡ true → decide s p (abandon false) ≡ Ok tt
unfolding decide
abandoning s shut t = never (sym t)
abandoning s standing t = never (sym t)
abandoning s (updating u) t = refl

abandoned : (m m' : Moment) (a : Answer (Unit {0})) → is_updating m.phase ≡ true → Step m (abandon false) a m' → a ≡ Ok tt
abandoned m m' a t s = s.answer ∙ abandoning m.store m.phase t

pub abandoned_spent : (m m' : Moment) (a : Answer (Unit {0})) (x z : Bool) → x ≡ false → is_updating m.phase ≡ not x → Step m (abandon x) a m' → z ≡ spent_after (abandon x) a x → z ≡ true
unfolding spent_after
abandoned_spent m m' a true z e t s h = never e
abandoned_spent m m' a false z e t s h = h ∙ ap (λ y. spent_after (abandon false) y false) (abandoned m m' a t s)

pub abandoned_store : (m m' : Moment) (a : Answer (Unit {0})) (x : Bool) → Step m (abandon x) a m' → m'.store ≡ m.store
unfolding bytes_after SpaceAfter
abandoned_store m m' (Ok u) x s = λ i. record { bytes = s.leaves.bytes i; space = s.leaves.space i }
abandoned_store m m' (Err f) x s = ap (λ n. n.store) s.leaves
