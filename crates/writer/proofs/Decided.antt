-- What is decided of a change, check by check.
use Rattle.std.proofs.Common.{◌≡◌, ℕ, true, false, eqb, length, is_some, Ok, Err, refl}
use Rattle.faults.specs.declared.fault.Fault.{Fault}
use Rattle.faults.specs.declared.reason.Reason.TheVariants.{NotInUse, CannotPut, RootNumber, ChangedAlready, UpdateFull}
use Rattle.faults.specs.Faults.{refused}
use Rattle.format.specs.Book.{may_put, is_used, has_room, body_answer, decide_put, decide_remove}
use Rattle.format.specs.Bytes.{Bytes}
use Rattle.format.specs.Chain.{Answer}
use Rattle.format.specs.Frames.{body_fault}
use Rattle.format.specs.Revisions.{Revision, find, nth}
use Rattle.format.specs.Updates.{Update}

module _ (v : Revision) (u : Update) (n : ℕ) where
  pub put_not_may : (b : Bytes) → may_put v u n ≡ false → ◌≡◌ {A = Answer (Unit {0})} (Err (refused CannotPut n)) (decide_put v u n b)
  unfolding decide_put
  put_not_may b e = rw (e, decide_put) refl

  pub put_again : (b : Bytes) → may_put v u n ≡ true → is_some (find n u) ≡ true → ◌≡◌ {A = Answer (Unit {0})} (Err (refused ChangedAlready n)) (decide_put v u n b)
  unfolding decide_put
  put_again b e f = rw (e, f, decide_put) refl

  pub put_body : (b : Bytes) (g : Fault) → may_put v u n ≡ true → is_some (find n u) ≡ false → body_answer n (body_fault b) ≡ Err g → ◌≡◌ {A = Answer (Unit {0})} (Err g) (decide_put v u n b)
  unfolding decide_put
  put_body b g e f h = rw (e, f, h, decide_put) refl

  pub put_full : (b : Bytes) → may_put v u n ≡ true → is_some (find n u) ≡ false → body_answer n (body_fault b) ≡ Ok tt → has_room u (length b) ≡ false → ◌≡◌ {A = Answer (Unit {0})} (Err (refused UpdateFull n)) (decide_put v u n b)
  unfolding decide_put
  put_full b e f h r = rw (e, f, h, r, decide_put) refl

  pub put_ok : (b : Bytes) → may_put v u n ≡ true → is_some (find n u) ≡ false → body_answer n (body_fault b) ≡ Ok tt → has_room u (length b) ≡ true → ◌≡◌ {A = Answer (Unit {0})} (Ok tt) (decide_put v u n b)
  unfolding decide_put
  put_ok b e f h r = rw (e, f, h, r, decide_put) refl

  pub remove_unused : is_used (nth n v.states) ≡ false → ◌≡◌ {A = Answer (Unit {0})} (Err (refused NotInUse n)) (decide_remove v u n)
  unfolding decide_remove
  remove_unused e = rw (e, decide_remove) refl

  pub remove_root : is_used (nth n v.states) ≡ true → eqb n v.root ≡ true → ◌≡◌ {A = Answer (Unit {0})} (Err (refused RootNumber n)) (decide_remove v u n)
  unfolding decide_remove
  remove_root e f = rw (e, f, decide_remove) refl

  pub remove_again : is_used (nth n v.states) ≡ true → eqb n v.root ≡ false → is_some (find n u) ≡ true → ◌≡◌ {A = Answer (Unit {0})} (Err (refused ChangedAlready n)) (decide_remove v u n)
  unfolding decide_remove
  remove_again e f g = rw (e, f, g, decide_remove) refl

  pub remove_full : is_used (nth n v.states) ≡ true → eqb n v.root ≡ false → is_some (find n u) ≡ false → has_room u 0 ≡ false → ◌≡◌ {A = Answer (Unit {0})} (Err (refused UpdateFull n)) (decide_remove v u n)
  unfolding decide_remove
  remove_full e f g r = rw (e, f, g, r, decide_remove) refl

  pub remove_ok : is_used (nth n v.states) ≡ true → eqb n v.root ≡ false → is_some (find n u) ≡ false → has_room u 0 ≡ true → ◌≡◌ {A = Answer (Unit {0})} (Ok tt) (decide_remove v u n)
  unfolding decide_remove
  remove_ok e f g r = rw (e, f, g, r, decide_remove) refl
