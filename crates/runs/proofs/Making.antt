-- A call that was made with the slip held, or with a spent one.
use Rattle.std.proofs.Common.{◌≡◌, Bool, true, false, not, Ok, Err, Result, MatchResult, IsOkAnd, sym, refl, ap, ◌∙◌, subst}
use Rattle.faults.specs.declared.fault.Fault.{Fault}
use Rattle.stores.specs.Meanings.{Meaning}
use Rattle.stores.specs.declared.store.Store.{Ghosts}
use Rattle.format.specs.Book as format
use Rattle.format.specs.Book.{spent_after}
use Rattle.format.specs.Chain.{Answer}
use Rattle.book.specs.declared.book.Book.{Book}
use Rattle.book.specs.declared.call.Call.{Call}
use Rattle.book.specs.declared.slip.Slip.{Slip}
use Rattle.book.specs.Books.{Performs, done, moment_of}
use Rattle.book.specs.Calls.{call_of, shows_spent}
use Rattle.book.specs.Slips.{is_spent}
use Rattle.runs.specs.Made.{Tied, Makes, MadeWith, with_slip, held_after}
use Rattle.runs.proofs.Ties.{tie_after, tie_spent, as_asked, stays_spent, serves}

-- an answer without what it gives
pub done_is : {A : Type 0} (r : Result A Fault) (a : Answer (Unit {0})) (P : A → Unit {0} → Type 0) → MatchResult r (λ x. IsOkAnd a (P x)) (λ e. a ≡ Err e) → done r ≡ a
done_is (Ok x) (Ok u) P h = refl
done_is (Ok x) (Err f) P h = absurd h
done_is (Err e) a P h = sym h

-- a call that spends the slip that is shown to it
pub spends : {S : Type 0} {g : Ghosts S} (meaning : S → Meaning) (b b' : Book S g) (x : Bool) (c c' : format.Call) (a a' : Answer (Unit {0})) (s : Slip) → c' ≡ c → a ≡ a' →
    Performs meaning b (with_slip x c) a b' → is_spent s ≡ spent_after (with_slip x c) a x → spent_after (with_slip x c) a x ≡ held_after c a x → MadeWith meaning b x c' a' b' s
spends meaning b b' x c c' a a' s e f p h k =
    subst (λ z. MadeWith meaning b x z a' b' s) (sym e) (subst (λ z. MadeWith meaning b x c z b' s) f (record { performs = p; slip = h ∙ k }))

pub used_spent : (d : Call) (a : Answer (Unit {0})) (y z : Bool) → y ≡ true → shows_spent d ≡ true → z ≡ held_after (call_of d) a y → z ≡ true
used_spent d a y z f e h = h ∙ (ap (held_after (call_of d) a) f ∙ stays_spent d a e)

module _ {S : Type 0} {g : Ghosts S} (meaning : S → Meaning) (b b' : Book S g) (d : Call) (a : Answer (Unit {0})) (s : Slip) (t : Tied meaning b s) where
  pub made_spent : (y : Bool) (used : Slip) → y ≡ true → shows_spent d ≡ true → MadeWith meaning b y (call_of d) a b' used → Makes meaning b (call_of d) a b' s
  made_spent y used f e w =
      let p : Performs meaning b (call_of d) a b' =
      subst (λ c. Performs meaning b c a b') (ap (λ z. with_slip z (call_of d)) f ∙ as_asked d e) w.performs in
      record { performs = p; tied = tie_spent (moment_of meaning b) (moment_of meaning b') d a (is_spent s) e p.step t }

  pub made_held : (s' : Slip) → shows_spent d ≡ false → MadeWith meaning b (is_spent s) (call_of d) a b' s' → Makes meaning b (call_of d) a b' s'
  made_held s' e w =
      let step = serves (moment_of meaning b) (moment_of meaning b') d a (is_spent s) e t w.performs.step in
      record {
        performs = record { step = step; sound = w.performs.sound };
        tied = tie_after (moment_of meaning b) (moment_of meaning b') (call_of d) a (is_spent s) step t ∙ ap not (sym w.slip);
      }
