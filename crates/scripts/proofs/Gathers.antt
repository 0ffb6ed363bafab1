-- Items that are gathered one after the other.
use Rattle.std.proofs.Common.{◌≡◌, ℕ, ◌^◌, ◌<◌, true, false, List, [], ◌∷◌, is_some, Some, None, Ok, Err, Option, Result, sym, refl, ap, ◌∙◌, arith}
use Rattle.format.specs.Bytes.{Bytes}
use Rattle.format.specs.Revisions.{find}
use Rattle.format.specs.Updates.{Change, Update, with_change}
use Rattle.scripts.specs.declared.error.Mistake.TheVariants.{NumberAgain}
use Rattle.scripts.specs.declared.error.ReadError.{ReadError}
use Rattle.scripts.specs.declared.error.ReadError.TheVariants.{NoMemory, Wrong}
use Rattle.scripts.specs.declared.error.ScriptError.{ScriptError}
use Rattle.scripts.specs.declared.found.Found.{Found}
use Rattle.scripts.specs.Errors.{wrong_at}
use Rattle.scripts.specs.Readers.{item_of, spelled_change, Gave, SmallNumber}
use Rattle.scripts.specs.Reads.{NotAdded, NotRead}
use Rattle.scripts.specs.Rows.{in_order}
use Rattle.scripts.specs.Scripts.{Item, change, stop, gathered, read_script}
use Rattle.scripts.proofs.Placed.{order_ascends, order_spellable, in_order_fact}
use Rattle.scripts.proofs.ReadsAgain.{ascends_with, spellable_with}
use Rattle.scripts.proofs.ReadsBack.{gathered_more}

again : (k n : ℕ) (c : Change) (is : List Item) (u : Update) → is_some (find n u) ≡ true → gathered (change k n c ∷ is) u ≡ Err (wrong_at k NumberAgain)
unfolding gathered
again k n c is u e = rw (e, gathered) refl

-- one change more is in order
pub order_with : (n : ℕ) (c : Change) (u v : Update) → in_order 0 u ≡ true → n < 10 ^ 10 → v ≡ with_change n c u → in_order 0 v ≡ true
order_with n c u v o h e =
    ap (in_order 0) e ∙ in_order_fact 0 (with_change n c u) (ascends_with 0 n c u (omega arith) (order_ascends 0 u o)) (spellable_with n c u h (order_spellable 0 u o))

-- what is left to read gives the same as all
module _ (is : List Item) (u : Update) {z : Result Update ScriptError} (was : gathered is u ≡ z) where
  -- all is read
  pub gathered_all : is ≡ [] → z ≡ Ok u
  unfolding gathered
  gathered_all e = sym was ∙ ap (λ js. gathered js u) e

  -- something is wrong
  pub gathered_stop : (x : ScriptError) → is ≡ stop x ∷ [] → z ≡ Err x
  unfolding gathered
  gathered_stop x e = sym was ∙ ap (λ js. gathered js u) e

  module _ (f : Found) (js : List Item) (first : is ≡ item_of f ∷ js) where
    pub gathered_next : (v : Update) → is_some (find f.number u) ≡ false → v ≡ with_change f.number (spelled_change f.change) u → gathered js v ≡ z
    gathered_next v free e =
        ap (gathered js) e
        ∙ sym (gathered_more f.line f.number (spelled_change f.change) js u free)
        ∙ sym (ap (λ ks. gathered ks u) first)
        ∙ was

    pub gathered_again : is_some (find f.number u) ≡ true → z ≡ Err (wrong_at f.line NumberAgain)
    gathered_again e = sym was ∙ ap (λ ks. gathered ks u) first ∙ again f.line f.number (spelled_change f.change) js u e

-- a change that is not added
pub not_added : (src : Bytes) (is js : List Item) (u : Update) (f : Found) (e : ReadError) → gathered is u ≡ read_script src → is ≡ item_of f ∷ js → NotAdded u f e → NotRead src e
not_added src is js u f NoMemory was first h = tt
not_added src is js u f (Wrong x) was first h =
    gathered_again is u was f js first h.0 ∙ ap {B = Result Update ScriptError} (λ y. Err y) (sym h.1)

-- what a reader gave
pub gave_change : (was is : List Item) (o : Option Found) (f : Found) → Gave was (Ok o) is → o ≡ Some f → was ≡ item_of f ∷ is
gave_change was is o f h e = rw e at h

pub gave_none : (was is : List Item) (o : Option Found) → Gave was (Ok o) is → o ≡ None → was ≡ []
gave_none was is o h e = let g : (was ≡ []) × (is ≡ was) = rw e at h in g.0

pub gave_small : (o : Option Found) (f : Found) → SmallNumber (Ok o) → o ≡ Some f → f.number < 10 ^ 10
gave_small o f h e = rw e at h
