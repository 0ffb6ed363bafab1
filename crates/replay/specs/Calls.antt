-- What a call of a store is answered, and what it leaves.
use Rattle.std.specs.Prelude.{◌≡◌, ℕ, ◌<◌, List, [], ◌∷◌, length, Some, None, Ok, Err, vec_items, Option, Result, MatchResult}
use Rattle.std.specs.List.{slice_get}
use Rattle.std.specs.Global.{Vec}
use Rattle.faults.specs.Faults.{refused}
use Rattle.faults.specs.declared.reason.Reason.{Reason}
use Rattle.faults.specs.declared.reason.Reason.TheVariants.{NoSpace, CutPastEnd}
use Rattle.stores.specs.Meanings.{Meaning, Joined, Shortened}
use Rattle.replay.specs.Hex.{hex_of}
use Rattle.replay.specs.declared.answer.Setback.{Setback}
use Rattle.replay.specs.declared.answer.Setback.TheVariants.{Fault, Trouble}
use Rattle.replay.specs.declared.answer.Value.{Value}
use Rattle.replay.specs.declared.answer.Value.TheVariants.{Number, Nothing, Hex}
use Rattle.replay.specs.declared.command.Call.{Call}
use Rattle.replay.specs.declared.command.Call.TheVariants.{Append, Cut, Byte, Bytes}
use Rattle.replay.specs.declared.trouble.Trouble.TheVariants.{NoMemory}

abbrev pub Answer : Type 0
Answer = Result (Vec Value) Setback

-- the answer of what has no values to tell
abbrev pub Plain : Answer → Result (Unit {0}) Setback → Type 0
Plain r (Ok u) = MatchResult r (λ vs. vec_items vs ≡ []) (λ _. ⊥)
Plain r (Err e) = r ≡ Err e

-- the store refused: its fault is the answer, and it is as it was
pub record Refuses (reason : Reason) (e : Setback) (was is : Meaning) : Type 0 where
  pub fault : e ≡ Fault (refused reason 0)
  pub same : is ≡ was

abbrev pub Appended : Meaning → List ℕ → Answer → Meaning → Type 0
Appended was more r is =
    MatchResult r (λ vs. (vec_items vs ≡ []) × Joined was more is) (λ e. (was.space < length more) × Refuses NoSpace e was is)

abbrev pub CutBack : Meaning → ℕ → Answer → Meaning → Type 0
CutBack was n r is =
    MatchResult r (λ vs. (vec_items vs ≡ []) × Shortened was n is) (λ e. (length was.bytes < n) × Refuses CutPastEnd e was is)

abbrev pub byte_value : Option ℕ → Value
byte_value None = Nothing
byte_value (Some b) = Number b

abbrev pub ByteTold : Meaning → ℕ → Answer → Type 0
ByteTold m place r = MatchResult r (λ vs. vec_items vs ≡ byte_value (slice_get m.bytes place) ∷ []) (λ e. e ≡ Trouble NoMemory)

-- the length, the space, and the bytes in hex
pub record Listing (m : Meaning) (values : List Value) : Type 0 where
  pub text : Vec ℕ
  pub values_are : values ≡ Number (length m.bytes) ∷ (Number m.space ∷ (Hex text ∷ []))
  pub text_is : vec_items text ≡ hex_of m.bytes

abbrev pub BytesTold : Meaning → Answer → Type 0
BytesTold m r = MatchResult r (λ vs. Listing m (vec_items vs)) (λ e. e ≡ Trouble NoMemory)

abbrev pub Called : Meaning → Call → Answer → Meaning → Type 0
Called was (Append more) r is = Appended was (vec_items more) r is
Called was (Cut n) r is = CutBack was n r is
Called was (Byte place) r is = ByteTold was place r × (is ≡ was)
Called was Bytes r is = BytesTold was r × (is ≡ was)
