-- What the stores at hand mean: the topmost one, if there is one.
use Rattle.std.specs.Prelude.{◌≡◌, ℕ, ◌<◌, ◌⊎◌, length, Some, None, Err, vec_items, vec_len, Option, Result, MatchResult}
use Rattle.std.specs.Global.{Vec}
use Rattle.faults.specs.Faults.{refused}
use Rattle.faults.specs.declared.reason.Reason.TheVariants.{StoreLength}
use Rattle.stores.specs.Figures.{longest}
use Rattle.stores.specs.Flats.{flat_meaning}
use Rattle.stores.specs.Meanings.{Meaning}
use Rattle.stores.specs.Overlays.{overlay_meaning, shown_over}
use Rattle.replay.specs.Calls.{Answer, Called}
use Rattle.replay.specs.declared.answer.Setback.{Setback}
use Rattle.replay.specs.declared.answer.Setback.TheVariants.{Fault, Trouble}
use Rattle.replay.specs.declared.command.Call.{Call}
use Rattle.replay.specs.declared.pile.Pile.{Pile}
use Rattle.replay.specs.declared.pile.Pile.TheVariants.{Empty, Bare, Once, Twice}
use Rattle.replay.specs.declared.trouble.Trouble.TheVariants.{NoMemory, NoStore, OverlaysFull}

abbrev pub top_of : Pile → Option Meaning
top_of Empty = None
top_of (Bare s) = Some (flat_meaning s)
top_of (Once s) = Some (overlay_meaning flat_meaning s)
top_of (Twice s) = Some (overlay_meaning (overlay_meaning flat_meaning) s)

-- a flat store was made of the bytes and so much space; or what stood stays, for want of memory or since the bytes are too many
abbrev pub Made : ℕ → Vec ℕ → Pile → Result (Unit {0}) Setback → Pile → Type 0
Made space bytes was r is =
    MatchResult r
    (λ _. top_of is ≡ Some (record { bytes = vec_items bytes; space = space }))
    (λ e. (is ≡ was) × ((e ≡ Trouble NoMemory) ⊎ ((longest < vec_len bytes) × (e ≡ Fault (refused StoreLength 0)))))

-- why there is no overlay over what stands
abbrev pub Bars : Pile → Setback → Type 0
Bars Empty e = e ≡ Trouble NoStore
Bars (Bare s) e = (longest < length (flat_meaning s).bytes) × (e ≡ Fault (refused StoreLength 0))
Bars (Once s) e = (longest < length (overlay_meaning flat_meaning s).bytes) × (e ≡ Fault (refused StoreLength 0))
Bars (Twice s) e = e ≡ Trouble OverlaysFull

-- an overlay shows all that was topmost; or what stood stays
abbrev pub Laid : Pile → Result (Unit {0}) Setback → Pile → Type 0
Laid was r is = MatchResult r (λ _. (m : Meaning) × (top_of was ≡ Some m) × (top_of is ≡ Some (shown_over m))) (λ e. (is ≡ was) × Bars was e)

-- a call goes to the topmost store
abbrev CalledAt : Option Meaning → Call → Answer → Option Meaning → Type 0
CalledAt None call r is = (r ≡ Err (Trouble NoStore)) × (is ≡ None)
CalledAt (Some m) call r is = (n : Meaning) × (is ≡ Some n) × Called m call r n

abbrev pub PileCalled : Pile → Call → Answer → Pile → Type 0
PileCalled was call r is = CalledAt (top_of was) call r (top_of is)
