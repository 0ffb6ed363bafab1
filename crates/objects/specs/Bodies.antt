-- What the readers of bodies answer, as the definitions say it.
use Rattle.std.specs.Prelude.{◌≡◌, ℕ, true, false, drop, ℤ, pos, negsuc, Some, None, Ok, Err, codes, Option, Result}
use Rattle.faults.specs.declared.fault.Fault.{Fault}
use Rattle.faults.specs.declared.reason.Reason.TheVariants.{BadFrame}
use Rattle.format.specs.Bytes.{Bytes, Got, bad, then}
use Rattle.format.specs.Failures.{object_fault}
use Rattle.format.specs.Strings.{turns}
use Rattle.format.specs.Frames.{stream_line, stream_data}
use Rattle.objects.specs.declared.shape.Shape.{Shape}
use Rattle.objects.specs.declared.shape.Shape.TheVariants.{Null, Boolean, Integer, Real, Text, Hex, Name, Array, Dictionary, Reference}
use Rattle.objects.specs.Shapes.{shape_in}
use Rattle.format.specs.Objects.{is_word}
use Rattle.objects.specs.Steps.{token_in, EndsAt}
use Rattle.objects.specs.Extents.{read_by, find}

-- an integer from 0 up
abbrev pub natural_of : ℤ → Option ℕ
natural_of (pos n) = Some n
natural_of (negsuc n) = None

-- a direct integer from 0 up
abbrev pub length_shape : Option Shape → Option ℕ
length_shape None = None
length_shape (Some (Integer z)) = natural_of z
length_shape (Some Null) = None
length_shape (Some (Boolean b)) = None
length_shape (Some Real) = None
length_shape (Some Text) = None
length_shape (Some Hex) = None
length_shape (Some Name) = None
length_shape (Some Array) = None
length_shape (Some Dictionary) = None
length_shape (Some (Reference n g)) = None

-- the Length among the entries from a place on
abbrev pub length_in : Bytes → ℕ → Option ℕ
length_in src first = length_shape (shape_in (find (read_by false 31) turns (codes "Length") None first (drop first src)))

-- the rest of a stream with that Length, whose word stands at w, from behind the word
abbrev pub rest_got : Option ℕ → (w q : ℕ) → Bytes → Got Unit
rest_got None w q ys = bad (object_fault BadFrame w)
rest_got (Some len) w q ys = then (stream_line q ys) (λ _ p xs. stream_data len p xs)

-- the word `stream` stands next, from one place to another
abbrev pub StreamWord : Bytes → ℕ → Option (ℕ × ℕ) → Type 0
StreamWord src p (Some w) = (is_word (codes "stream") (token_in src p).kind ≡ true) × ((token_in src p).from ≡ w.0) × EndsAt src p w.1
StreamWord src p None = is_word (codes "stream") (token_in src p).kind ≡ false

-- a refusal
abbrev pub fault_in : {A : Type 0} → Result A Fault → Option Fault
fault_in (Ok x) = None
fault_in (Err f) = Some f
