-- Objects without what stands inside them.
use Rattle.std.specs.Prelude.{Bool, true, false, Some, None, Option}
use Rattle.format.specs.Bytes.{Got, ok, bad}
use Rattle.format.specs.Objects.{Obj, null, boolean, integer, decimal, literal, hexadecimal, named, array, dict, ref}
use Rattle.objects.specs.declared.shape.Shape.{Shape}
use Rattle.objects.specs.declared.shape.Value.{Value}
use Rattle.objects.specs.declared.shape.Shape.TheVariants.{Null, Boolean, Integer, Real, Text, Hex, Name, Array, Dictionary, Reference}

abbrev pub shape_of : Obj → Shape
shape_of null = Null
shape_of (boolean b) = Boolean b
shape_of (integer z) = Integer z
shape_of (decimal w) = Real
shape_of (literal w) = Text
shape_of (hexadecimal w) = Hex
shape_of (named d) = Name
shape_of (array os) = Array
shape_of (dict es) = Dictionary
shape_of (ref n g) = Reference n g

-- an answer without what stands inside the object
abbrev pub shaped : Got Obj → Got Shape
shaped (ok o q ys) = ok (shape_of o) q ys
shaped (bad f) = bad f

abbrev pub shaped_maybe : Option Obj → Option Shape
shaped_maybe (Some o) = Some (shape_of o)
shaped_maybe None = None

abbrev pub shape_in : Option Value → Option Shape
shape_in (Some v) = Some v.shape
shape_in None = None

abbrev pub is_dict : Shape → Bool
is_dict Dictionary = true
is_dict Null = false
is_dict (Boolean b) = false
is_dict (Integer z) = false
is_dict Real = false
is_dict Text = false
is_dict Hex = false
is_dict Name = false
is_dict Array = false
is_dict (Reference n g) = false
