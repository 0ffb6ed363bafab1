-- What a trailer says, in code and as the format has it.
use Rattle.std.specs.Prelude.{Some, None, Option}
use Rattle.format.specs.Chain as format
use Rattle.objects.specs.declared.shape.Shape.{Shape}
use Rattle.objects.specs.declared.shape.Shape.TheVariants as shapes
use Rattle.opening.specs.declared.told.Told.{Told}
use Rattle.opening.specs.declared.told.Kind.{Kind}
use Rattle.opening.specs.declared.told.Kind.TheVariants.{Absent, Number, Reference, Other}

abbrev pub kind_of : Kind → format.Entry
kind_of Absent = format.absent
kind_of (Number z) = format.number z
kind_of (Reference n g) = format.reference n g
kind_of Other = format.other

-- what a value is to a trailer
abbrev pub kind_in : Option Shape → format.Entry
kind_in None = format.absent
kind_in (Some shapes.Null) = format.absent
kind_in (Some (shapes.Integer z)) = format.number z
kind_in (Some (shapes.Reference n g)) = format.reference n g
kind_in (Some (shapes.Boolean b)) = format.other
kind_in (Some shapes.Real) = format.other
kind_in (Some shapes.Text) = format.other
kind_in (Some shapes.Hex) = format.other
kind_in (Some shapes.Name) = format.other
kind_in (Some shapes.Array) = format.other
kind_in (Some shapes.Dictionary) = format.other

abbrev pub told_of : Option Told → Option format.Told
told_of None = None
told_of (Some t) = Some (record { size = t.size; prev = t.prev; root = t.root; root_gen = t.root_generation })
