-- How each command is written.
use Rattle.std.specs.Prelude.{◌≡◌, ℕ, List, [], ◌∷◌, vec_items, codes}
use Rattle.std.specs.Global.{Vec}
use Rattle.replay.specs.Hex.{hex_of, HexText}
use Rattle.replay.specs.Lines.{Took, words_of}
pub use Rattle.numerals.specs.Numbers.{NumberIn}
use Rattle.replay.specs.declared.command.Call.{Call}
use Rattle.replay.specs.declared.command.Call.TheVariants.{Append, Cut, Byte, Bytes}
use Rattle.replay.specs.declared.command.Command.{Command}
use Rattle.replay.specs.declared.command.Command.TheVariants.{Flat, Overlay, Store, Read}
use Rattle.replay.specs.declared.command.Reading.{Reading}
use Rattle.replay.specs.declared.command.Reading.TheVariants.{Tokens, Object, Body, Frame}

abbrev pub BytesIn : Vec ℕ → List ℕ → Type 0
BytesIn bytes word = HexText word × (hex_of (vec_items bytes) ≡ word)

-- a number and then bytes
pub record NumberAndBytes (n : ℕ) (bytes : Vec ℕ) (was is : List (List ℕ)) : Type 0 where
  pub between : List (List ℕ)
  pub first : Took (NumberIn n) was between
  pub second : Took (BytesIn bytes) between is

abbrev SpellsCall : Call → List ℕ → List (List ℕ) → List (List ℕ) → Type 0
SpellsCall (Append bytes) name was is = (name ≡ codes "append") × Took (BytesIn bytes) was is
SpellsCall (Cut n) name was is = (name ≡ codes "cut") × Took (NumberIn n) was is
SpellsCall (Byte place) name was is = (name ≡ codes "byte") × Took (NumberIn place) was is
SpellsCall Bytes name was is = (name ≡ codes "bytes") × (is ≡ was)

abbrev SpellsReading : Reading → List ℕ → List (List ℕ) → List (List ℕ) → Type 0
SpellsReading (Tokens bytes) name was is = (name ≡ codes "token") × Took (BytesIn bytes) was is
SpellsReading (Object bytes) name was is = (name ≡ codes "object") × Took (BytesIn bytes) was is
SpellsReading (Body bytes) name was is = (name ≡ codes "body") × Took (BytesIn bytes) was is
SpellsReading (Frame place bytes) name was is = (name ≡ codes "frame") × NumberAndBytes place bytes was is

-- the name, and what is taken of the words behind it
abbrev pub Spells : Command → List ℕ → List (List ℕ) → List (List ℕ) → Type 0
Spells (Flat space bytes) name was is = (name ≡ codes "flat") × NumberAndBytes space bytes was is
Spells Overlay name was is = (name ≡ codes "overlay") × (is ≡ was)
Spells (Store call) name was is = SpellsCall call name was is
Spells (Read reading) name was is = SpellsReading reading name was is

-- a whole line
pub record Written (command : Command) (line : List ℕ) : Type 0 where
  pub name : List ℕ
  pub rest : List (List ℕ)
  pub words : words_of line ≡ name ∷ rest
  pub spelled : Spells command name rest []
