-- What the bench calls each token of the definitions.
use Rattle.std.specs.Prelude.{cond, Some, None, codes, Option}
use Rattle.format.specs.Bytes.{Bytes, same}
use Rattle.format.specs.Tokens as format
use Rattle.replay.specs.declared.sort.Sort.{Sort}
use Rattle.replay.specs.declared.sort.Sort.TheVariants.{Integer, Real, Name, Text, Hex, OpenArray, CloseArray, OpenDict, CloseDict, True, False, Null, Reference, Object, EndObject, Stream, EndStream, Word}

abbrev pub word_sort : Bytes → Sort
word_sort w =
    cond (same w (codes "true")) True
    (cond (same w (codes "false")) False
    (cond (same w (codes "null")) Null
    (cond (same w (codes "R")) Reference
    (cond (same w (codes "obj")) Object
    (cond (same w (codes "endobj")) EndObject
    (cond (same w (codes "stream")) Stream
    (cond (same w (codes "endstream")) EndStream Word)))))))

abbrev pub mark_sort : format.Mark → Sort
mark_sort format.open_array = OpenArray
mark_sort format.close_array = CloseArray
mark_sort format.open_dict = OpenDict
mark_sort format.close_dict = CloseDict

-- the end of the bytes is no token, nor is what cannot be read
abbrev pub sort_of : format.Kind → Option Sort
sort_of (format.int u z) = Some Integer
sort_of (format.real w) = Some Real
sort_of (format.name d) = Some Name
sort_of (format.text w) = Some Text
sort_of (format.hex w) = Some Hex
sort_of (format.mark m) = Some (mark_sort m)
sort_of (format.word w) = Some (word_sort w)
sort_of format.ended = None
sort_of (format.flawed f) = None
