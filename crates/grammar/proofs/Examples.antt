-- The examples.
use Rattle.std.proofs.Common.{◌≡◌, ◌<◌, false, List, [], ◌∷◌, length, pos, negsuc, Some, None, codes, sym, refl, ◌∙◌, arith}
use Rattle.faults.specs.declared.fault.Fault.{Fault}
use Rattle.format.specs.Bytes.{Bytes, ok, bad, computes_bytes}
use Rattle.format.specs.Frames.{body_at, frame, body_fault, computes_frames}
use Rattle.format.specs.Names.{computes_names}
use Rattle.format.specs.Numbers.{computes_numbers}
use Rattle.format.specs.Objects.{integer, array, dict, ref, no_objs, more_objs, no_entries, more_entries, object, computes_objects}
use Rattle.format.specs.Space.{computes_space}
use Rattle.format.specs.Strings.{turns, computes_strings}
use Rattle.format.specs.Tokens.{int, name, text, mark, open_dict, close_dict, computes_tokens}
use Rattle.locality.proofs.Local.{never}
use Rattle.locality.proofs.Tests.{clash}
use Rattle.grammar.specs.Examples.{Examples}
use Rattle.grammar.specs.Gaps.{in_comment, Gap, LastGap}
use Rattle.grammar.specs.Indirect.{WholeBody}
use Rattle.grammar.specs.Lexing.{Lexeme, lexeme, Lexed}
use Rattle.grammar.specs.Reading.{met, before, tokens_in, tokens_of}
use Rattle.grammar.specs.Spellings.{Digits, Integer, Pointed, Real, HexDigit, Name, Balanced, HexBytes}
use Rattle.grammar.proofs.Indirect.{indirect_objects_are_spelled}
use Rattle.grammar.proofs.Lexing.{tokens_are_spelled}
use Rattle.grammar.proofs.Streams.{streams_are_spelled}
use Rattle.grammar.proofs.Trees.{objects_are_spelled}

computes : Unit {0}
unfolding computes_bytes computes_frames computes_names computes_numbers computes_objects computes_space computes_strings computes_tokens met before tokens_in tokens_of in_comment
computes = tt

gap : Gap (codes " %a\n\t")
unfolding computes
gap = Gap.white refl (Gap.comment (codes "a") 10 refl refl (Gap.white refl Gap.none))

last_gap : LastGap (codes "\n%end")
unfolding computes
last_gap = LastGap.unended (codes "end") (Gap.white refl Gap.none) refl

minus_forty_two : Integer false (negsuc 41) (codes "-042")
unfolding computes
minus_forty_two = Integer.minus (Digits.digits refl) (omega arith)

half : Real (codes "-.5")
unfolding computes
half = Real.minus (Pointed.point [] (codes "5") refl refl (omega arith))

hash : Name (codes "A#42") (codes "AB")
unfolding computes
hash = Name.byte refl refl (Name.code (HexDigit.digit {v = 4} (omega arith)) (HexDigit.digit {v = 2} (omega arith)) (omega arith) Name.none)

brackets : Balanced 1 (codes "a(b\\))c")
brackets = Balanced.byte refl refl refl (Balanced.part (Balanced.byte refl refl refl (Balanced.escape Balanced.none)) (Balanced.byte refl refl refl Balanced.none))

digits : HexBytes (codes "4 aF")
unfolding computes
digits = HexBytes.digit (HexDigit.digit {v = 4} (omega arith)) (HexBytes.white refl (HexBytes.digit (HexDigit.lower {v = 0} (omega arith)) (HexBytes.digit (HexDigit.upper {v = 5} (omega arith)) HexBytes.none)))

tokens_read : tokens_of 3 (codes "<</A#42 +7%c\n(a(b))>> ")
    ≡ Some (lexeme (mark open_dict) [] 3 (codes "<<") ∷ lexeme (name (codes "AB")) [] 5 (codes "/A#42") ∷ lexeme (int false (pos 7)) (codes " ") 11 (codes "+7")
    ∷ lexeme (text (codes "(a(b))")) (codes "%c\n") 16 (codes "(a(b))") ∷ lexeme (mark close_dict) [] 22 (codes ">>") ∷ [])
unfolding computes
tokens_read = refl

references_read : object 0 (codes "[1 0 R 2]x") ≡ ok (array (more_objs (ref 1 0) (more_objs (integer (pos 2)) no_objs))) 9 (codes "x")
unfolding computes
references_read = refl

entries_read : object 0 (codes "<</A [1 %\n2]>>") ≡ ok (dict (more_entries (codes "A") (codes "/A") (codes "[1 %\n2]") (array (more_objs (integer (pos 1)) (more_objs (integer (pos 2)) no_objs))) no_entries)) 14 []
unfolding computes
entries_read = refl

stream_read : body_at 0 (codes "<</Length 2>>stream\nab\nendstream ") ≡ ok (dict (more_entries (codes "Length") (codes "/Length") (codes "2") (integer (pos 2)) no_entries)) 32 (codes " ")
unfolding computes
stream_read = refl

indirect_read : frame 5 (codes "1 0 obj\n(pump)\nendobj\n") ≡ ok (record { number = 1; gen = 0; start = 13; body = codes "(pump)" }) 26 (codes "\n")
unfolding computes
indirect_read = refl

whole_read : body_fault (codes "[1 2]") ≡ None
unfolding computes
whole_read = refl

loose_refused : (f : Fault) × (body_fault (codes " 1") ≡ Some f)
unfolding computes
loose_refused = (_, refl)

more_refused : (f : Fault) × (body_fault (codes "1 ") ≡ Some f)
unfolding computes
more_refused = (_, refl)

put_refused : (b : Bytes) (f : Fault) → length b < turns → body_fault b ≡ Some f → WholeBody b → ⊥
put_refused b f h e w = clash (let z : Some f ≡ None = sym e ∙ indirect_objects_are_spelled.body_complete b h w in cc)

zero_refused : tokens_of 0 (codes "/A#00") ≡ None
unfolding computes
zero_refused = refl

power_refused : tokens_of 0 (codes "1e5") ≡ None
unfolding computes
power_refused = refl

mark_refused : tokens_of 0 (codes "1 >") ≡ None
unfolding computes
mark_refused = refl

twice_refused : (f : Fault) × (object 0 (codes "<</A 1/#41 2>>") ≡ bad f)
unfolding computes
twice_refused = (_, refl)

cr_refused : (f : Fault) × (body_at 0 (codes "<</Length 2>>stream\rab\nendstream") ≡ bad f)
unfolding computes
cr_refused = (_, refl)

refused : (xs : Bytes) → length xs < turns → tokens_of 0 xs ≡ None → (ts : List Lexeme) → Lexed 0 xs ts → ⊥
refused xs h e ts l = clash (let z : None ≡ Some ts = sym e ∙ tokens_are_spelled.complete 0 xs ts h l in cc)

pub examples : Examples
examples = record {
  gap = gap;
  last_gap = last_gap;
  minus_forty_two = minus_forty_two;
  half = half;
  hash = hash;
  brackets = brackets;
  digits = digits;
  tokens = tokens_are_spelled.sound 3 _ _ tokens_read;
  references = objects_are_spelled.sound 0 _ _ _ _ (omega arith) references_read;
  entries = objects_are_spelled.sound 0 _ _ _ _ (omega arith) entries_read;
  stream = streams_are_spelled.sound 0 _ _ _ _ (omega arith) stream_read;
  indirect = indirect_objects_are_spelled.sound 5 _ _ _ _ (omega arith) indirect_read;
  whole = indirect_objects_are_spelled.body_sound _ (omega arith) whole_read;
  no_zero = refused (codes "/A#00") (omega arith) zero_refused;
  no_power = refused (codes "1e5") (omega arith) power_refused;
  no_mark = refused (codes "1 >") (omega arith) mark_refused;
  no_key_twice = λ o q rest s. never (sym twice_refused.1 ∙ objects_are_spelled.complete 0 _ o q rest (omega arith) s);
  no_loose = put_refused (codes " 1") loose_refused.0 (omega arith) loose_refused.1;
  no_more = put_refused (codes "1 ") more_refused.0 (omega arith) more_refused.1;
  no_cr = λ o q rest s. never (sym cr_refused.1 ∙ streams_are_spelled.complete 0 _ o q rest (omega arith) s);
}
