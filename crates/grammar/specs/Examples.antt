-- An example of each relation, and of what is not spelled.
use Rattle.std.specs.Prelude.{ℕ, false, List, [], ◌∷◌, pos, negsuc, codes}
use Rattle.format.specs.Bytes.{Bytes}
use Rattle.format.specs.Objects.{Obj, integer, array, dict, ref, no_objs, more_objs, no_entries, more_entries}
use Rattle.format.specs.Tokens.{int, name, text, mark, open_dict, close_dict}
use Rattle.grammar.specs.Gaps.{Gap, LastGap}
use Rattle.grammar.specs.Indirect.{IndirectAt, WholeBody}
use Rattle.grammar.specs.Lexing.{Lexeme, lexeme, Lexed}
use Rattle.grammar.specs.Spellings.{Integer, Real, Name, Balanced, HexBytes}
use Rattle.grammar.specs.Streams.{BodyAt}
use Rattle.grammar.specs.Trees.{SpelledAt}

pub record Examples : Type 0 where
  pub gap : Gap (codes " %a\n\t")
  pub last_gap : LastGap (codes "\n%end")
  pub minus_forty_two : Integer false (negsuc 41) (codes "-042")
  pub half : Real (codes "-.5")
  pub hash : Name (codes "A#42") (codes "AB")
  pub brackets : Balanced 1 (codes "a(b\\))c")
  pub digits : HexBytes (codes "4 aF")
  pub tokens : Lexed 3 (codes "<</A#42 +7%c\n(a(b))>> ")
      (lexeme (mark open_dict) [] 3 (codes "<<") ∷ lexeme (name (codes "AB")) [] 5 (codes "/A#42") ∷ lexeme (int false (pos 7)) (codes " ") 11 (codes "+7")
      ∷ lexeme (text (codes "(a(b))")) (codes "%c\n") 16 (codes "(a(b))") ∷ lexeme (mark close_dict) [] 22 (codes ">>") ∷ [])
  pub references : SpelledAt 0 (codes "[1 0 R 2]x") (array (more_objs (ref 1 0) (more_objs (integer (pos 2)) no_objs))) 9 (codes "x")
  pub entries : SpelledAt 0 (codes "<</A [1 %\n2]>>") (dict (more_entries (codes "A") (codes "/A") (codes "[1 %\n2]") (array (more_objs (integer (pos 1)) (more_objs (integer (pos 2)) no_objs))) no_entries)) 14 []
  pub stream : BodyAt 0 (codes "<</Length 2>>stream\nab\nendstream ") (dict (more_entries (codes "Length") (codes "/Length") (codes "2") (integer (pos 2)) no_entries)) 32 (codes " ")
  pub indirect : IndirectAt 5 (codes "1 0 obj\n(pump)\nendobj\n") (record { number = 1; gen = 0; start = 13; body = codes "(pump)" }) 26 (codes "\n")
  pub whole : WholeBody (codes "[1 2]")
  -- `#00` stands for no byte, `1e5` is no number, and a `>` alone is no token
  pub no_zero : (ts : List Lexeme) → Lexed 0 (codes "/A#00") ts → ⊥
  pub no_power : (ts : List Lexeme) → Lexed 0 (codes "1e5") ts → ⊥
  pub no_mark : (ts : List Lexeme) → Lexed 0 (codes "1 >") ts → ⊥
  -- no key stands twice
  pub no_key_twice : (o : Obj) (q : ℕ) (rest : Bytes) → SpelledAt 0 (codes "<</A 1/#41 2>>") o q rest → ⊥
  -- CR alone does not end the line of `stream`
  pub no_cr : (o : Obj) (q : ℕ) (rest : Bytes) → BodyAt 0 (codes "<</Length 2>>stream\rab\nendstream") o q rest → ⊥
  -- a body that is put begins with no white space, and nothing stands behind it
  pub no_loose : WholeBody (codes " 1") → ⊥
  pub no_more : WholeBody (codes "1 ") → ⊥
