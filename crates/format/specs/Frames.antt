-- Streams, an object in the file, and a body that is put (ISO 32000-1, 7.3.8 and 7.3.10).
use Rattle.std.specs.Prelude.{ℕ, suc, ◌+◌, Bool, true, false, ◌||◌, [], ◌∷◌, length, drop, pos, negsuc, Some, None, codes, Option, ◌==◌, nat_le}
use Rattle.faults.specs.declared.fault.Fault.{Fault}
use Rattle.faults.specs.declared.reason.Reason.TheVariants.{BytesEnd, BadFrame, OutsideBody}
use Rattle.format.specs.Bytes.{Bytes, Got, ok, bad, then, end_of, up_to, is_regular, is_white}
use Rattle.format.specs.Failures.{object_fault}
use Rattle.format.specs.Space.{skip, Eol, no_bytes, no_eol, eol_to, eol_at}
use Rattle.format.specs.Tokens.{Kind, int, real, name, text, hex, mark, word, ended, flawed, flaw_fault, Token, token_at, start_at}
use Rattle.format.specs.Objects.{Obj, null, boolean, integer, decimal, literal, hexadecimal, named, array, dict, ref, Entries, value_of, plain_int, is_word, object}

-- a direct integer from 0 up
unfoldable pub length_of : Obj → Option ℕ
length_of (integer (pos n)) = Some n
length_of (integer (negsuc n)) = None
length_of null = None
length_of (boolean b) = None
length_of (decimal w) = None
length_of (literal w) = None
length_of (hexadecimal w) = None
length_of (named d) = None
length_of (array os) = None
length_of (dict es) = None
length_of (ref n g) = None

unfoldable pub entries_of : Obj → Option Entries
entries_of (dict es) = Some es
entries_of null = None
entries_of (boolean b) = None
entries_of (integer z) = None
entries_of (decimal w) = None
entries_of (literal w) = None
entries_of (hexadecimal w) = None
entries_of (named d) = None
entries_of (array os) = None
entries_of (ref n g) = None

-- the Length of a stream's dictionary
unfoldable pub length_here : Entries → Option ℕ
length_here es = elim (value_of (codes "Length") es) [ None ↦ None | Some o ↦ length_of o ]

-- LF or CR LF behind `stream`
unfoldable pub stream_line : ℕ → Bytes → Got Unit
stream_line p [] = bad (object_fault BytesEnd p)
stream_line p (x ∷ xs) =
    elim (x == 10) [
      | true ↦ ok tt (suc p) xs
      | false ↦
          elim (x == 13) [
            | true ↦
                elim xs [
                  | [] ↦ bad (object_fault BytesEnd (suc p))
                  | y ∷ ys ↦ elim (y == 10) [ true ↦ ok tt (suc (suc p)) ys | false ↦ bad (object_fault BadFrame p) ]
                ]
            | false ↦ bad (object_fault BadFrame p)
          ]
    ]

-- an optional end of line, taken where it stands
unfoldable pub maybe_eol : ℕ → Bytes → Eol → (ℕ × Bytes)
maybe_eol p xs no_bytes = (p, xs)
maybe_eol p xs no_eol = (p, xs)
maybe_eol p xs (eol_to q ys) = (q, ys)

-- the bytes begin with these; what is behind them
unfoldable pub behind : Bytes → Bytes → Option Bytes
behind [] xs = Some xs
behind (w ∷ ws) [] = None
behind (w ∷ ws) (x ∷ xs) = elim (w == x) [ true ↦ behind ws xs | false ↦ None ]

-- no regular byte stands next
unfoldable pub word_ends : Bytes → Bool
word_ends [] = true
word_ends (x ∷ xs) = elim (is_regular x) [ true ↦ false | false ↦ true ]

-- `endstream` at once, as a whole word. Behind a wrong Length these bytes are data, so they are not read as a token.
unfoldable pub end_stream : ℕ → Bytes → Got Unit
end_stream p xs =
    elim (behind (codes "endstream") xs) [
      | None ↦ bad (object_fault BadFrame p)
      | Some ys ↦ elim (word_ends ys) [ true ↦ ok tt (p + 9) ys | false ↦ bad (object_fault BadFrame p) ]
    ]

-- the data of a stream, an optional end of line, `endstream`
unfoldable pub stream_data : ℕ → ℕ → Bytes → Got Unit
stream_data len p xs =
    elim (nat_le len (length xs)) [
      | true ↦
          let q = p + len in
          let ys = drop len xs in
          let e = maybe_eol q ys (eol_at q ys) in
          end_stream e.0 e.1
      | false ↦ bad (object_fault BytesEnd (end_of p xs))
    ]

-- the rest of a stream, behind its word; Length is checked before the end of line
unfoldable pub stream_rest : Entries → Token → Got Unit
stream_rest es t =
    elim (length_here es) [
      | None ↦ bad (object_fault BadFrame t.from)
      | Some len ↦ then (stream_line t.to t.rest) (λ _ p xs. stream_data len p xs)
    ]

-- the object o up to the place q, or the stream that it begins; t is the token behind it
unfoldable pub streamed : Obj → ℕ → Bytes → Option Entries → Token → Got Obj
streamed o q ys None t = ok o q ys
streamed o q ys (Some es) t =
    elim (is_word (codes "stream") t.kind) [ true ↦ then (stream_rest es t) (λ _ r zs. ok o r zs) | false ↦ ok o q ys ]

-- an object, or a stream if it is a dictionary and the word `stream` follows
unfoldable pub body_at : ℕ → Bytes → Got Obj
body_at p xs = then (object p xs) (λ o q ys. streamed o q ys (entries_of o) (token_at q ys))

-- the fault of a part of an object's frame that is not what it should be
unfoldable pub unfit : ℕ → Kind → Fault
unfit p ended = object_fault BytesEnd p
unfit p (flawed f) = flaw_fault p f
unfit p (word w) = object_fault BadFrame p
unfit p (int u z) = object_fault BadFrame p
unfit p (real w) = object_fault BadFrame p
unfit p (name d) = object_fault BadFrame p
unfit p (text w) = object_fault BadFrame p
unfit p (hex w) = object_fault BadFrame p
unfit p (mark m) = object_fault BadFrame p

-- a token that has to be that word
unfoldable pub the_word : Bytes → Token → Got Unit
the_word w t = elim (is_word w t.kind) [ true ↦ ok tt t.to t.rest | false ↦ bad (unfit t.from t.kind) ]

-- a token that has to be an unsigned integer
unfoldable pub the_int : Token → Got ℕ
the_int t = elim (plain_int t.kind) [ Some n ↦ ok n t.to t.rest | None ↦ bad (unfit t.from t.kind) ]

-- an object in the file: its number, its generation, its body, and where the body starts
pub record Framed : Type 0 where
  pub number : ℕ
  pub gen : ℕ
  pub start : ℕ
  pub body : Bytes

-- the body, which starts behind white space, and `endobj`
unfoldable pub framed_body : ℕ → ℕ → (ℕ × Bytes) → Got Framed
framed_body n g s =
    then (body_at s.0 s.1)
    (λ o p xs.
    then (the_word (codes "endobj") (token_at p xs))
    (λ _ q ys. ok (record { number = n; gen = g; start = s.0; body = up_to s.0 s.1 p }) q ys))

-- the number stands right at the offset: white space or a comment there does not fit
unfoldable pub frame_number : ℕ → Bytes → Got ℕ
frame_number p xs = elim ((skip false p xs).0 == p) [ true ↦ the_int (start_at p xs) | false ↦ bad (object_fault BadFrame p) ]

-- `n g obj`, an object or stream, `endobj`
unfoldable pub frame : ℕ → Bytes → Got Framed
frame p xs =
    then (frame_number p xs)
    (λ n p₁ xs₁.
    then (the_int (token_at p₁ xs₁))
    (λ g p₂ xs₂. then (the_word (codes "obj") (token_at p₂ xs₂)) (λ _ p₃ xs₃. framed_body n g (skip false p₃ xs₃))))

-- how far the objects behind a body's start reach
unfoldable pub body_ends : Bytes → Got Obj → Option Fault
body_ends b (bad f) = Some f
body_ends b (ok o q []) = None
body_ends b (ok o q (x ∷ xs)) = Some (object_fault OutsideBody q)

-- white space or a comment stands first
unfoldable pub starts_loose : Bytes → Bool
starts_loose [] = false
starts_loose (x ∷ xs) = is_white x || x == 37

-- What refuses a body that is put: it is one object or stream, from its first byte to its last.
unfoldable pub body_fault : Bytes → Option Fault
body_fault b = elim (starts_loose b) [ true ↦ Some (object_fault OutsideBody 0) | false ↦ body_ends b (body_at 0 b) ]

-- what a proof by computation unfolds
unfoldable pub computes_frames : Unit {0}
unfolding length_of entries_of length_here stream_line maybe_eol behind word_ends end_stream stream_data stream_rest streamed body_at unfit the_word the_int framed_body frame_number frame body_ends starts_loose body_fault
computes_frames = tt
