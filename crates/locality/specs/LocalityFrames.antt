-- What the readers of streams and of objects in the file took decides what they answer; and a written object reads back.
use Rattle.std.specs.Prelude.{◌≡◌, ℕ, ◌+◌, ◌≤◌, Bool, true, false, ◌∷◌, ◌++◌, length, None, codes}
use Rattle.format.specs.Bytes.{Bytes, ok, is_regular}
use Rattle.format.specs.Frames.{Framed, body_at, frame, body_fault}
use Rattle.format.specs.Objects.{Obj, is_word}
use Rattle.format.specs.Tokens.{token_at}
use Rattle.format.specs.Writing.{decimal, framed_bytes}
use Rattle.locality.specs.Locality.{stops}
use Rattle.locality.specs.LocalityObjects.{is_number, NoRef}

-- Bytes that do not lengthen a body, an object o or a stream with that dictionary: no regular byte where `edged`, no generation and `R` behind an integer, and not the word `stream`.
pub record Follows (edged : Bool) (o : Obj) (ys : Bytes) : Type 0 where
  pub edge : edged ≡ true → stops is_regular ys ≡ true
  pub alone : is_number o ≡ true → NoRef ys
  pub no_stream : (p : ℕ) → is_word (codes "stream") (token_at p ys).kind ≡ false

-- The body o, read from the place p, where the bytes are xs, up to the place q: the bytes that were taken, and whether a regular byte would lengthen them.
-- Before any other bytes that do not, from any place, the reader takes the same bytes and answers the same.
pub record LocalBody (p : ℕ) (xs : Bytes) (o : Obj) (q : ℕ) (rest : Bytes) : Type 0 where
  pub taken : Bytes
  pub edged : Bool
  pub parts : xs ≡ taken ++ rest
  pub ends : q ≡ p + length taken
  pub fits : edged ≡ true → stops is_regular rest ≡ true
  pub again : (p' : ℕ) (ys : Bytes) → Follows edged o ys → body_at p' (taken ++ ys) ≡ ok o (p' + length taken) ys

-- The object in the file r, read from the place p up to the place q: the bytes that were taken.
-- Before any other bytes that do not begin with a regular one, from the same place, the reader takes the same bytes and answers the same.
pub record LocalFrame (p : ℕ) (xs : Bytes) (r : Framed) (q : ℕ) (rest : Bytes) : Type 0 where
  pub taken : Bytes
  pub parts : xs ≡ taken ++ rest
  pub ends : q ≡ p + length taken
  pub fits : stops is_regular rest ≡ true
  pub again : (ys : Bytes) → stops is_regular ys ≡ true → frame p (taken ++ ys) ≡ ok r q ys

-- what the readers of bodies and of objects in the file took decides what they answer
pub record FramesAreLocal : Type 0 where
  pub bodies : (p : ℕ) (xs : Bytes) (o : Obj) (q : ℕ) (rest : Bytes) → body_at p xs ≡ ok o q rest → LocalBody p xs o q rest
  pub frames : (p : ℕ) (xs : Bytes) (r : Framed) (q : ℕ) (rest : Bytes) → frame p xs ≡ ok r q rest → LocalFrame p xs r q rest

-- A body that may be put, written as an object in the file with its number and generation, reads back as that object, at any place and before any bytes.
abbrev pub WrittenObjectsReadBack : Type 0
WrittenObjectsReadBack =
    (n g p : ℕ) (b ys : Bytes) → n ≤ 2147483647 → g ≤ 2147483647 → body_fault b ≡ None →
    frame p (framed_bytes n g b ++ ys)
    ≡ ok (record { number = n; gen = g; start = p + length (decimal n) + length (decimal g) + 6; body = b }) (p + length (decimal n) + length (decimal g) + length b + 13) (10 ∷ ys)
