-- Bytes, what a reader answers, and the classes of bytes (ISO 32000-1, 7.2.2 and 7.2.3).
use Rattle.std.specs.Prelude.{ℕ, suc, ◌+◌, ◌-◌, ◌*◌, Bool, true, false, not, ◌&&◌, ◌||◌, List, [], ◌∷◌, length, take, ◌==◌, nat_le}
use Rattle.faults.specs.declared.fault.Fault.{Fault}

abbrev pub Bytes : Type 0
Bytes = List ℕ

-- What a reader answers: a value, the place behind what it took and the bytes from there; or a fault.
-- A reader is given the place of the first byte and the bytes from there to the end of what it may see.
pub data Got (A : Type 0) : Type 0 where
  ok : A → ℕ → Bytes → Got A
  bad : Fault → Got A

-- one reader after another
abbrev pub then : {A B : Type 0} → Got A → (A → ℕ → Bytes → Got B) → Got B
then (ok a p xs) k = k a p xs
then (bad f) k = bad f

-- the place where the bytes xs, which start at p, end
unfoldable pub end_of : ℕ → Bytes → ℕ
end_of p xs = p + length xs

-- of the bytes xs, which start at p, those before the place q
unfoldable pub up_to : ℕ → Bytes → ℕ → Bytes
up_to p xs q = take (q - p) xs

-- NUL, TAB, LF, FF, CR and space
unfoldable pub is_white : ℕ → Bool
is_white c = c == 32 || (c == 10 || (c == 13 || (c == 9 || (c == 0 || c == 12))))

-- ( ) < > [ ] { } / %
unfoldable pub is_delimiter : ℕ → Bool
is_delimiter c =
    (c == 47) || (c == 40 || (c == 41 || (c == 60 || (c == 62 || (c == 91 || (c == 93 || (c == 123 || (c == 125 || c == 37))))))))

unfoldable pub is_regular : ℕ → Bool
is_regular c = not (is_white c) && not (is_delimiter c)

-- LF or CR
unfoldable pub is_eol : ℕ → Bool
is_eol c = c == 10 || c == 13

unfoldable pub is_digit : ℕ → Bool
is_digit c = nat_le 48 c && nat_le c 57

-- the longest front whose bytes pass the test, the place behind it, and the rest
unfoldable pub span : (ℕ → Bool) → ℕ → Bytes → (Bytes × ℕ × Bytes)
span f p [] = ([], p, [])
span f p (x ∷ xs) =
    elim (f x) [
      | true ↦ let r = span f (suc p) xs in (x ∷ r.0, r.1, r.2)
      | false ↦ ([], p, x ∷ xs)
    ]

-- every byte passes the test
unfoldable pub every : (ℕ → Bool) → Bytes → Bool
every f [] = true
every f (x ∷ xs) = f x && every f xs

-- some byte passes the test
unfoldable pub some : (ℕ → Bool) → Bytes → Bool
some f [] = false
some f (x ∷ xs) = f x || some f xs

-- the same bytes
unfoldable pub same : Bytes → Bytes → Bool
same [] [] = true
same [] (y ∷ ys) = false
same (x ∷ xs) [] = false
same (x ∷ xs) (y ∷ ys) = x == y && same xs ys

-- the number that decimal digits spell, behind those that spell n
unfoldable pub value_on : ℕ → Bytes → ℕ
value_on n [] = n
value_on n (d ∷ ds) = value_on (n * 10 + (d - 48)) ds

unfoldable pub value : Bytes → ℕ
value ds = value_on 0 ds

-- what a proof by computation unfolds
unfoldable pub computes_bytes : Unit {0}
unfolding end_of up_to is_white is_delimiter is_regular is_eol is_digit span every some same value_on value
computes_bytes = tt
