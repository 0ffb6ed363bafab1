-- How a file begins and how it ends (ISO 32000-1, 7.5.2 and 7.5.5).
use Rattle.std.specs.Prelude.{◌≡◌, ℕ, ◌≤◌, true, [], ◌∷◌, ◌++◌, length, codes}
use Rattle.format.specs.Bytes.{Bytes, is_digit, every, value}

-- a header: `%PDF-1.` and a digit 0 to 7
pub record Headed (file : Bytes) : Type 0 where
  pub digit : ℕ
  pub low : 48 ≤ digit
  pub high : digit ≤ 55
  pub rest : Bytes
  pub is : file ≡ codes "%PDF-1." ++ (digit ∷ rest)

-- an end of line: LF, CR or CR LF
pub data Ending : Type 0 where
  lf : Ending
  cr : Ending
  crlf : Ending

abbrev pub ending : Ending → Bytes
ending lf = 10 ∷ []
ending cr = 13 ∷ []
ending crlf = 13 ∷ 10 ∷ []

-- one to ten digits that spell the number n
pub record Spelt (n : ℕ) (ds : Bytes) : Type 0 where
  pub some : 1 ≤ length ds
  pub few : length ds ≤ 10
  pub digits : every is_digit ds ≡ true
  pub spells : value ds ≡ n

-- a tail that gives the number n: `startxref`, digits, `%%EOF`, each a line
pub record Tail (n : ℕ) (xs : Bytes) : Type 0 where
  pub digits : Bytes
  pub spelt : Spelt n digits
  pub word : Ending
  pub number : Ending
  pub mark : Ending
  pub is : xs ≡ codes "startxref" ++ (ending word ++ (digits ++ (ending number ++ (codes "%%EOF" ++ ending mark))))

-- the last bytes of a file are a tail that gives the number n
pub record EndsWithTail (file : Bytes) (n : ℕ) : Type 0 where
  pub front : Bytes
  pub last : Bytes
  pub is : file ≡ front ++ last
  pub tail : Tail n last
