-- Tokens (ISO 32000-1, 7.2.3 and 7.3).
use Rattle.std.specs.Prelude.{ℕ, suc, Bool, true, false, [], ◌∷◌, ℤ, ◌==◌}
use Rattle.faults.specs.declared.fault.Fault.{Fault}
use Rattle.faults.specs.declared.reason.Reason.TheVariants.{BytesEnd, BadToken, TooDeep, IntegerRange}
use Rattle.format.specs.Bytes.{Bytes, end_of, up_to, is_regular, span}
use Rattle.format.specs.Failures.{token_fault}
use Rattle.format.specs.Space.{skip}
use Rattle.format.specs.Numbers.{Numeral, whole, fraction, past_bound, no_number, starts_number, numeral}
use Rattle.format.specs.Names.{Decoded, decoded, wrong_hash, plain, decode}
use Rattle.format.specs.Strings.{Span, closed, unclosed, too_deep_at, broken_at, string, hex_string}

-- the marks that open and close arrays and dictionaries
pub data Mark : Type 0 where
  open_array : Mark
  close_array : Mark
  open_dict : Mark
  close_dict : Mark

-- what is wrong with the bytes where a token should be, and where
pub data Flaw : Type 0 where
  -- a name, at the `#` that is wrong
  bad_name : (at : ℕ) → Flaw
  -- a number, at the first byte that cannot continue one, else its end
  bad_number : (at : ℕ) → Flaw
  -- a hex string, at the first byte that is no digit, white space or `>`
  bad_hex : (at : ℕ) → Flaw
  -- a mark with which no token starts
  stray : Flaw
  -- the bytes end inside the token
  cut_short : (end : ℕ) → Flaw
  -- a bracket of a literal string nests too deep
  deep_bracket : (at : ℕ) → Flaw
  -- an integer past its bound
  out_of_range : Flaw

-- Today's fault for a flaw of the token that starts at p.
unfoldable pub flaw_fault : ℕ → Flaw → Fault
flaw_fault p (bad_name q) = token_fault BadToken p
flaw_fault p (bad_number q) = token_fault BadToken p
flaw_fault p (bad_hex q) = token_fault BadToken p
flaw_fault p stray = token_fault BadToken p
flaw_fault p (cut_short e) = token_fault BytesEnd e
flaw_fault p (deep_bracket q) = token_fault TooDeep q
flaw_fault p out_of_range = token_fault IntegerRange p

-- what stands at a place
pub data Kind : Type 0 where
  -- an integer, and whether it has no sign
  int : (unsigned : Bool) → ℤ → Kind
  -- a real, with its bytes
  real : Bytes → Kind
  -- a name, with the bytes that it stands for
  name : Bytes → Kind
  -- a literal string, with its bytes from `(` to `)`
  text : Bytes → Kind
  -- a hex string, with its bytes from `<` to `>`
  hex : Bytes → Kind
  mark : Mark → Kind
  -- any other regular bytes: what they mean depends on where they stand
  word : Bytes → Kind
  -- the bytes end here
  ended : Kind
  -- no token can be read here
  flawed : Flaw → Kind

-- a token: what it is, its first place, the place behind it, the bytes from its first on, and the bytes behind it
pub record Token : Type 0 where
  pub kind : Kind
  pub from : ℕ
  pub to : ℕ
  pub bytes : Bytes
  pub rest : Bytes

abbrev pub tok : Kind → ℕ → Bytes → ℕ → Bytes → Token
tok k p xs q ys = record { kind = k; from = p; to = q; bytes = xs; rest = ys }

-- a mark of one byte
abbrev pub one_byte : Kind → ℕ → ℕ → Bytes → Token
one_byte k p x xs = tok k p (x ∷ xs) (suc p) xs

-- the string at p whose bytes from there are xs
unfoldable pub string_token : (Bytes → Kind) → (ℕ → Flaw) → ℕ → Bytes → Span → Token
string_token k f p xs (closed q ys) = tok (k (up_to p xs q)) p xs q ys
string_token k f p xs unclosed = tok (flawed (cut_short (end_of p xs))) p xs p xs
string_token k f p xs (too_deep_at q) = tok (flawed (deep_bracket q)) p xs p xs
string_token k f p xs (broken_at q) = tok (flawed (f q)) p xs p xs

-- `<<`, or a hex string
unfoldable pub after_less : ℕ → ℕ → Bytes → Token
after_less p x [] = one_byte (flawed (cut_short (suc p))) p x []
after_less p x (y ∷ ys) =
    elim (y == 60) [
      | true ↦ tok (mark open_dict) p (x ∷ y ∷ ys) (suc (suc p)) ys
      | false ↦ string_token hex bad_hex p (x ∷ y ∷ ys) (hex_string (suc p) (y ∷ ys))
    ]

-- `>>`; a `>` alone closes nothing
unfoldable pub after_greater : ℕ → ℕ → Bytes → Token
after_greater p x [] = one_byte (flawed (cut_short (suc p))) p x []
after_greater p x (y ∷ ys) =
    elim (y == 62) [
      | true ↦ tok (mark close_dict) p (x ∷ y ∷ ys) (suc (suc p)) ys
      | false ↦ one_byte (flawed stray) p x (y ∷ ys)
    ]

unfoldable pub name_kind : Decoded → Kind
name_kind (decoded d) = name d
name_kind (wrong_hash q) = flawed (bad_name q)

-- a name, from behind its `/`: possibly no byte
unfoldable pub name_token : ℕ → ℕ → Bytes → (Bytes × ℕ × Bytes) → Token
name_token p x xs r = tok (name_kind (decode plain (suc p) r.0)) p (x ∷ xs) r.1 r.2

-- a token that starts with the delimiter x
unfoldable pub marked : ℕ → ℕ → Bytes → Token
marked p x xs =
    elim (x == 47) [
      | true ↦ name_token p x xs (span is_regular (suc p) xs)
      | false ↦
          elim (x == 40) [
            | true ↦ string_token text (λ q. stray) p (x ∷ xs) (string p xs)
            | false ↦
                elim (x == 60) [
                  | true ↦ after_less p x xs
                  | false ↦
                      elim (x == 62) [
                        | true ↦ after_greater p x xs
                        | false ↦
                            elim (x == 91) [
                              | true ↦ one_byte (mark open_array) p x xs
                              | false ↦
                                  elim (x == 93) [
                                    | true ↦ one_byte (mark close_array) p x xs
                                    | false ↦ one_byte (flawed stray) p x xs
                                  ]
                            ]
                      ]
                ]
          ]
    ]

unfoldable pub numeral_kind : Bytes → Numeral → Kind
numeral_kind w (whole u z) = int u z
numeral_kind w fraction = real w
numeral_kind w past_bound = flawed out_of_range
numeral_kind w (no_number q) = flawed (bad_number q)

-- regular bytes: a number if they start like one, else a word
unfoldable pub run_kind : ℕ → ℕ → Bytes → Kind
run_kind p x run = elim (starts_number x) [ true ↦ numeral_kind run (numeral p run) | false ↦ word run ]

unfoldable pub run_token : ℕ → ℕ → Bytes → (Bytes × ℕ × Bytes) → Token
run_token p x xs r = tok (run_kind p x (x ∷ r.0)) p (x ∷ xs) r.1 r.2

-- the token that starts at p
unfoldable pub start_at : ℕ → Bytes → Token
start_at p [] = tok ended p [] p []
start_at p (x ∷ xs) =
    elim (is_regular x) [ true ↦ run_token p x xs (span is_regular (suc p) xs) | false ↦ marked p x xs ]

-- the next token, behind white space and comments
unfoldable pub token_at : ℕ → Bytes → Token
token_at p xs = let s = skip false p xs in start_at s.0 s.1

-- what a proof by computation unfolds
unfoldable pub computes_tokens : Unit {0}
unfolding flaw_fault string_token after_less after_greater name_kind name_token marked numeral_kind run_kind run_token start_at token_at
computes_tokens = tt
