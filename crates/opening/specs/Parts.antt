-- What a reader of a part of a line answers, as the definitions say it. They count places from the start of the file, the code from the start of
-- its window: the window may begin at any place of a file.
use Rattle.std.specs.Prelude.{◌≡◌, ℕ, ◌+◌, ◌<◌, ◌≤◌, length, drop, Ok, Err, Result}
use Rattle.format.specs.Bytes.{Bytes}
use Rattle.format.specs.Lines.{Piece, took, short, misfit}
use Rattle.lexer.specs.declared.line.Lack.{Lack}
use Rattle.lexer.specs.declared.line.Lack.TheVariants.{Short, Misfit}

-- a part that lacks something
abbrev pub lacking : {A : Type 0} → Lack → Piece A
lacking Short = short
lacking Misfit = misfit

-- a part that ends at a place of the window src, which begins at the place base
abbrev pub passed : (base : ℕ) → Bytes → Result ℕ Lack → Piece Unit
passed base src (Ok q) = took tt (base + q) (drop q src)
passed base src (Err e) = lacking e

-- a part with its value
abbrev pub taken : {T A : Type 0} → (T → A) → (base : ℕ) → Bytes → Result (T × ℕ) Lack → Piece A
taken value base src (Ok x) = took (value x.0) (base + x.1) (drop x.1 src)
taken value base src (Err e) = lacking e

-- it ends from p on, and in the bytes
abbrev pub PassesWithin : Bytes → ℕ → Result ℕ Lack → Type 0
PassesWithin src p (Ok q) = (p ≤ q) × (q ≤ length src)
PassesWithin src p (Err e) = Unit {0}

abbrev pub TakesWithin : {T : Type 0} → Bytes → ℕ → Result (T × ℕ) Lack → Type 0
TakesWithin src p (Ok x) = (p ≤ x.1) × (x.1 ≤ length src)
TakesWithin src p (Err e) = Unit {0}

-- the part that starts at p of the window src was read
pub record Passes (part : ℕ → Bytes → Piece Unit) (src : Bytes) (p : ℕ) (r : Result ℕ Lack) : Type 0 where
  pub is : (base : ℕ) → part (base + p) (drop p src) ≡ passed base src r
  pub within : PassesWithin src p r

-- the same of a part with a value
pub record Takes {T A : Type 0} (value : T → A) (part : ℕ → Bytes → Piece A) (src : Bytes) (p : ℕ) (r : Result (T × ℕ) Lack) : Type 0 where
  pub is : (base : ℕ) → part (base + p) (drop p src) ≡ taken value base src r
  pub within : TakesWithin src p r

-- the number that was read lies below a bound
abbrev pub Below : ℕ → Result (ℕ × ℕ) Lack → Type 0
Below n (Ok x) = x.0 < n
Below n (Err e) = Unit {0}

abbrev pub BothBelow : ℕ → Result ((ℕ × ℕ) × ℕ) Lack → Type 0
BothBelow n (Ok x) = (x.0.0 < n) × (x.0.1 < n)
BothBelow n (Err e) = Unit {0}
