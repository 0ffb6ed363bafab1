-- One part of a line after another.
use Rattle.std.proofs.Common.{◌≡◌, ℕ, ◌+◌, ◌≤◌, drop, Ok, Err, IsErrAnd, Result, ap, ◌∙◌, arith}
use Rattle.format.specs.Bytes.{Bytes}
use Rattle.format.specs.Lines.{Piece, took, next}
use Rattle.lexer.specs.declared.line.Lack.{Lack}
use Rattle.lexer.specs.declared.line.Lack.TheVariants.{Short, Misfit}
use Rattle.opening.specs.Parts.{lacking, PassesWithin, Passes, Takes}
use Rattle.opening.proofs.Readings.{exit_is}

-- what a part lacks, the line lacks
pub cut : {A B : Type 0} (x : Piece A) (k : A → ℕ → Bytes → Piece B) (e : Lack) → x ≡ lacking e → next x k ≡ lacking e
cut x k Short is = rw is
cut x k Misfit is = rw is

-- behind a part that was taken
pub on : {A B : Type 0} (x : Piece A) (k : A → ℕ → Bytes → Piece B) {a : A} {q : ℕ} {ys : Bytes} {z : Piece B} → x ≡ took a q ys → k a q ys ≡ z → next x k ≡ z
on x k is was = ap (λ y. next y k) is ∙ was

-- the exit of a `?`, where a line lacks something
pub line_lacks : {part : ℕ → Bytes → Piece Unit} {src : Bytes} {p : ℕ} {z : Result ℕ Lack} (e : Lack) → IsErrAnd z (λ y. y ≡ e) → ((base : ℕ) → part (base + p) (drop p src) ≡ lacking e) → Passes part src p z
line_lacks {z = z} e exit why = rw (exit_is z e exit) (record { is = why; within = tt })

pub row_lacks : {T A : Type 0} {value : T → A} {part : ℕ → Bytes → Piece A} {src : Bytes} {p : ℕ} {z : Result (T × ℕ) Lack} (e : Lack) → IsErrAnd z (λ y. y ≡ e) → ((base : ℕ) → part (base + p) (drop p src) ≡ lacking e) → Takes value part src p z
row_lacks {z = z} e exit why = rw (exit_is z e exit) (record { is = why; within = tt })

-- what ends from q on ends from p on, where p is not behind q
pub passes_from : (src : Bytes) (p q : ℕ) (r : Result ℕ Lack) → p ≤ q → PassesWithin src q r → PassesWithin src p r
passes_from src p q (Ok x) h w = (omega (arith, w.0), w.1)
passes_from src p q (Err e) h w = tt

-- The same of a reader that stands there, by what `to` says of it.
module _ {src S : Bytes} {p P : ℕ} (same : S ≡ src) (stands : P ≡ p) where
  pub line_there : {part : ℕ → Bytes → Piece Unit} {r : Result ℕ Lack} → Passes part S P r → Passes part src p r
  line_there {part} {r} read = let f : Passes part src p r = rw (same, stands) at read in f

  pub row_there : {T A : Type 0} {value : T → A} {part : ℕ → Bytes → Piece A} {r : Result (T × ℕ) Lack} → Takes value part S P r → Takes value part src p r
  row_there {value = value} {part = part} {r = r} read = let f : Takes value part src p r = rw (same, stands) at read in f
