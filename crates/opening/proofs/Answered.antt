-- The fault of a line, by what the line lacks.
use Rattle.std.proofs.Common.{◌≡◌, ℕ, ◌+◌, ◌<◌, ◌≤◌, length, drop, IfOk, Ok, Err, IsErrAnd, MatchResult, Result, sym, refl, ap, ◌∙◌, arith, length-drop}
use Rattle.faults.specs.declared.fault.Fault.{Fault}
use Rattle.faults.specs.declared.reason.Reason.TheVariants.{BytesEnd}
use Rattle.format.specs.Bytes.{Bytes, Got, ok, bad, then, end_of}
use Rattle.format.specs.Failures.{section_fault}
use Rattle.format.specs.Lines.{Piece, placed}
use Rattle.lexer.specs.declared.line.Lack.{Lack}
use Rattle.lexer.specs.declared.line.Lack.TheVariants.{Short, Misfit}
use Rattle.opening.specs.Answers.{lack_fault, piece_here, answered, passed_to, EndsWithin}
use Rattle.opening.specs.Parts.{passed, taken, PassesWithin, TakesWithin, Passes, Takes, BothBelow}
use Rattle.opening.specs.Readings.{got_by}
use Rattle.opening.proofs.Readings.{exit_is}

-- the window ends where its bytes from a place on end
end_is : (src : Bytes) (p base : ℕ) → p ≤ length src → end_of (base + p) (drop p src) ≡ base + length src
unfolding end_of
end_is src p base h = rw length-drop (omega arith)

-- what a line lacks is handed on as a fault
abbrev pub Faulted : {T : Type 0} → (here end : ℕ) → Result T Lack → Result T Fault → Type 0
Faulted here end r s = MatchResult r (λ x. s ≡ Ok x) (λ e. IsErrAnd s (λ f. f ≡ lack_fault here end e))

pub placed_given : {T : Type 0} (src : Bytes) (p base : ℕ) (r : Result T Lack) (s : Result T Fault) → p ≤ length src → Faulted (base + p) (base + length src) r s → s ≡ answered (placed (base + p) (drop p src) (piece_here r))
unfolding placed
placed_given src p base (Ok x) s h m = m
placed_given src p base (Err e) (Ok x) h m = absurd m
placed_given src p base (Err Short) (Err f) h m = ap Err (m ∙ ap (section_fault BytesEnd) (sym (end_is src p base h)))
placed_given src p base (Err Misfit) (Err f) h m = ap Err m

-- one line after another
pub then_on : {A B : Type 0} (x : Got A) (k : A → ℕ → Bytes → Got B) {a : A} {q : ℕ} {ys : Bytes} {z : Got B} → x ≡ ok a q ys → k a q ys ≡ z → then x k ≡ z
then_on x k is was = ap (λ y. then y k) is ∙ was

pub then_cut : {A B : Type 0} (x : Got A) (k : A → ℕ → Bytes → Got B) {f : Fault} → x ≡ bad f → then x k ≡ bad f
then_cut x k is = ap (λ y. then y k) is

-- the exit of a `?` behind a line that is refused
pub passed_bad : (base : ℕ) (src : Bytes) (r : Result ℕ Fault) (f : Fault) → IsErrAnd r (λ y. y ≡ f) → {g : Got Unit} → g ≡ bad f → g ≡ passed_to base src r
passed_bad base src r f exit is = is ∙ ap (passed_to base src) (sym (exit_is r f exit))

passed_shown : (src : Bytes) (p base : ℕ) (r : Result ℕ Lack) → placed (base + p) (drop p src) (passed base src r) ≡ passed_to base src (answered (placed (base + p) (drop p src) (piece_here r)))
unfolding placed
passed_shown src p base (Ok q) = refl
passed_shown src p base (Err Short) = refl
passed_shown src p base (Err Misfit) = refl

ends_within : (src : Bytes) (p base : ℕ) (r : Result ℕ Lack) → PassesWithin src p r → EndsWithin src p (answered (placed (base + p) (drop p src) (piece_here r)))
unfolding placed
ends_within src p base (Ok q) w = w
ends_within src p base (Err Short) w = tt
ends_within src p base (Err Misfit) w = tt

-- a line that starts at p was read, and its fault placed
pub record LineRead (part : ℕ → Bytes → Piece Unit) (base : ℕ) (src : Bytes) (p : ℕ) (z : Result ℕ Fault) : Type 0 where
  pub is : placed (base + p) (drop p src) (part (base + p) (drop p src)) ≡ passed_to base src z
  pub within : EndsWithin src p z

pub line_read : (part : ℕ → Bytes → Piece Unit) (base : ℕ) (src : Bytes) (p : ℕ) (r : Result ℕ Lack) → Passes part src p r → (z : Result ℕ Fault) → z ≡ answered (placed (base + p) (drop p src) (piece_here r)) → LineRead part base src p z
line_read part base src p r read z is = record {
  is = ap (placed (base + p) (drop p src)) (read.is base) ∙ passed_shown src p base r ∙ ap (passed_to base src) (sym is);
  within = rw is (ends_within src p base r read.within);
}

-- the same of a view that stands there, by what `to` says of it
pub line_there : {part : ℕ → Bytes → Piece Unit} {B base : ℕ} {S src : Bytes} {P p : ℕ} {z : Result ℕ Fault} → B ≡ base → S ≡ src → P ≡ p → LineRead part B S P z → LineRead part base src p z
line_there {part} {base = base} {src = src} {p = p} {z = z} b s t read = let f : LineRead part base src p z = rw (b, s, t) at read in f

-- what ends from q on ends from p on, where p is not behind q
pub ends_from : (src : Bytes) (p q : ℕ) (z : Result ℕ Fault) → p ≤ q → EndsWithin src q z → EndsWithin src p z
ends_from src p q (Ok x) h w = (omega (arith, w.0), w.1)
ends_from src p q (Err f) h w = tt

taken_shown : {T A : Type 0} (value : T → A) (src : Bytes) (p base : ℕ) (r : Result (T × ℕ) Lack) → placed (base + p) (drop p src) (taken value base src r) ≡ got_by (λ x. value x.0) (λ x. x.1) base src (answered (placed (base + p) (drop p src) (piece_here r)))
unfolding placed
taken_shown value src p base (Ok x) = refl
taken_shown value src p base (Err Short) = refl
taken_shown value src p base (Err Misfit) = refl

taken_within : {T : Type 0} (src : Bytes) (p base : ℕ) (r : Result (T × ℕ) Lack) → TakesWithin src p r → IfOk (answered (placed (base + p) (drop p src) (piece_here r))) (λ x. (p ≤ x.1) × (x.1 ≤ length src))
unfolding placed
taken_within src p base (Ok x) w = w
taken_within src p base (Err Short) w = tt
taken_within src p base (Err Misfit) w = tt

-- the same of a line or an entry with a value
pub record RowRead {T A : Type 0} (value : T → A) (part : ℕ → Bytes → Piece A) (base : ℕ) (src : Bytes) (p : ℕ) (z : Result (T × ℕ) Fault) : Type 0 where
  pub is : placed (base + p) (drop p src) (part (base + p) (drop p src)) ≡ got_by (λ x. value x.0) (λ x. x.1) base src z
  pub within : IfOk z (λ x. (p ≤ x.1) × (x.1 ≤ length src))

pub row_read : {T A : Type 0} (value : T → A) (part : ℕ → Bytes → Piece A) (base : ℕ) (src : Bytes) (p : ℕ) (r : Result (T × ℕ) Lack) → Takes value part src p r → (z : Result (T × ℕ) Fault) → z ≡ answered (placed (base + p) (drop p src) (piece_here r)) → RowRead value part base src p z
row_read value part base src p r read z is = record {
  is = ap (placed (base + p) (drop p src)) (read.is base) ∙ taken_shown value src p base r ∙ ap (got_by (λ x. value x.0) (λ x. x.1) base src) (sym is);
  within = rw is (taken_within src p base r read.within);
}

-- what was answered was the part's value
pub part_was : {T : Type 0} (p : ℕ) (xs : Bytes) (r : Result T Lack) (x : T) → Ok x ≡ answered (placed p xs (piece_here r)) → r ≡ Ok x
unfolding placed
part_was p xs (Ok y) x e = let f : y ≡ x = cc in ap Ok f
part_was p xs (Err Short) x e = absurd (let z : ◌≡◌ {A = ℕ} 0 1 = cc in omega arith)
part_was p xs (Err Misfit) x e = absurd (let z : ◌≡◌ {A = ℕ} 0 1 = cc in omega arith)

-- both numbers of a line lie below a bound
pub both_below : (n p : ℕ) (xs : Bytes) (r : Result ((ℕ × ℕ) × ℕ) Lack) (x : (ℕ × ℕ) × ℕ) → Ok x ≡ answered (placed p xs (piece_here r)) → BothBelow n r → (x.0.0 < n) × (x.0.1 < n)
both_below n p xs r x e b = let f : r ≡ Ok x = part_was p xs r x e in rw f at b
