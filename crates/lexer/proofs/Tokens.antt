-- The next token, behind white space and comments.
use Rattle.std.proofs.Common.{◌≡◌, ℕ, ◌<◌, false, [], length, drop, MatchResult, Some, None, Ok, Err, Result, refl, ap, ◌∙◌, arith, drop-cons}
use Rattle.std.specs.Result.{IsErrAnd}
use Rattle.std.proofs.lemmas.List.{drop_all}
use Rattle.faults.specs.declared.fault.Fault.{Fault}
use Rattle.format.specs.Bytes.{Bytes}
use Rattle.format.specs.Space.{skip}
use Rattle.format.specs.Tokens.{Flaw, Kind, int, real, name, text, hex, mark, word, ended, flawed, flaw_fault, Token, tok, start_at, token_at}
use Rattle.lexer.specs.declared.flaw.Flaw.{Flaw as Broken}
use Rattle.lexer.specs.Flaws.{flaw_shown}
use Rattle.lexer.specs.Views.{kind_fault, token_fault_of, bytes_at}

-- a token starts behind the space
pub behind_space : (src : Bytes) (p q : ℕ) → skip false p (drop p src) ≡ (q, drop q src) → token_at p (drop p src) ≡ start_at q (drop q src)
unfolding token_at
behind_space src p q e = ap (λ s. start_at s.0 s.1) e

ended_here : (p : ℕ) → start_at p [] ≡ tok ended p [] p []
unfolding start_at
ended_here p = refl

-- the bytes end
pub ends_here : (src : Bytes) (p : ℕ) → p ≡ length src → start_at p (drop p src) ≡ tok ended p (drop p src) p (drop p src)
ends_here src p e = rw (drop_all p src (omega arith)) (ended_here p)

-- the bytes from the place of a token on
pub as_dropped : (src : Bytes) (p q : ℕ) (k : Kind) {t : Token} → p < length src → t ≡ tok k p (bytes_at src p) q (drop q src) → t ≡ tok k p (drop p src) q (drop q src)
as_dropped src p q k h e = rw (drop-cons src p 0 h) e

pub flaw_told : (t : Token) (p : ℕ) (f : Flaw) → t.from ≡ p → t.kind ≡ flawed f → token_fault_of t ≡ Some (flaw_fault p f)
flaw_told t p f d e = ap (λ p. kind_fault p t.kind) d ∙ ap (kind_fault p) e

none_is_not : {A : Type 0} (x : Fault) → None ≡ Some x → A
none_is_not x e = let z : ◌≡◌ {A = ℕ} 0 1 = cc in absurd (omega arith)

-- what a refusal tells: the flaw of the definition's token, and that the fault is that flaw's
pub faulted : (t : Token) (x : Fault) → token_fault_of t ≡ Some x → (f : Flaw) × (t.kind ≡ flawed f) × (flaw_fault t.from f ≡ x)
faulted t x e = by_kind t.from t.kind x e
  where
    by_kind : (p : ℕ) (k : Kind) (x : Fault) → kind_fault p k ≡ Some x → (f : Flaw) × (k ≡ flawed f) × (flaw_fault p f ≡ x)
    by_kind p (int u z) x e = none_is_not x e
    by_kind p (real w) x e = none_is_not x e
    by_kind p (name d) x e = none_is_not x e
    by_kind p (text w) x e = none_is_not x e
    by_kind p (hex w) x e = none_is_not x e
    by_kind p (mark m) x e = none_is_not x e
    by_kind p (word w) x e = none_is_not x e
    by_kind p ended x e = none_is_not x e
    by_kind p (flawed f) x e = (f, refl, cc)

-- the same answer, where a flaw of the token at p is its fault
abbrev pub Told : {T : Type 0} → ℕ → Result T Broken → Result T Fault → Type 0
Told p r s = MatchResult r (λ x. s ≡ Ok x) (λ f. IsErrAnd s (λ g. g ≡ flaw_fault p (flaw_shown f)))

pub told_ok : {T : Type 0} (p : ℕ) (r : Result T Broken) (s : Result T Fault) (x : T) → Told p r s → s ≡ Ok x → r ≡ Ok x
told_ok p (Ok y) s x m e = cc
told_ok p (Err f) (Ok y) x m e = absurd m
told_ok p (Err f) (Err g) x m e = let z : ◌≡◌ {A = ℕ} 0 1 = cc in absurd (omega arith)

pub told_err : {T : Type 0} (p : ℕ) (r : Result T Broken) (s : Result T Fault) (g : Fault) → Told p r s → s ≡ Err g → (f : Broken) × (r ≡ Err f) × (g ≡ flaw_fault p (flaw_shown f))
told_err p (Ok y) s g m e = let z : ◌≡◌ {A = ℕ} 0 1 = cc in absurd (omega arith)
told_err p (Err f) (Ok y) g m e = absurd m
told_err p (Err f) (Err h) g m e = let i : g ≡ h = cc in (f, refl, i ∙ m)
