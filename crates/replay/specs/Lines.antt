-- The words of a line, and what is taken of them.
use Rattle.std.specs.Prelude.{◌≡◌, ℕ, cond, List, [], ◌∷◌, Some, None, Option, MatchOption, ◌==◌}
use Rattle.std.specs.Borrow.{Bor}
use Rattle.replay.specs.declared.trouble.Trouble.{Trouble}
use Rattle.replay.specs.declared.trouble.Trouble.TheVariants.{WordMissing}

-- one byte more at the front of the first word
abbrev pub on_first : ℕ → List (List ℕ) → List (List ℕ)
on_first c [] = (c ∷ []) ∷ []
on_first c (w ∷ ws) = (c ∷ w) ∷ ws

-- a line is cut at every space, so that it has one word more than spaces; a word may be empty
abbrev pub words_of : List ℕ → List (List ℕ)
words_of [] = [] ∷ []
words_of (c ∷ cs) = cond (c == 32) ([] ∷ words_of cs) (on_first c (words_of cs))

-- the words of what is left of a line, if anything is
abbrev pub words_left : Option (Bor (List ℕ)) → List (List ℕ)
words_left None = []
words_left (Some t) = words_of t.now

-- the first of the words left, if there is one
abbrev pub Taken : List (List ℕ) → Option (Bor (List ℕ)) → List (List ℕ) → Type 0
Taken was r is = MatchOption r (was ≡ []) (λ w. was ≡ w.now ∷ is)

-- a word was taken, and this holds of it
pub record Took (P : List ℕ → Type 0) (was is : List (List ℕ)) : Type 0 where
  pub word : List ℕ
  pub first : was ≡ word ∷ is
  pub reads : P word

-- there is no word to take, or the first does not fit
abbrev pub Amiss : (List ℕ → Type 0) → Trouble → List (List ℕ) → Trouble → Type 0
Amiss Fits bad [] e = e ≡ WordMissing
Amiss Fits bad (w ∷ ws) e = (e ≡ bad) × (Fits w → ⊥)
