-- A line cut at its first space.
use Rattle.std.proofs.Common.{◌≡◌, ℕ, suc, ◌<◌, List, [], ◌∷◌, ◌++◌, length, get_or, refl, ap, arith, ne_eqb}
use Rattle.replay.specs.Lines.{on_first, words_of}

abbrev pub Spaceless : List ℕ → Type 0
Spaceless w = (i : ℕ) → i < length w → get_or w i 0 ≡ 32 → ⊥

behind : (c : ℕ) (w : List ℕ) → Spaceless (c ∷ w) → Spaceless w
behind c w s i h = s (suc i) (omega arith)

pub words_whole : (w : List ℕ) → Spaceless w → words_of w ≡ w ∷ []
words_whole [] s = refl
words_whole (c ∷ w) s = rw (ne_eqb c 32 (s 0 (omega arith))) (ap (on_first c) (words_whole w (behind c w s)))

pub words_cut : (w rest : List ℕ) → Spaceless w → words_of (w ++ (32 ∷ rest)) ≡ w ∷ words_of rest
words_cut [] rest s = refl
words_cut (c ∷ w) rest s = rw (ne_eqb c 32 (s 0 (omega arith))) (ap (on_first c) (words_cut w rest (behind c w s)))
