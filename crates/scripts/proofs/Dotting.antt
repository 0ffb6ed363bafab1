-- Byte after byte, with whether it starts a line.
use Rattle.std.proofs.Common.{◌≡◌, ℕ, ◌+◌, ◌<◌, Bool, true, false, eqb, [], ◌∷◌, ◌++◌, length, get_or, take, sym, refl, ap, ◌∙◌, append_assoc, append-nil}
use Rattle.std.proofs.lemmas.List.{take_more}
use Rattle.std.proofs.lemmas.Bool.{ne_eqb, and_right}
use Rattle.format.specs.Bytes.{Bytes}
use Rattle.scripts.specs.Dots.{dot_as, each_byte}

-- whether the byte behind these starts a line
abbrev pub starts_after : Bool → Bytes → Bool
starts_after s [] = s
starts_after s (x ∷ xs) = starts_after (eqb x 10) xs

starts_push : (s : Bool) (xs : Bytes) (x : ℕ) → starts_after s (xs ++ (x ∷ [])) ≡ eqb x 10
starts_push s [] x = refl
starts_push s (y ∷ xs) x = starts_push (eqb y 10) xs x

each_push : (f : Bool → ℕ → Bytes) (s : Bool) (xs : Bytes) (x : ℕ) → each_byte f s (xs ++ (x ∷ [])) ≡ each_byte f s xs ++ f (starts_after s xs) x
unfolding each_byte
each_push f s [] x = append-nil (f s x)
each_push f s (y ∷ xs) x =
    ap (λ ys. f s y ++ ys) (each_push f (eqb y 10) xs x) ∙ sym (append_assoc (f s y) (each_byte f (eqb y 10) xs) (f (starts_after (eqb y 10) xs) x))

-- no byte yet
pub each_none : (f : Bool → ℕ → Bytes) (s : Bool) (out : Bytes) → out ≡ out ++ each_byte f s []
unfolding each_byte
each_none f s out = sym (append-nil out)

-- one byte more
pub starts_more : (bytes : Bytes) (i : ℕ) → i < length bytes → starts_after true (take (i + 1) bytes) ≡ eqb (get_or bytes i 0) 10
starts_more bytes i h = ap (starts_after true) (take_more bytes i 0 h) ∙ starts_push true (take i bytes) (get_or bytes i 0)

pub each_more : (f : Bool → ℕ → Bytes) (out bytes : Bytes) (i : ℕ) (s : Bool) → i < length bytes → s ≡ starts_after true (take i bytes) →
    (out ++ each_byte f true (take i bytes)) ++ f s (get_or bytes i 0) ≡ out ++ each_byte f true (take (i + 1) bytes)
each_more f out bytes i s h e =
    append_assoc out (each_byte f true (take i bytes)) (f s (get_or bytes i 0))
    ∙ ap (λ ys. out ++ ys)
    (ap (λ (t : Bool). each_byte f true (take i bytes) ++ f t (get_or bytes i 0)) e
    ∙ sym (ap (each_byte f true) (take_more bytes i 0 h) ∙ each_push f true (take i bytes) (get_or bytes i 0)))

-- a dot that starts a line
pub dot_start : (dot : Bytes) (s : Bool) (x : ℕ) → s ≡ true → x ≡ 46 → dot ≡ dot_as dot s x
unfolding dot_as
dot_start dot s x e f = rw (e, f) refl

-- no line starts there
pub same_inside : (dot : Bytes) (s : Bool) (x : ℕ) → s ≡ false → x ∷ [] ≡ dot_as dot s x
unfolding dot_as
same_inside dot s x e = rw e refl

-- a byte that is no dot
pub same_other : (dot : Bytes) (s : Bool) (x : ℕ) → (x ≡ 46 → ⊥) → x ∷ [] ≡ dot_as dot s x
unfolding dot_as
same_other dot s x h = let e = and_right s (eqb x 46) (ne_eqb x 46 h) in rw (e, dot_as) refl
