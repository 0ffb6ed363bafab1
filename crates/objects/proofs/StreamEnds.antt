-- The end of a stream.
use Rattle.std.proofs.Common.{◌≡◌, ℕ, ◌+◌, ◌-◌, Bool, true, false, not, eqb, [], ◌∷◌, ◌++◌, length, take, drop, MatchOption, Some, None, codes, Option, sym, refl, ap, ◌∙◌, arith, drop-drop}
use Rattle.std.proofs.lemmas.Bool.{eq-eqb, eqb-true}
use Rattle.std.proofs.lemmas.Bool.Decides.{Decides-eqb}
use Rattle.std.proofs.lemmas.List.{take_rest}
use Rattle.std.proofs.lemmas.Slice.Eq.{strip_prefix_is}
use Rattle.std.specs.Cmp.Lexicographic.{pointwise}
use Rattle.std.specs.List.{slice_get}
use Rattle.std.specs.Option.{option_copied}
use denote.Ref.{Bor}
use Rattle.faults.specs.declared.reason.Reason.TheVariants.{BadFrame}
use Rattle.format.specs.Bytes.{Bytes, ok, bad, is_regular}
use Rattle.format.specs.Failures.{object_fault}
use Rattle.format.specs.Frames.{behind, word_ends, end_stream}
use Rattle.objects.proofs.Cases.{cases}

-- bytes that begin with ws
behind_more : (ws ys : Bytes) → behind ws (ws ++ ys) ≡ Some ys
unfolding behind
behind_more [] ys = refl
behind_more (w ∷ ws) ys = let e = eq-eqb w w refl in rw (e, behind) (behind_more ws ys)

-- bytes that do not begin with ws
behind_other : (ws xs : Bytes) → ((ys : Bytes) → xs ≡ ws ++ ys → ⊥) → behind ws xs ≡ None
unfolding behind
behind_other [] xs h = absurd (h xs refl)
behind_other (w ∷ ws) [] h = refl
behind_other (w ∷ ws) (x ∷ xs) h =
    cases (eqb w x)
    (λ e. rw (e, behind) (behind_other ws xs (λ ys i. h ys (let j = eqb-true w x e in cc))))
    (λ e. rw (e, behind) refl)

module _ (src : Bytes) (p : ℕ) where
  -- other bytes
  pub end_other : ((ys : Bytes) → drop p src ≡ codes "endstream" ++ ys → ⊥) → bad (object_fault BadFrame p) ≡ end_stream p (drop p src)
  unfolding end_stream
  end_other h = let e = behind_other (codes "endstream") (drop p src) h in rw (e, end_stream) refl

  module _ (ys : Bytes) (h : drop p src ≡ codes "endstream" ++ ys) where
    end_there : behind (codes "endstream") (drop p src) ≡ Some ys
    end_there = ap (behind (codes "endstream")) h ∙ behind_more (codes "endstream") ys

    -- `endstream` and a regular byte
    pub end_goes_on : word_ends ys ≡ false → bad (object_fault BadFrame p) ≡ end_stream p (drop p src)
    unfolding end_stream
    end_goes_on f = let e = end_there in rw (e, f, end_stream) refl

    -- `endstream` and no regular byte
    pub end_stops : word_ends ys ≡ true → ok tt (p + 9) (drop (p + 9) src) ≡ end_stream p (drop p src)
    unfolding end_stream
    end_stops f =
        let e = end_there in
        let r : drop (p + 9) src ≡ ys = sym (drop-drop 9 p src) ∙ ap (drop 9) h in
        rw r (rw (e, f, end_stream) refl)

  -- whether the bytes from a place on begin with `endstream`
  pub begins : (r : Option (Bor Bytes)) →
      MatchOption r (pointwise eqb (take 9 (take (length src - p) (drop p src))) (codes "endstream") ≡ false)
      (λ x. (pointwise eqb (take 9 (take (length src - p) (drop p src))) (codes "endstream") ≡ true) × (x.now ≡ drop 9 (take (length src - p) (drop p src))) × (length x.now + 9 ≡ length (take (length src - p) (drop p src)))) →
      MatchOption r ((ys : Bytes) → drop p src ≡ codes "endstream" ++ ys → ⊥) (λ x. drop p src ≡ codes "endstream" ++ x.now)
  begins r h = let is = strip_prefix_is Decides-eqb (take (length src - p) (drop p src)) (codes "endstream") r h in rw (take_rest src p) at is

-- whether the first byte goes on with a word
pub first_regular : (xs : Bytes) (o : Option (Bor ℕ)) (b : Bool) → option_copied o ≡ slice_get xs 0 → MatchOption o (b ≡ false) (λ x. b ≡ is_regular x.now) → word_ends xs ≡ not b
unfolding word_ends
first_regular [] None b e h = rw h refl
first_regular [] (Some x) b e h = absurd (let z : ◌≡◌ {A = ℕ} 0 1 = cc in omega arith)
first_regular (y ∷ ys) None b e h = absurd (let z : ◌≡◌ {A = ℕ} 0 1 = cc in omega arith)
first_regular (y ∷ ys) (Some x) b e h = let i : x.now ≡ y = cc in rw (h, i) (cases (is_regular y) (λ r. rw (r, word_ends) refl) (λ r. rw (r, word_ends) refl))
