-- Words, numbers and dots at the start of a line.
use Rattle.std.proofs.Common.{◌≡◌, ℕ, ◌+◌, ◌<◌, ◌≤◌, eqb, [], ◌∷◌, ◌++◌, length, get_or, drop, Some, None, Ok, Err, codes, Option, Result, sym, refl, ap, ◌∙◌, arith, Bor, MatchOption, MatchResult}
use Rattle.std.proofs.lemmas.List.{at_drop_all, at_drop_more}
use Rattle.std.proofs.Math.Arith.{lt_of_le-ne}
use Rattle.std.proofs.lemmas.Bool.{eq-eqb, ne_eqb, eqb-true, eqb-false}
use Rattle.std.specs.Bool.{then_some}
use Rattle.std.specs.Option.{option_map, IsSomeAnd, ok_or}
use Rattle.std.specs.Result.{IsOkAnd, result_ok}
use Rattle.format.specs.Bytes.{Bytes}
use Rattle.format.specs.Frames.{behind}
use Rattle.format.specs.Lines.{took, digits}
use Rattle.locality.proofs.Cases.{cases, cases_o}
use Rattle.locality.proofs.Tests.{clash, equal}
use Rattle.lexer.specs.declared.line.Lack.{Lack}
use Rattle.lexer.specs.declared.line.Lack.TheVariants.{Short, Misfit}
use Rattle.opening.specs.Parts.{lacking, Takes}
use Rattle.scripts.specs.declared.error.Mistake.{Mistake}
use Rattle.scripts.specs.declared.error.Mistake.TheVariants.{BadNumber, SingleDot}
use Rattle.scripts.specs.declared.line.BodyLine.TheVariants.{Text, End}
use Rattle.scripts.specs.declared.line.Head.{Head}
use Rattle.scripts.specs.Lines.{whole, number_of, numbered, put_of, saying, head_of, after_dot, body_line_of}

-- what follows a word that stands there
pub behind_word : (w xs : Bytes) → behind w (w ++ xs) ≡ Some xs
unfolding behind
behind_word [] xs = refl
behind_word (x ∷ w) xs = rw (equal x, behind) (behind_word w xs)

-- a word that stands there
behind_parts : (w s xs : Bytes) → behind w s ≡ Some xs → s ≡ w ++ xs
unfolding behind
behind_parts [] s xs e = cc
behind_parts (x ∷ w) [] xs e = clash (cc)
behind_parts (x ∷ w) (y ∷ s) xs e =
    cases (eqb x y)
    (λ q.
    let f : behind w s ≡ Some xs = rw (q, behind) at e in
    let r = behind_parts w s xs f in
    let h = eqb-true x y q in
    cc)
    (λ q. let f : None ≡ Some xs = rw (q, behind) at e in clash (cc))

-- a word that does not
pub behind_none : (w s : Bytes) → ((xs : Bytes) → s ≡ w ++ xs → ⊥) → behind w s ≡ None
behind_none w s h = cases_o (behind w s) (λ e. e) (λ xs e. absurd (h xs (behind_parts w s xs e)))

-- what is left of a line behind a word
pub after_is : (s w : Bytes) (r : Option (Bor Bytes)) → MatchOption r ((xs : Bytes) → s ≡ w ++ xs → ⊥) (λ x. s ≡ w ++ x.now) → option_map (λ x. x.now) r ≡ behind w s
after_is s w None h = sym (behind_none w s h)
after_is s w (Some x) h = sym (ap (behind w) h ∙ behind_word w x.now)

-- a number that nothing follows
number_whole : (xs : Bytes) (n p e : ℕ) → digits 0 xs ≡ took n p (drop e xs) → length xs ≤ e → number_of xs ≡ Some n
unfolding number_of whole
number_whole xs n p e is h = ap whole is ∙ at_drop_all (λ ys. whole (took n p ys)) xs e h

-- digits that something follows
number_more : (xs : Bytes) (n p e : ℕ) → digits 0 xs ≡ took n p (drop e xs) → e < length xs → number_of xs ≡ None
unfolding number_of whole
number_more xs n p e is h = ap whole is ∙ at_drop_more (λ ys. whole (took n p ys)) xs e 0 h

-- the number, where nothing follows its digits
pub number_said : (xs : Bytes) (n p e : ℕ) → digits 0 xs ≡ took n p (drop e xs) → e ≤ length xs → then_some (eqb e (length xs)) n ≡ number_of xs
number_said xs n p e is h =
    cases (eqb e (length xs))
    (λ q. let s = eqb-true e (length xs) q in rw q (sym (number_whole xs n p e is (omega arith))))
    (λ q. let s = eqb-false e (length xs) q in rw q (sym (number_more xs n p e is (lt_of_le-ne h s))))

-- no digits, or too many
pub number_lacks : (xs : Bytes) (l : Lack) → digits 0 xs ≡ lacking l → number_of xs ≡ None
unfolding number_of whole
number_lacks xs Short is = ap whole is
number_lacks xs Misfit is = ap whole is

-- what was read as a number
pub number_there : (xs : Bytes) (r : Result (ℕ × ℕ) Lack) (o : Option (ℕ × ℕ)) (n e : ℕ) → Takes (λ n. n) digits xs 0 r → o ≡ result_ok r → o ≡ Some (n, e) → (digits 0 xs ≡ took n (0 + e) (drop e xs)) × (e ≤ length xs)
number_there xs (Ok x) o n e t q s =
    let p : x ≡ (n, e) = cc in
    let both : (digits 0 xs ≡ took x.0 (0 + x.1) (drop x.1 xs)) × (x.1 ≤ length xs) = (t.is 0, t.within.1) in
    rw p at both
number_there xs (Err l) o n e t q s = clash (cc)

pub number_missing : (xs : Bytes) (r : Result (ℕ × ℕ) Lack) (o : Option (ℕ × ℕ)) → Takes (λ n. n) digits xs 0 r → o ≡ result_ok r → o ≡ None → number_of xs ≡ None
number_missing xs (Ok x) o t q s = clash (cc)
number_missing xs (Err l) o t q s = number_lacks xs l (t.is 0)

-- the kind of change that a number makes, or that there is none
pub kind_read : (kind : ℕ → Head) (o : Option ℕ) (q : Option Head) (r : Result Head Mistake) → MatchOption o (q ≡ None) (λ n. IsSomeAnd q (λ h. h ≡ kind n)) → r ≡ ok_or q BadNumber → r ≡ numbered kind o
unfolding numbered
kind_read kind None q r m e = e ∙ ap (λ p. ok_or p BadNumber) m
kind_read kind (Some n) None r m e = absurd m
kind_read kind (Some n) (Some h) r m e = e ∙ ap {B = Result Head Mistake} (λ x. Ok x) m

-- a line that says something
pub saying_read : (q : Result Head Mistake) (r : Result (Option Head) Mistake) → MatchResult q (λ h. IsOkAnd r (λ o. o ≡ Some h)) (λ m. r ≡ Err m) → r ≡ saying q
unfolding saying
saying_read (Ok h) (Ok o) m = ap {B = Result (Option Head) Mistake} (λ x. Ok x) m
saying_read (Ok h) (Err x) m = absurd m
saying_read (Err x) r m = m

-- the first line of bytes: empty, a comment, or a change
pub head_empty : (l : Bytes) → length l ≡ 0 → head_of l ≡ Ok None
unfolding head_of
head_empty [] h = refl
head_empty (x ∷ xs) h = absurd (omega arith)

pub head_comment : (l : Bytes) → 0 < length l → get_or l 0 0 ≡ 35 → head_of l ≡ Ok None
unfolding head_of
head_comment [] h e = refl
head_comment (x ∷ xs) h e = rw (eq-eqb x 35 e, head_of) refl

pub head_change : (l : Bytes) → (length l ≡ 0 → ⊥) → (get_or l 0 0 ≡ 35 → ⊥) → head_of l ≡ saying (put_of l (behind (codes "put ") l))
unfolding head_of
head_change [] h e = absurd (h refl)
head_change (x ∷ xs) h e = rw (ne_eqb x 35 e, head_of) refl

-- what a line of a body is, by its first two bytes
pub dots_empty : (l : Bytes) → length l ≡ 0 → body_line_of l ≡ Ok Text
unfolding body_line_of
dots_empty [] h = refl
dots_empty (x ∷ xs) h = absurd (omega arith)

pub dots_none : (l : Bytes) → (get_or l 0 0 ≡ 46 → ⊥) → body_line_of l ≡ Ok Text
unfolding body_line_of
dots_none [] e = refl
dots_none (x ∷ xs) e = rw (ne_eqb x 46 e, body_line_of) refl

dots_one : (l : Bytes) → (length l ≡ 0 → ⊥) → get_or l 0 0 ≡ 46 → body_line_of l ≡ after_dot (drop 1 l)
unfolding body_line_of
dots_one [] h e = absurd (h refl)
dots_one (x ∷ xs) h e = rw (eq-eqb x 46 e, body_line_of) refl

pub dots_end : (l : Bytes) → length l ≡ 1 → get_or l 0 0 ≡ 46 → body_line_of l ≡ Ok End
unfolding after_dot
dots_end l h e = dots_one l (λ z. absurd (omega arith)) e ∙ at_drop_all after_dot l 1 (omega arith)

dots_more : (l : Bytes) → 1 < length l → get_or l 0 0 ≡ 46 → body_line_of l ≡ after_dot (get_or l 1 0 ∷ drop 2 l)
dots_more l h e = dots_one l (λ z. absurd (omega arith)) e ∙ at_drop_more after_dot l 1 0 h

pub dots_two : (l : Bytes) → 1 < length l → get_or l 0 0 ≡ 46 → get_or l 1 0 ≡ 46 → body_line_of l ≡ Ok Text
unfolding after_dot
dots_two l h e f = dots_more l h e ∙ rw (eq-eqb (get_or l 1 0) 46 f, after_dot) refl

pub dots_single : (l : Bytes) → 1 < length l → get_or l 0 0 ≡ 46 → (get_or l 1 0 ≡ 46 → ⊥) → body_line_of l ≡ Err SingleDot
unfolding after_dot
dots_single l h e f = dots_more l h e ∙ rw (ne_eqb (get_or l 1 0) 46 f, after_dot) refl
