-- What a script is read as ascends, and its numbers have at most ten digits.
use Rattle.std.proofs.Common.{◌≡◌, ℕ, suc, ◌^◌, ◌<◌, ◌≤◌, eqb, ltb, List, [], ◌∷◌, ◌++◌, is_some, Some, None, Ok, Err, Option, Result, sym, refl, arith}
use Rattle.std.proofs.lemmas.Bool.{ltb-true, ltb-false, eqb-true, eqb-false}
use Rattle.format.specs.Acceptable.{Ascends}
use Rattle.format.specs.Bytes.{Bytes}
use Rattle.format.specs.Revisions.{find}
use Rattle.format.specs.Updates.{Change, Update, with_change}
use Rattle.locality.proofs.Cases.{cases}
use Rattle.locality.proofs.Tests.{clash}
use Rattle.scripts.specs.declared.error.Mistake.{Mistake}
use Rattle.scripts.specs.declared.line.BodyLine.{BodyLine}
use Rattle.scripts.specs.declared.line.BodyLine.TheVariants.{Text, End}
use Rattle.scripts.specs.declared.line.Head.{Head}
use Rattle.scripts.specs.declared.line.Head.TheVariants.{Remove, Put}
use Rattle.scripts.specs.Lines.{lines_of, head_of, body_line_of}
use Rattle.scripts.specs.Scripts.{Item, change, stop, Where, between, inside, items_of, said_by, gathered, read_script}
use Rattle.scripts.specs.Theorems.{Spellable, ReadsAgain}
use Rattle.scripts.proofs.ReadsBack.{printed_reads_back}
use Rattle.scripts.proofs.Small.{head_small}

-- one change more
pub ascends_with : (low n : ℕ) (c : Change) (u : Update) → low ≤ n → Ascends low u → Ascends low (with_change n c u)
unfolding with_change
ascends_with low n c [] h a = (h, tt)
ascends_with low n c (r ∷ rs) h a =
    cases (ltb n r.0)
    (λ e. rw (e, with_change) (h, (ltb-true n r.0 e, a.1)))
    (λ e.
    cases (eqb n r.0)
    (λ d. rw (e, d, with_change) (let q : r.0 ≡ n = sym (eqb-true n r.0 d) in (h, rw q at a.1)))
    (λ d.
    let ne = eqb-false n r.0 d in
    let ge = ltb-false n r.0 e in
    let more : suc r.0 ≤ n = omega arith in
    rw (e, d, with_change) (a.0, ascends_with (suc r.0) n c rs more a.1)))

pub spellable_with : (n : ℕ) (c : Change) (u : Update) → n < 10 ^ 10 → Spellable u → Spellable (with_change n c u)
unfolding with_change
spellable_with n c [] h s = (h, tt)
spellable_with n c (r ∷ rs) h s =
    cases (ltb n r.0)
    (λ e. rw (e, with_change) (h, s))
    (λ e.
    cases (eqb n r.0)
    (λ d. rw (e, d, with_change) (h, s.1))
    (λ d. rw (e, d, with_change) (s.0, spellable_with n c rs h s.1)))

-- every number that the items name has at most ten digits
abbrev SmallItems : List Item → Type 0
SmallItems [] = Unit {0}
SmallItems (change k n c ∷ is) = (n < 10 ^ 10) × SmallItems is
SmallItems (stop e ∷ is) = SmallItems is

abbrev SmallWhere : Where → Type 0
SmallWhere between = Unit {0}
SmallWhere (inside s n t) = n < 10 ^ 10

by_head : {P : Type 0} (r : Result (Option Head) Mistake) → (r ≡ Ok None → P) → ((n : ℕ) → r ≡ Ok (Some (Remove n)) → P) → ((n : ℕ) → r ≡ Ok (Some (Put n)) → P) → ((m : Mistake) → r ≡ Err m → P) → P
by_head (Ok None) a b c d = a refl
by_head (Ok (Some (Remove n))) a b c d = b n refl
by_head (Ok (Some (Put n))) a b c d = c n refl
by_head (Err m) a b c d = d m refl

by_body_line : {P : Type 0} (r : Result BodyLine Mistake) → (r ≡ Ok Text → P) → (r ≡ Ok End → P) → ((m : Mistake) → r ≡ Err m → P) → P
by_body_line (Ok Text) a b c = a refl
by_body_line (Ok End) a b c = b refl
by_body_line (Err m) a b c = c m refl

items_small : (w : Where) (k : ℕ) (ls : List Bytes) → SmallWhere w → SmallItems (items_of w k ls)
unfolding items_of
items_small between k [] h = tt
items_small between k (l ∷ ls) h =
    by_head (head_of l)
    (λ e. rw (e, items_of) (items_small between (suc k) ls tt))
    (λ n e. rw (e, items_of) (head_small l (Remove n) e, items_small between (suc k) ls tt))
    (λ n e. rw (e, items_of) (items_small (inside k n []) (suc k) ls (head_small l (Put n) e)))
    (λ m e. rw (e, items_of) tt)
items_small (inside s n t) k [] h = tt
items_small (inside s n t) k (l ∷ ls) h =
    by_body_line (body_line_of l)
    (λ e. rw (e, items_of) (items_small (inside s n (t ++ (l ++ (10 ∷ [])))) (suc k) ls h))
    (λ e. rw (e, items_of) (h, items_small between (suc k) ls tt))
    (λ m e. rw (e, items_of) tt)

gathered_sound : (is : List Item) (acc u : Update) → SmallItems is → Ascends 0 acc → Spellable acc → gathered is acc ≡ Ok u → Ascends 0 u × Spellable u
unfolding gathered
gathered_sound [] acc u i a s e = let q : acc ≡ u = cc in let both : Ascends 0 acc × Spellable acc = (a, s) in rw q at both
gathered_sound (stop x ∷ is) acc u i a s e = clash (cc)
gathered_sound (change k n c ∷ is) acc u i a s e =
    cases (is_some (find n acc))
    (λ f. let z = rw (f, gathered) at e in clash (cc))
    (λ f. gathered_sound is (with_change n c acc) u i.1 (ascends_with 0 n c acc (omega arith) a) (spellable_with n c acc i.0 s) (rw (f, gathered) at e))

pub reads_again : ReadsAgain
unfolding read_script said_by
reads_again s u e =
    let h = gathered_sound (items_of between 1 (lines_of s)) [] u (items_small between 1 (lines_of s) tt) tt tt e in
    (h.0, h.1, printed_reads_back u h.0 h.1)
