-- A script that was printed of an update is read as that update.
use Rattle.std.proofs.Common.{◌≡◌, ℕ, suc, ◌^◌, ◌<◌, ◌≤◌, true, false, eqb, ltb, List, [], ◌∷◌, ◌++◌, is_some, Some, None, Ok, codes, Option, Result, sym, refl, ap, ◌∙◌, append_assoc, append-nil, arith}
use Rattle.std.proofs.lemmas.Bool.{ne_eqb, le-ltb}
use Rattle.format.specs.Acceptable.{Ascends}
use Rattle.format.specs.Bytes.{Bytes, every}
use Rattle.format.specs.Frames.{behind}
use Rattle.format.specs.Lines.{digits}
use Rattle.format.specs.Revisions.{find}
use Rattle.format.specs.Sections.{begins_digit}
use Rattle.format.specs.Updates.{Change, body, removed, Update, with_change}
use Rattle.format.specs.Writing.{decimal}
use Rattle.sections.proofs.Digits.{spells, digits_taken}
use Rattle.scripts.specs.declared.error.ScriptError.{ScriptError}
use Rattle.scripts.specs.declared.line.Head.TheVariants.{Remove, Put}
use Rattle.scripts.specs.Dots.{dotted}
use Rattle.scripts.specs.Lines.{lines_of, whole, number_of, numbered, remove_of, put_of, saying, head_of}
use Rattle.scripts.specs.Scripts.{Item, change, between, items_of, said_by, gathered, read_script, change_bytes, print_script}
use Rattle.scripts.specs.Theorems.{Spellable, PrintedReadsBack}
use Rattle.scripts.proofs.Cut.{lines_cut}
use Rattle.scripts.proofs.Plain.{is_plain, plain_unbroken, digits_plain}
use Rattle.scripts.proofs.Stuffed.{Body, body_read}

-- a number that was written is read
number_back : (n : ℕ) → n < 10 ^ 10 → number_of (decimal n) ≡ Some n
unfolding number_of whole begins_digit
number_back n h = ap whole (ap (digits 0) (sym (append-nil (decimal n))) ∙ digits_taken 0 n (decimal n) [] (spells n h) refl)

remove_back : (n : ℕ) → n < 10 ^ 10 → head_of (codes "remove " ++ decimal n) ≡ Ok (Some (Remove n))
unfolding head_of put_of remove_of numbered saying behind
remove_back n h = ap (λ (o : Option ℕ). saying (numbered (λ k. Remove k) o)) (number_back n h)

put_back : (n : ℕ) → n < 10 ^ 10 → head_of (codes "put " ++ decimal n) ≡ Ok (Some (Put n))
unfolding head_of put_of numbered saying behind
put_back n h = ap (λ (o : Option ℕ). saying (numbered (λ k. Put k) o)) (number_back n h)

decimal_plain : (n : ℕ) → n < 10 ^ 10 → every is_plain (decimal n) ≡ true
decimal_plain n h = digits_plain (decimal n) (spells n h).digit

remove_plain : (n : ℕ) → n < 10 ^ 10 → every is_plain (codes "remove " ++ decimal n) ≡ true
unfolding every is_plain
remove_plain n h = decimal_plain n h

put_plain : (n : ℕ) → n < 10 ^ 10 → every is_plain (codes "put " ++ decimal n) ≡ true
unfolding every is_plain
put_plain n h = decimal_plain n h

-- The bytes xs, before any others, say that change.
record Said (n : ℕ) (c : Change) (xs rest : Bytes) (k : ℕ) : Type 0 where
  next : ℕ
  is : items_of between k (lines_of (xs ++ rest)) ≡ change k n c ∷ items_of between next (lines_of rest)

removal_said : (n : ℕ) (rest : Bytes) (k : ℕ) → n < 10 ^ 10 → Said n removed (change_bytes n removed) rest k
unfolding change_bytes items_of
removal_said n rest k h =
    let e : (codes "remove " ++ (decimal n ++ (10 ∷ []))) ++ rest ≡ (codes "remove " ++ decimal n) ++ (10 ∷ rest) = simp append_assoc in
    record {
      next = suc k;
      is =
          ap (λ ys. items_of between k (lines_of ys)) e
          ∙ ap (items_of between k) (lines_cut (codes "remove " ++ decimal n) rest (plain_unbroken _ (remove_plain n h)))
          ∙ rw (remove_back n h, items_of) refl;
    }

put_said : (n : ℕ) (b rest : Bytes) (k : ℕ) → n < 10 ^ 10 → Said n (body b) (change_bytes n (body b)) rest k
unfolding change_bytes items_of
put_said n b rest k h = go (body_read b rest k n (suc k))
  where
    text : Bytes
    text = dotted b ++ (10 ∷ 46 ∷ 10 ∷ rest)

    joined : (codes "put " ++ (decimal n ++ (10 ∷ (dotted b ++ codes "\n.\n")))) ++ rest ≡ (codes "put " ++ decimal n) ++ (10 ∷ text)
    joined = simp append_assoc

    go : Body b rest k n (suc k) → Said n (body b) (change_bytes n (body b)) rest k
    go r = record {
      next = r.next;
      is =
          ap (λ ys. items_of between k (lines_of ys)) joined
          ∙ ap (items_of between k) (lines_cut (codes "put " ++ decimal n) text (plain_unbroken _ (put_plain n h)))
          ∙ rw (put_back n h, items_of) r.is;
    }

change_said : (n : ℕ) (c : Change) (rest : Bytes) (k : ℕ) → n < 10 ^ 10 → Said n c (change_bytes n c) rest k
change_said n removed rest k h = removal_said n rest k h
change_said n (body b) rest k h = put_said n b rest k h

-- every number lies below n
abbrev Under : ℕ → Update → Type 0
Under n [] = Unit {0}
Under n (r ∷ rs) = (r.0 < n) × Under n rs

under_higher : (m n : ℕ) (u : Update) → m ≤ n → Under m u → Under n u
under_higher m n [] h a = tt
under_higher m n (r ∷ rs) h a = (let l = a.0 in omega arith, under_higher m n rs h a.1)

under_push : (m n : ℕ) (c : Change) (u : Update) → n < m → Under m u → Under m (u ++ ((n, c) ∷ []))
under_push m n c [] h a = (h, tt)
under_push m n c (r ∷ rs) h a = (a.0, under_push m n c rs h a.1)

-- a number above all others
find_none : (n : ℕ) (u : Update) → Under n u → find n u ≡ None
unfolding find
find_none n [] a = refl
find_none n (r ∷ rs) a =
    let l = a.0 in
    let e : eqb n r.0 ≡ false = ne_eqb n r.0 (λ q. omega arith) in
    rw (e, find) (find_none n rs a.1)

with_last : (n : ℕ) (c : Change) (u : Update) → Under n u → with_change n c u ≡ u ++ ((n, c) ∷ [])
unfolding with_change
with_last n c [] a = refl
with_last n c (r ∷ rs) a =
    let l = a.0 in
    let e : eqb n r.0 ≡ false = ne_eqb n r.0 (λ q. omega arith) in
    let f : ltb n r.0 ≡ false = le-ltb n r.0 (omega arith) in
    rw (f, e, with_change) (ap {B = Update} (λ v. r ∷ v) (with_last n c rs a.1))

-- a change of a number that has none yet
pub gathered_more : (k n : ℕ) (c : Change) (is : List Item) (u : Update) → is_some (find n u) ≡ false → gathered (change k n c ∷ is) u ≡ gathered is (with_change n c u)
unfolding gathered
gathered_more k n c is u e = rw (e, gathered) refl

-- the first change, and then the others
first_printed : (r : ℕ × Change) (rs acc : Update) (k : ℕ) → Under r.0 acc → r.0 < 10 ^ 10 →
    ((j : ℕ) → gathered (items_of between j (lines_of (print_script rs))) (acc ++ (r ∷ [])) ≡ Ok ((acc ++ (r ∷ [])) ++ rs)) →
    gathered (items_of between k (lines_of (change_bytes r.0 r.1 ++ print_script rs))) acc ≡ Ok (acc ++ (r ∷ rs))
first_printed r rs acc k under small others = go (change_said r.0 r.1 (print_script rs) k small)
  where
    go : Said r.0 r.1 (change_bytes r.0 r.1) (print_script rs) k → gathered (items_of between k (lines_of (change_bytes r.0 r.1 ++ print_script rs))) acc ≡ Ok (acc ++ (r ∷ rs))
    go q =
        let is : List Item = items_of between q.next (lines_of (print_script rs)) in
        ap (λ js. gathered js acc) q.is
        ∙ gathered_more k r.0 r.1 is acc (ap is_some (find_none r.0 acc under))
        ∙ ap (gathered is) (with_last r.0 r.1 acc under)
        ∙ others q.next
        ∙ ap {B = Result Update ScriptError} (λ v. Ok v) (append_assoc acc (r ∷ []) rs)

printed : (low : ℕ) (u acc : Update) (k : ℕ) → Under low acc → Ascends low u → Spellable u → gathered (items_of between k (lines_of (print_script u))) acc ≡ Ok (acc ++ u)
unfolding print_script lines_of items_of gathered
printed low [] acc k a h s = ap {B = Result Update ScriptError} (λ v. Ok v) (sym (append-nil acc))
printed low (r ∷ rs) acc k a h s =
    let under : Under r.0 acc = under_higher low r.0 acc h.0 a in
    let higher : Under (suc r.0) (acc ++ (r ∷ [])) =
    under_push (suc r.0) r.0 r.1 acc (omega arith) (under_higher r.0 (suc r.0) acc (omega arith) under) in
    first_printed r rs acc k under s.0 (λ j. printed (suc r.0) rs (acc ++ (r ∷ [])) j higher h.1 s.1)

pub printed_reads_back : PrintedReadsBack
unfolding read_script said_by
printed_reads_back u h s = printed 0 u [] 1 tt h s
