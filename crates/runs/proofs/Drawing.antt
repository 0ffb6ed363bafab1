-- A revision that is drawn out opens alone, and is then what it was in the file.
use Rattle.std.proofs.Common.{◌≡◌, ℕ, ◌≤◌, Bool, true, false, List, length, take, is_some, Some, None, Ok, Err, Option, sym, refl, ap, ◌∙◌, arith, length-take-le}
use Rattle.faults.specs.declared.fault.Fault.{Fault}
use Rattle.faults.specs.declared.reason.Reason.TheVariants.{BookShut, NoRevision}
use Rattle.faults.specs.Faults.{refused}
use Rattle.format.specs.Book.{standing, Moment, history_in, history, revision_at, end_of_revision, open_file, decide, decide_open, phase_after, bytes_after, Step}
use Rattle.format.specs.Bytes.{Bytes}
use Rattle.format.specs.Chain.{Answer, also, must}
use Rattle.format.specs.Law.{shut_over}
use Rattle.format.specs.Questions.{is_shut, ask_history, ask_revision, ask_count, ask_list, ask_fetch, ask_draw, listing_of}
use Rattle.format.specs.Revisions.{Revision, Opened, opens}
use Rattle.keeping.specs.Delivering.{up_to}
use Rattle.laws.proofs.Files.{history_is, at_take, at_within}
use Rattle.laws.proofs.Unconditional.{prefixes}
use Rattle.tables.proofs.Answered.{also_ok}
use Rattle.runs.specs.Drawn.{Alone}

clash : {A P : Type 0} (a : A) (f : Fault) → ◌≡◌ {A = Answer A} (Ok a) (Err f) → P
clash a f e = let z : ◌≡◌ {A = ℕ} 0 1 = cc in absurd (omega arith)

-- the revision that is looked for
abbrev given : ℕ → Option Revision → Answer Revision
given n o = elim o [ None ↦ Err (refused NoRevision n) | Some r ↦ Ok r ]

abbrev shown_by : ℕ → Bool → List Revision → Answer (List Revision)
shown_by n b rs = elim b [ true ↦ Err (refused BookShut n) | false ↦ Ok rs ]

given_some : (n : ℕ) (o : Option Revision) (r : Revision) → given n o ≡ Ok r → o ≡ Some r
given_some n None r e = clash r _ (sym e)
given_some n (Some q) r e = cc

shown_open : (n : ℕ) (b : Bool) (rs hs : List Revision) → shown_by n b rs ≡ Ok hs → (b ≡ false) × (rs ≡ hs)
shown_open n true rs hs e = clash hs _ (sym e)
shown_open n false rs hs e = (refl, cc)

-- what is asked of revision k of an open book
asked : (m : Moment) (n k : ℕ) → is_shut m.phase ≡ false → ask_revision m n k ≡ given n (revision_at k (history m.store.bytes))
unfolding ask_revision ask_history
asked m n k h = ap (λ b. also (shown_by n b (history m.store.bytes)) (λ rs. given n (revision_at k rs))) h

-- a drawing that is accepted: the book is open, and what is drawn are the bytes up to the end of a revision that is there
record Draws (m : Moment) (k : ℕ) (b : Bytes) : Type 0 where
  unshut : is_shut m.phase ≡ false
  revision : Revision
  there : revision_at k (history m.store.bytes) ≡ Some revision
  bytes : b ≡ take revision.end m.store.bytes

found : (m : Moment) (n k : ℕ) (r : Revision) → ask_revision m n k ≡ Ok r → (is_shut m.phase ≡ false) × (revision_at k (history m.store.bytes) ≡ Some r)
unfolding ask_revision ask_history
found m n k r e =
    let a = also_ok (ask_history m n) (λ rs. given n (revision_at k rs)) r e in
    let b = shown_open n (is_shut m.phase) (history m.store.bytes) a.0 a.1 in
    (b.0, ap (revision_at k) b.1 ∙ given_some n (revision_at k a.0) r a.2)

must_be : (t : Bool) (f : Fault) (x b : Bytes) → must t f (λ _. Ok x) ≡ Ok b → b ≡ x
must_be true f x b e = cc
must_be false f x b e = clash b f (sym e)

draws : (m : Moment) (k space : ℕ) (b : Bytes) → ask_draw m k space ≡ Ok b → Draws m k b
unfolding ask_draw
draws m k space b e =
    let a = also_ok (ask_revision m 0 k) _ b e in
    let f = found m 0 k a.0 a.1 in
    record { unshut = f.0; revision = a.0; there = f.1; bytes = must_be _ _ (take a.0.end m.store.bytes) b a.2 }

opened_some : (a : Answer Opened) → 1 ≤ length (history_in a) → (o : Opened) × (a ≡ Ok o)
unfolding history_in
opened_some (Ok o) h = (o, refl)
opened_some (Err f) h = absurd (omega arith)

end_there : (k : ℕ) (rs : List Revision) (r : Revision) → revision_at k rs ≡ Some r → end_of_revision k rs ≡ r.end
unfolding end_of_revision
end_there k rs r e = rw (e, end_of_revision) refl

-- the bytes of a book up to the end of a revision that is there
module _ (m : Moment) (k : ℕ) (b : Bytes) (d : Draws m k b) where
  abbrev file : Bytes
  file = m.store.bytes

  within : (1 ≤ k) × (k ≤ length (history file))
  within = at_within k (history file) (ap is_some d.there)

  opened : (o : Opened) × (opens file ≡ Ok o)
  unfolding history
  opened = let w = within in opened_some (opens file) (omega (arith, w.0, w.1))

  high : k ≤ length opened.0.history
  high = let n = ap length (history_is file opened.0 opened.1) in omega (arith, n, within.1)

  cut : b ≡ take (end_of_revision k opened.0.history) file
  cut = d.bytes ∙ ap (λ x. take x file) (sym (end_there k _ d.revision (ap (revision_at k) (sym (history_is file opened.0 opened.1)) ∙ d.there)))

  drawn_opens : opens b ≡ Ok (record { header = opened.0.header; history = take k opened.0.history })
  drawn_opens = ap opens cut ∙ prefixes file opened.0 k opened.1 within.0 high

  same_bytes : b ≡ up_to file k
  same_bytes = d.bytes ∙ ap (λ x. take x file) (sym (end_there k (history file) d.revision d.there))

  counted : length (take k opened.0.history) ≡ k
  counted = length-take-le k opened.0.history high

  same_history : history b ≡ take k opened.0.history
  same_history = history_is b (record { header = opened.0.header; history = take k opened.0.history }) drawn_opens

  same_revision : (j : ℕ) → j ≤ k → revision_at j (history b) ≡ revision_at j (history file)
  same_revision j h = ap (revision_at j) same_history ∙ at_take j k opened.0.history h ∙ ap (revision_at j) (sym (history_is file opened.0 opened.1))

-- two open books with the same revision j answer alike of it
module _ (m n : Moment) (j : ℕ) (u : is_shut m.phase ≡ false) (v : is_shut n.phase ≡ false) (e : revision_at j (history n.store.bytes) ≡ revision_at j (history m.store.bytes)) where
  same_asked : (number : ℕ) → ask_revision n number j ≡ ask_revision m number j
  same_asked number = asked n number j v ∙ ap (given number) e ∙ sym (asked m number j u)

  same_list : ask_list n j ≡ ask_list m j
  unfolding ask_list
  same_list = ap (λ z. also z (λ r. Ok (listing_of r))) (same_asked 0)

  same_fetch : (number room : ℕ) → ask_fetch n j number room ≡ ask_fetch m j number room
  unfolding ask_fetch
  same_fetch number room = rw (same_asked number) refl

counts_all : (n : Moment) (k : ℕ) → is_shut n.phase ≡ false → length (history n.store.bytes) ≡ k → ask_count n ≡ Ok k
unfolding ask_count ask_history
counts_all n k v e = ap (λ b. also (shown_by 0 b (history n.store.bytes)) (λ rs. Ok (length rs))) v ∙ ap Ok e

-- what was drawn out into an empty store, after an accepted opening
pub alone : (m n : Moment) (k space room : ℕ) (b : Bytes) → ask_draw m k space ≡ Ok b → Step (shut_over b room) open_file (Ok tt) n → Alone m k n
unfolding phase_after bytes_after is_shut
alone m n k space room b e s =
    let d = draws m k space b e in
    let is : n.store.bytes ≡ b = s.leaves.bytes in
    let stands : n.phase ≡ standing = s.leaves.phase in
    let v : is_shut n.phase ≡ false = ap is_shut stands in
    let o = opened m k b d in
    let same : (j : ℕ) → j ≤ k → revision_at j (history n.store.bytes) ≡ revision_at j (history m.store.bytes) =
    λ j h. ap (λ x. revision_at j (history x)) is ∙ same_revision m k b d j h
    in
    record {
      bytes = is ∙ same_bytes m k b d;
      accepted = record { opened = record { header = o.0.header; history = take k o.0.history }; accepted = ap opens is ∙ drawn_opens m k b d; counted = counted m k b d };
      stands = stands;
      counts = counts_all n k v (ap (λ x. length (history x)) is ∙ ap length (same_history m k b d) ∙ counted m k b d);
      revisions = same;
      lists = λ j h. same_list m n j d.unshut v (same j h);
      fetches = λ j number r h. same_fetch m n j d.unshut v (same j h) number r;
    }

-- and its opening is never refused
pub opens_alone : (m n : Moment) (k space room : ℕ) (b : Bytes) (f : Fault) → ask_draw m k space ≡ Ok b → Step (shut_over b room) open_file (Err f) n → ⊥
unfolding decide decide_open
opens_alone m n k space room b f e s = clash tt f (sym (ap decide_open (drawn_opens m k b (draws m k space b e))) ∙ sym s.answer)
