-- Updates stacked behind an accepted file: it opens as its revisions and one more for each update, each cut gives the file with the first of them.
use Rattle.std.proofs.Common.{◌≡◌, ℕ, zero, suc, ◌+◌, ◌≤◌, true, List, [], ◌∷◌, ◌++◌, length, take, Some, Ok, sym, refl, ap, ◌∙◌, subst, append_assoc, append-nil, arith, length-append}
use lib.Seq.{take-append_seam}
use Rattle.format.specs.Acceptable.{Acceptable}
use Rattle.format.specs.Account.{with_updates, objects_at}
use Rattle.format.specs.Book.{history, revision_at, blank, newest, addition, within_limits, end_of_revision}
use Rattle.format.specs.Bytes.{Bytes}
use Rattle.format.specs.Revisions.{Revision, Opened, opens}
use Rattle.format.specs.Theorems.{FreeListAscends, UpdatesReadBack, UpdatesTellApart, last_update}
use Rattle.format.specs.Updates.{Update, objects_of, applied, applied_all}
use Rattle.laws.proofs.Ends.{opened_ends}
use Rattle.laws.proofs.Files.{at_front, at_newest, end_at, ends_at_length, history_is, newest_is, newest_or_snoc, objects_some}

-- Each update is acceptable on what stands before it, and stays within the limits.
abbrev pub Stacked : Bytes → List Update → Type 0
Stacked file [] = Unit {0}
Stacked file (u ∷ us) = Acceptable (newest file) u × (within_limits file u ≡ true) × Stacked (file ++ addition file u) us

-- the first updates of a stack
pub stacked_take : (j : ℕ) (us : List Update) (file : Bytes) → Stacked file us → Stacked file (take j us)
stacked_take zero us file g = tt
stacked_take (suc j) [] file g = tt
stacked_take (suc j) (u ∷ us) file g = (g.0, g.1, stacked_take j us (file ++ addition file u) g.2)

-- one update more
pub stacked_snoc : (us : List Update) (u : Update) (file : Bytes) → Stacked file us →
    Acceptable (newest (with_updates us file)) u → within_limits (with_updates us file) u ≡ true → Stacked file (us ++ (u ∷ []))
unfolding with_updates
stacked_snoc [] u file g a w = (a, w, tt)
stacked_snoc (x ∷ us) u file g a w = (g.0, g.1, stacked_snoc us u (file ++ addition file x) g.2 a w)

-- the free numbers of each revision lead from one to the next
abbrev pub AllLinked : List Revision → Type 0
AllLinked [] = Unit {0}
AllLinked (r ∷ rs) = FreeListAscends 0 r.states × AllLinked rs

-- a file with a stack of updates, opened
pub record Built (file : Bytes) (o : Opened) (us : List Update) : Type 0 where
  pub made : List Revision
  pub opened : opens (with_updates us file) ≡ Ok (record { header = o.header; history = o.history ++ made })
  pub counted : length made ≡ length us
  pub linked : AllLinked made
  pub more : Bytes
  pub joined : with_updates us file ≡ file ++ more

module _ (reads : UpdatesReadBack) where
  -- A stack of updates opens as the revisions of the file and one for each update.
  pub built : (us : List Update) (file : Bytes) (o : Opened) → opens file ≡ Ok o → Stacked file us → Built file o us
  unfolding with_updates
  built [] file o e g = record {
    made = [];
    opened = e ∙ (let q : o.history ≡ o.history ++ [] = sym (append-nil o.history) in λ i. Ok (record { header = o.header; history = q i }));
    counted = refl;
    linked = tt;
    more = [];
    joined = sym (append-nil file);
  }
  built (u ∷ us) file o e g =
      let s = reads file o u e g.0 g.1 in
      let b = built us (file ++ addition file u) (record { header = o.header; history = o.history ++ (s.0 ∷ []) }) s.1.accepted g.2 in
      record {
        made = s.0 ∷ b.made;
        opened = b.opened ∙ (let q = append_assoc o.history (s.0 ∷ []) b.made in λ i. Ok (record { header = o.header; history = q i }));
        counted = ap suc b.counted;
        linked = (s.1.links, b.linked);
        more = addition file u ++ b.more;
        joined = b.joined ∙ append_assoc file (addition file u) b.more;
      }

  -- The revisions of a stack, as a list.
  pub built_history : (us : List Update) (file : Bytes) (o : Opened) (b : Built file o us) → history (with_updates us file) ≡ o.history ++ b.made
  built_history us file o b = history_is (with_updates us file) (record { header = o.header; history = o.history ++ b.made }) b.opened

  -- A cut at the end of a revision that an update made leaves the stack up to that update.
  pub cut_stack : (us : List Update) (file : Bytes) (o : Opened) (j : ℕ) → opens file ≡ Ok o → Stacked file us → j ≤ length us →
      take (end_of_revision (length o.history + j) (history (with_updates us file))) (with_updates us file) ≡ with_updates (take j us) file
  unfolding with_updates
  cut_stack us file o zero e g h =
      let b = built us file o e g in
      let w = with_updates us file in
      let n : length o.history + 0 ≡ length o.history = omega arith in
      let end : end_of_revision (length o.history + 0) (history w) ≡ length file =
      ap (λ i. end_of_revision i (history w)) n
      ∙ ap (end_of_revision (length o.history)) (built_history us file o b)
      ∙ end_at (length o.history) (o.history ++ b.made) o.history (at_front (length o.history) o.history b.made (omega arith))
      ∙ ends_at_length file o e in
      ap (λ i. take i w) end ∙ ap (λ (f : Bytes). take (length file) f) b.joined ∙ take-append_seam file b.more
  cut_stack [] file o (suc j) e g h = absurd (omega arith)
  cut_stack (u ∷ us) file o (suc j) e g h =
      let s = reads file o u e g.0 g.1 in
      let p : Opened = record { header = o.header; history = o.history ++ (s.0 ∷ []) } in
      let more = cut_stack us (file ++ addition file u) p j s.1.accepted g.2 (omega arith) in
      let l = length-append o.history (s.0 ∷ []) in
      let n : length o.history + suc j ≡ length p.history + j = omega arith in
      rw n more

  -- Behind an update, the newest revision shows what it leaves of the one before.
  pub update_shows : (u : Update) (file : Bytes) (o : Opened) → opens file ≡ Ok o → Acceptable (newest file) u → within_limits file u ≡ true →
      objects_of (newest (file ++ addition file u)) ≡ applied u (objects_of (newest file))
  update_shows u file o e a l =
      let s = reads file o u e a l in
      let r : newest (file ++ addition file u) ≡ s.0 =
      newest_is (file ++ addition file u) (record { header = o.header; history = o.history ++ (s.0 ∷ []) }) s.1.accepted ∙ newest_or_snoc blank o.history s.0 in
      ap objects_of r ∙ s.1.shows

  -- The revision that an update made shows what the updates up to it leave.
  pub stack_shows : (us : List Update) (file : Bytes) (o : Opened) (j : ℕ) → opens file ≡ Ok o → Stacked file us → j ≤ length us →
      objects_at (with_updates us file) (length o.history + j) ≡ applied_all (take j us) (objects_of (newest file))
  unfolding with_updates applied_all
  stack_shows us file o zero e g h =
      let b = built us file o e g in
      let w = with_updates us file in
      let n : length o.history + 0 ≡ length o.history = omega arith in
      let a = opened_ends file o e in
      let r : revision_at (length o.history) (history w) ≡ Some (newest file) =
      ap (revision_at (length o.history)) (built_history us file o b)
      ∙ at_front (length o.history) o.history b.made (omega arith)
      ∙ at_newest o.history a.1
      ∙ ap Some (sym (newest_is file o e)) in
      ap (objects_at w) n ∙ objects_some w (length o.history) (newest file) r
  stack_shows [] file o (suc j) e g h = absurd (omega arith)
  stack_shows (u ∷ us) file o (suc j) e g h =
      let s = reads file o u e g.0 g.1 in
      let p : Opened = record { header = o.header; history = o.history ++ (s.0 ∷ []) } in
      let w = with_updates us (file ++ addition file u) in
      let more = stack_shows us (file ++ addition file u) p j s.1.accepted g.2 (omega arith) in
      let l = length-append o.history (s.0 ∷ []) in
      let n : length o.history + suc j ≡ length p.history + j = omega arith in
      ap (objects_at w) n ∙ more ∙ ap (applied_all (take j us)) (update_shows u file o e g.0 g.1)

  -- Equal stacks behind a file are equally high.
  pub same_height : (us vs : List Update) (file : Bytes) (o : Opened) → opens file ≡ Ok o → Stacked file us → Stacked file vs →
      with_updates us file ≡ with_updates vs file → length us ≡ length vs
  same_height us vs file o e g k q =
      let b = built us file o e g in
      let c = built vs file o e k in
      let h : o.history ++ b.made ≡ o.history ++ c.made = sym (built_history us file o b) ∙ ap history q ∙ built_history vs file o c in
      let l = ap length h in
      let m = length-append o.history b.made in
      let n = length-append o.history c.made in
      let x = b.counted in
      let y = c.counted in
      omega arith

  -- Equal stacks behind a file hold equal updates.
  pub same_stack : UpdatesTellApart → (us vs : List Update) (file : Bytes) (o : Opened) → opens file ≡ Ok o → Stacked file us → Stacked file vs →
      with_updates us file ≡ with_updates vs file → us ≡ vs
  unfolding with_updates
  same_stack apart [] [] file o e g k q = refl
  same_stack apart [] (v ∷ vs) file o e g k q = let n = same_height [] (v ∷ vs) file o e g k q in absurd (omega arith)
  same_stack apart (u ∷ us) [] file o e g k q = let n = same_height (u ∷ us) [] file o e g k q in absurd (omega arith)
  same_stack apart (u ∷ us) (v ∷ vs) file o e g k q =
      let x : take (end_of_revision (length o.history + suc zero) (history (with_updates (u ∷ us) file))) (with_updates (u ∷ us) file) ≡ file ++ addition file u =
      cut_stack (u ∷ us) file o (suc zero) e g (omega arith) in
      let y : take (end_of_revision (length o.history + suc zero) (history (with_updates (v ∷ vs) file))) (with_updates (v ∷ vs) file) ≡ file ++ addition file v =
      cut_stack (v ∷ vs) file o (suc zero) e k (omega arith) in
      let z : file ++ addition file u ≡ file ++ addition file v =
      sym x ∙ ap (λ (w : Bytes). take (end_of_revision (length o.history + suc zero) (history w)) w) q ∙ y in
      let first : u ≡ v =
      sym (apart file o u e g.0 g.1) ∙ ap (λ (w : Bytes). last_update w (newest file).states) z ∙ apart file o v e k.0 k.1 in
      let s = reads file o u e g.0 g.1 in
      let stacked : Stacked (file ++ addition file u) vs = subst (λ (w : Bytes). Stacked w vs) (sym z) k.2 in
      let same : with_updates us (file ++ addition file u) ≡ with_updates vs (file ++ addition file u) = q ∙ ap (with_updates vs) (sym z) in
      let rest : us ≡ vs = same_stack apart us vs (file ++ addition file u) (record { header = o.header; history = o.history ++ (s.0 ∷ []) }) s.1.accepted g.2 stacked same in
      λ i. first i ∷ rest i
