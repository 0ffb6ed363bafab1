-- Lists of calls as runs, from the first call on.
use Rattle.std.proofs.Common.{◌≡◌, ℕ, ◌+◌, ◌<◌, true, not, List, [], ◌∷◌, ◌++◌, map, length, get_or, Ok, Err, Result, vec_items, sym, refl, ap, ◌∙◌, subst, arith, length-append}
use Rattle.std.proofs.lemmas.List.{length-map, get_or-map}
use Rattle.faults.specs.declared.fault.Fault.{Fault}
use Rattle.stores.specs.Meanings.{Meaning}
use Rattle.stores.specs.declared.store.Store.{Ghosts}
use Rattle.format.specs.Book as format
use Rattle.format.specs.Book.{shut, Moment, open_file, decide, decide_open, Step}
use Rattle.format.specs.Chain.{Answer}
use Rattle.format.specs.Law.{Run, shut_over, RunFrom}
use Rattle.format.specs.Revisions.{Opened, opens}
use Rattle.keeping.specs.Delivering.{Delivered}
use Rattle.keeping.specs.Driving.{events_of, is_updating}
use Rattle.keeping.proofs.Delivers.{every_run, any_two}
use Rattle.keeping.proofs.Runs.{events_grow, runs_grow}
use Rattle.book.specs.declared.book.Book.{Book}
use Rattle.book.specs.declared.call.Call.{Call}
use Rattle.book.specs.declared.slip.Slip.{Slip}
use Rattle.book.specs.Books.{Performs, moment_of, store_in}
use Rattle.book.specs.Calls.{call_of}
use Rattle.book.specs.Slips.{is_spent}
use Rattle.runs.specs.declared.outcome.Stopped.{Stopped}
use Rattle.runs.specs.declared.outcome.Work.{Work}
use Rattle.runs.specs.declared.outcome.WorkError.{WorkError}
use Rattle.runs.specs.Made.{Tied, Makes, MakesAll}
use Rattle.runs.specs.Works.{events_in, Finished, Worked, Compared}
use Rattle.runs.proofs.Ties.{tie_after}

-- calls without answers are no events
pub no_events : (cs : List format.Call) → events_of cs [] ≡ []
no_events [] = refl
no_events (c ∷ cs) = refl

-- before the first call
pub run_none : (m : Moment) (cs : List format.Call) (answers : List (Answer (Unit {0}))) → answers ≡ [] → Run m (events_of cs answers) m
run_none m cs answers e = subst (λ es. Run m es m) (sym (ap (events_of cs) e ∙ no_events cs)) refl

-- one answer more
pub one_more : {A : Type 0} (answers more : List A) (a : A) (i : ℕ) → length answers ≡ i → more ≡ answers ++ (a ∷ []) → length more ≡ i + 1
one_more answers more a i n e = let h = length-append answers (a ∷ []) in ap length e ∙ h ∙ (omega (arith, n))

opens_not : (a : Answer Opened) (f : Fault) → Err f ≡ decide_open a → a ≡ Err f
unfolding decide_open
opens_not (Ok o) f e = let z : ◌≡◌ {A = ℕ} 0 1 = cc in absurd (omega arith)
opens_not (Err x) f e = cc

module _ {S : Type 0} {g : Ghosts S} (meaning : S → Meaning) where
  -- one call more
  pub run_more : (m : Moment) (calls : List Call) (answers more : List (Answer (Unit {0}))) (x y : Book S g) (s : Slip) (d : Call) (a : Answer (Unit {0})) (i : ℕ) →
      length answers ≡ i → i < length calls → more ≡ answers ++ (a ∷ []) →
      Run m (events_of (map call_of calls) answers) (moment_of meaning x) →
      Makes meaning x (call_of (get_or calls i d)) a y s →
      Run m (events_of (map call_of calls) more) (moment_of meaning y)
  run_more m calls answers more x y s d a i n l e r w =
      let c = call_of (get_or calls i d) in
      let cs = map call_of calls in
      let size = length-map calls call_of in
      let here : c ≡ get_or cs (length answers) c = sym (get_or-map call_of calls i d c l) ∙ ap (λ k. get_or cs k c) (sym n) in
      let grown = events_grow cs answers c a (omega (arith, size, n, l)) here in
      subst (λ es. Run m es (moment_of meaning y)) (sym (ap (events_of cs) e ∙ grown))
      (runs_grow.more m (moment_of meaning x) (moment_of meaning y) (events_of cs answers) c a r w.performs.step)

  -- no update is open after an opening, and so a spent slip is held
  pub opened_tied : (b b' : Book S g) (s : Slip) → (moment_of meaning b).phase ≡ shut → is_spent s ≡ true → Performs meaning b open_file (Ok tt) b' → Tied meaning b' s
  opened_tied b b' s e h p = tie_after (moment_of meaning b) (moment_of meaning b') open_file (Ok tt) true p.step (ap is_updating e) ∙ ap not (sym h)

  -- the opening first, then the calls
  pub finished : (b x y : Book S g) (calls : List Call) (answers : List (Answer (Unit {0}))) (s : Slip) → (moment_of meaning b).phase ≡ shut →
      Performs meaning b open_file (Ok tt) x → MakesAll meaning x calls answers y s → Finished meaning (meaning (store_in b)) calls y s answers
  finished b x y calls answers s e p w =
      let was = meaning (store_in b) in
      let first : Step (shut_over was.bytes was.space) open_file (Ok tt) (moment_of meaning x) =
      subst (λ q. Step (record { store = was; phase = q }) open_file (Ok tt) (moment_of meaning x)) e p.step
      in
      let run : RunFrom was.bytes was.space (events_in calls answers) (moment_of meaning y) = (moment_of meaning x, first, w.run) in
      record {
        counted = w.counted;
        run = run;
        delivered = every_run was.bytes was.space (events_in calls answers) (moment_of meaning y) run;
        sound = w.sound;
        tied = w.tied;
      }

  -- an opening that was refused
  pub unopened : (b b' : Book S g) (f : Fault) (out : S) → (moment_of meaning b).phase ≡ shut → Performs meaning b open_file (Err f) b' → out ≡ store_in b' →
      (opens (meaning (store_in b)).bytes ≡ Err f) × (meaning out ≡ meaning (store_in b))
  unfolding decide
  unopened b b' f out e p h =
      (opens_not _ f (p.step.answer ∙ ap (λ q. decide (meaning (store_in b)) q open_file) e), ap meaning h ∙ ap (λ m. m.store) p.step.leaves)

-- two lists of calls from the same bytes
pub compared : {S T : Type 0} {p : Ghosts S} {q : Ghosts T} (f : S → Meaning) (g : T → Meaning) (first : S) (second : T) (cs ds : List Call) (v : Result (Work S p) (Stopped S WorkError)) (w : Result (Work T q) (Stopped T WorkError)) →
    Worked f first cs v → Worked g second ds w → Compared f g first second cs ds v w
compared f g first second cs ds (Ok v) (Ok w) p q = λ e.
    any_two (f first).bytes (f first).space (g second).space (events_in cs (vec_items v.answers)) (events_in ds (vec_items w.answers)) (f (store_in v.book)).bytes (g (store_in w.book)).bytes p.delivered
    (subst (λ x. Delivered x (g second).space (events_in ds (vec_items w.answers)) (g (store_in w.book)).bytes) (sym e) q.delivered)
compared f g first second cs ds (Ok v) (Err e) p q = tt
compared f g first second cs ds (Err e) w p q = tt
