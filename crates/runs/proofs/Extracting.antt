-- A revision that was drawn out into an empty store, opened by a new book.
use Rattle.std.proofs.Common.{◌≡◌, ℕ, [], ◌++◌, Ok, Err, Result, sym, refl, ap, ◌∙◌, subst}
use Rattle.faults.specs.declared.fault.Fault.{Fault}
use Rattle.stores.specs.Meanings.{Meaning}
use Rattle.stores.specs.declared.store.Store.{Ghosts}
use Rattle.format.specs.Book.{shut, Moment, open_file, bytes_after, Step}
use Rattle.format.specs.Chain.{Answer}
use Rattle.format.specs.Law.{shut_over}
use Rattle.book.specs.declared.book.Book.{Book}
use Rattle.book.specs.Asked.{Draws}
use Rattle.book.specs.Books.{Performs, moment_of, store_in}
use Rattle.runs.specs.declared.alone.ExtractError.{ExtractError}
use Rattle.runs.specs.Extracts.{DrawsAlone, Extracts}
use Rattle.runs.proofs.Drawing.{alone, opens_alone}

-- a drawing that was not refused
pub not_refused : {S T : Type 0} {v : Ghosts S} (f : S → Meaning) (g : T → Meaning) (b : Book S v) (k : ℕ) (out x : T) (s : Result (Unit {0}) ExtractError) → ((e : ExtractError) → s ≡ Err e → ⊥) → DrawsAlone f g b k out s x →
    ((g out).bytes ≡ []) × Draws (moment_of f b) k (g out) (Ok tt) (g x)
not_refused f g b k out x (Ok u) other d = d
not_refused f g b k out x (Err e) other d = absurd (other e refl)

module _ {S T : Type 0} {v : Ghosts S} {w : Ghosts T} (f : S → Meaning) (g : T → Meaning) (b : Book S v) (k : ℕ) (out x : T) (u : Unit {0}) (empty : (g out).bytes ≡ []) (d : Draws (moment_of f b) k (g out) (Ok u) (g x)) (n : Book T w) (e : store_in n ≡ x) (new : (moment_of g n).phase ≡ shut) where
  -- the new book is shut over the bytes that were drawn
  shut_over_fact : (a : Answer (Unit {0})) (n' : Moment) → Step (moment_of g n) open_file a n' → Step (shut_over d.0 (g (store_in n)).space) open_file a n'
  shut_over_fact a n' s =
      let bytes : (g (store_in n)).bytes ≡ d.0 = ap (λ z. (g z).bytes) e ∙ d.2.bytes ∙ ap (λ z. z ++ d.0) empty in
      let at : moment_of g n ≡ shut_over d.0 (g (store_in n)).space = λ i. record { store = record { bytes = bytes i; space = (g (store_in n)).space }; phase = new i } in
      subst (λ m. Step m open_file a n') at s

  pub extract_opened : (n' : Book T w) → Performs g n open_file (Ok tt) n' → Extracts f g b k out (Ok n')
  unfolding bytes_after
  extract_opened n' p =
      let s = shut_over_fact (Ok tt) (moment_of g n') p.step in
      (empty, d.1 ∙ ap Ok (sym s.leaves.bytes), p.sound, alone (moment_of f b) (moment_of g n') k (g out).space (g (store_in n)).space d.0 d.1 s)

  pub extract_opens : (n' : Book T w) (z : Fault) → Performs g n open_file (Err z) n' → ⊥
  extract_opens n' z p =
      opens_alone (moment_of f b) (moment_of g n') k (g out).space (g (store_in n)).space d.0 z d.1 (shut_over_fact (Err z) (moment_of g n') p.step)
