-- An open file with its tables keeps the bounds.
use Rattle.std.proofs.Common.{ℕ, ◌≤◌, length, Some, None, ap, subst, arith}
use Rattle.format.specs.Book.{blank}
use Rattle.format.specs.Revisions as format
use Rattle.format.specs.Revisions.{State, used, free, nth}
use Rattle.format.specs.Writing.{entry_gen}
use Rattle.locality.proofs.Cases.{cases_o}
use Rattle.chains.proofs.Ends.{ends_ascend}
use Rattle.chains.proofs.Needs.{needed}
use Rattle.chains.proofs.Openings.{history_opened, newest_opened}
use Rattle.tables.specs.Sound.{Fit, Sound}
use Rattle.tables.proofs.SoundTables.{opened_sound}
use Rattle.entries.specs.Tables.{cells_of}
use Rattle.keeping.proofs.Told.{tables_tell, last_row}
use Rattle.writer.proofs.Planning.{generations_from}
use Rattle.bounds.specs.Bounded.{OpenFilesAreBounded}
use Rattle.bounds.proofs.Sizes.{opened_small, newest_small, rows_small}

generation_fits : (n : ℕ) (s : State) → Fit n s → entry_gen (Some s) ≤ 65535
unfolding entry_gen
generation_fits n (used g b) f = let h = f.1 in omega arith
generation_fits n (free g l) f = f.0

no_generation : entry_gen None ≤ 65535
unfolding entry_gen
no_generation = omega arith

generations_fit : (r : format.Revision) → Sound r → (n : ℕ) → entry_gen (nth n r.states) ≤ 65535
generations_fit r S n = cases_o (nth n r.states) (λ e. rw e no_generation) (λ s e. rw e (generation_fits n s (S.fits n s e)))

pub bounded : OpenFilesAreBounded
bounded file rs cs st =
    let o = st.opened in
    let e = st.accepted in
    let t = st.tables in
    let x = ends_ascend needed file o e in
    let small = opened_small file o e in
    let n = (tables_tell file o.history rs cs t).counted in
    let l = last_row file o rs cs e t in
    let f = x.few in
    let c = ap length (history_opened file o e) in
    record {
      tabled = record { small = rows_small file cs o.history rs t.is small; stacked = t.stacked };
      some = l.0;
      few = omega arith;
      counted = omega arith;
      short = x.short;
      offset = x.newest_offset;
      size = rw (newest_opened file o e) (newest_small blank o.history (omega arith) small);
      generations = λ q a.
          let w = l.1 q a in
          generations_from file (cells_of cs q)
          (λ m. subst (λ ss. entry_gen (nth m ss) ≤ 65535) w.states (generations_fit _ (opened_sound file o e).newest m));
    }
