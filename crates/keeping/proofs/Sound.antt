-- Every accepted call leaves a book's tables those of its bytes.
use Rattle.std.proofs.Common.{ℕ, List, take, is_some, Ok, ap, ◌∙◌}
use Rattle.faults.specs.declared.reason.Reason.TheVariants.{NoRevision}
use Rattle.faults.specs.Faults.{refused}
use Rattle.stores.specs.Meanings.{Meaning}
use Rattle.format.specs.Book.{revision_at, end_of_revision, decide, bytes_after}
use Rattle.format.specs.Chain.{Answer, must}
use Rattle.chains.proofs.Openings.{history_opened}
use Rattle.entries.specs.declared.cell.Cell.{Cell}
use Rattle.entries.specs.declared.revision.Revision.{Revision}
use Rattle.keeping.specs.Staying.{RowAt}
use Rattle.keeping.specs.Standing.{Stands, BackBy, SoundStays}
use Rattle.keeping.proofs.Commits.{stays_acceptable, commits_fit, commits_read, after_commit}
use Rattle.keeping.proofs.Kept.{tables_cut}
use Rattle.keeping.proofs.Told.{tables_tell}

back_by : (s : Meaning) (rs : List Revision) (cs : List Cell) (k : ℕ) → Stands s.bytes rs cs → BackBy s rs cs k
unfolding decide bytes_after
back_by s rs cs k st =
    let o = st.opened in
    let h = history_opened s.bytes o st.accepted in
    let T = tables_tell s.bytes o.history rs cs st.tables in
    let C = λ (q : Revision) (a : RowAt rs k q). tables_cut s.bytes o rs cs k q st.accepted st.tables a in
    record {
      none = λ a.
          ap {B = Answer (Unit {0})} (λ x. must (is_some x) (refused NoRevision 0) (λ _. Ok tt)) (ap (revision_at k) h ∙ T.none k a);
      some = λ q a.
          ap {B = Answer (Unit {0})} (λ x. must (is_some x) (refused NoRevision 0) (λ _. Ok tt)) (ap (revision_at k) h ∙ (T.row k q a).1);
      bytes = λ q a. ap (λ n. take n s.bytes) (ap (end_of_revision k) h ∙ (C q a).end);
      sound = λ q a. record { opened = record { header = o.header; history = take k o.history }; accepted = (C q a).opened; tables = (C q a).tables };
    }

pub sound_stays : SoundStays
sound_stays = record {
  opening = λ file o rs cs e t. record { opened = o; accepted = e; tables = t };
  begin = λ file rs cs st. (st, (stays_acceptable _).begin);
  put = λ file rs cs u n b st d. (st.0, (stays_acceptable _).put u n b st.1 d);
  remove = λ file rs cs u n st d. (st.0, (stays_acceptable _).remove u n st.1 d);
  abandon = λ file rs cs u st. st.0;
  commit = λ s rs cs u st d.
      let o = st.0.opened in
      let e = st.0.accepted in
      let w = commits_read s.bytes o u e st.1 (commits_fit s u d).limits in
      record {
        opened = o;
        accepted = e;
        reads = w;
        sound = λ new q n. record {
          opened = _;
          accepted = w.is.accepted;
          tables = after_commit s.bytes _ o rs cs new w.made q e st.0.tables n;
        };
      };
  back = back_by;
}
