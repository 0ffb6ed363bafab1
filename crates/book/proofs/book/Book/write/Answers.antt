use Rattle.std.proofs.Common.{◌+◌, ◌≤◌, false, Ok, Err, sym, refl, ◌∙◌, subst, arith}
use Rattle.stores.specs.Meanings.{Appends}
use Rattle.format.specs.Book.{blank, commit, updating, decide, newest_or}
use Rattle.records.specs.Tabled.{Revised, revisions_held, cells_held}
use Rattle.records.proofs.Answering.{handed}
use Rattle.book.specs.declared.book.Memory.{Memory}
use Rattle.book.specs.Books.{update_in}
use Rattle.book.proofs.Committed.{from_before, offset_small, few_rows, rows_tabled, committed_sound, committed}
use Rattle.book.proofs.Performed.{refused_at, updating_phase}
use Rattle.book.proofs.book.Book.write.Goals as goal

pub returns-in_err-check_commit : goal.returns-in_err-check_commit
unfolding decide
returns-in_err-check_commit g c =
    let m = g.S.Store.meaning in
    let b = c.args.self.now in
    let b' = c.draft-objects.new.self in
    let D = c.draft-objects.ensures in
    let z = handed c.from_residual.result c.in_err-check_commit.field-0.0 c.from_residual.ensures.1 in
    let e = D.phase ∙ c.requires in
    rw z (from_before m b b' _ D (commit false) (Err c.in_err-check_commit.field-0.0) b'
    (refused_at m b' (commit false) c.in_err-check_commit.field-0.0 (updating (update_in b')) (updating_phase m b' b'.sound e) (sym c.in_err-check_commit.ensures) b'.sound))

pub overflow_add-offset : goal.overflow_add-offset
overflow_add-offset g c =
    let m = g.S.Store.meaning in
    let b' = c.draft-objects.new.self in
    let D = c.draft-objects.ensures in
    omega (arith, c.len.ensures, offset_small b' (D.phase ∙ c.requires) c.draft-objects.result D.drafted (sym c.in_ok-check_commit.ensures))

pub read_revision-requires : goal.read_revision-requires
read_revision-requires g c =
    let m = g.S.Store.meaning in
    let b' = c.draft-objects.new.self in
    let D = c.draft-objects.ensures in
    let accepted = sym c.in_ok-check_commit.ensures in
    record {
      few = few_rows b' (D.phase ∙ c.requires) c.draft-objects.result D.drafted accepted;
      tabled = rows_tabled b' (D.phase ∙ c.requires) c.draft-objects.result D.drafted accepted;
    }

pub invariant_of-self : goal.invariant_of-self
invariant_of-self g c =
    let m = g.S.Store.meaning in
    let b' = c.draft-objects.new.self in
    let D = c.draft-objects.ensures in
    let t : Memory = record { tables = c.read_revision.new.tables; scratch = c.read_revision.new.scratch; held = b'.memory.held; writer = b'.memory.writer } in
    let n = c.draft-objects.result in
    record {
      sound = committed_sound b' (D.phase ∙ c.requires) n D.drafted (sym c.in_ok-check_commit.ensures) c.append.new.self t c.append.result c.read_revision.result
          (subst (λ more. Appends (m b'.store) more c.append.result (m c.append.new.self)) c.as_slice.ensures c.append.ensures)
          (λ h i l.
          subst (λ k. Revised (m c.append.new.self).bytes h (k + n) c.read_revision.result (revisions_held t.tables) (cells_held t.tables)) c.len.ensures
          (c.read_revision.ensures.is h i (subst (λ k. (newest_or blank h).offset ≤ k + n) (sym c.len.ensures) l)));
    }

pub returns : goal.returns
returns g c =
    let m = g.S.Store.meaning in
    let b = c.args.self.now in
    let b' = c.draft-objects.new.self in
    let D = c.draft-objects.ensures in
    let n = c.draft-objects.result in
    from_before m b b' n D (commit false) (Ok tt) _
    (committed b' (D.phase ∙ c.requires) n D.drafted (sym c.in_ok-check_commit.ensures) _ c.append.result
    (subst (λ more. Appends (m b'.store) more c.append.result (m c.append.new.self)) c.as_slice.ensures c.append.ensures)
    refl)
