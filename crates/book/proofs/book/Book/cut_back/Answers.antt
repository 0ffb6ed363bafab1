use Rattle.std.proofs.Common.{length, take, Some, ap, ◌∙◌, subst, arith}
use Rattle.book.specs.declared.book.Memory.{Memory}
use Rattle.book.specs.Books.{cells_in}
use Rattle.book.specs.Rows.{Found}
use Rattle.book.proofs.Performed.{stayed, back_sound, went_back}
use Rattle.book.proofs.Questioned.{no_row_found, row_held}
use Rattle.book.proofs.book.Book.cut_back.Goals as goal

pub cells_end-cells-requires : goal.cells_end-cells-requires
cells_end-cells-requires g c =
    let b = c.args.self.now in
    let a = subst (λ rs. Found rs c.args.k (Some c.in-Some.row)) c.revisions.ensures c.in-Some.ensures in
    let l = ap length c.cells.ensures in
    omega (arith, row_held g.S.Store.meaning b c.args.k c.in-Some.row c.args.self.now.sound c.requires a, l)

pub returns-in_default : goal.returns-in_default
returns-in_default g c =
    let b = c.args.self.now in
    let f = subst (λ rs. Found rs c.args.k c.row_of.result) c.revisions.ensures c.row_of.ensures in
    let a = no_row_found _ c.args.k c.row_of.result f c.in_default.not-Some in
    rw c.refused.ensures (stayed g.S.Store.meaning b c.args.k b.sound c.requires a)

pub returns : goal.returns
returns g c =
    let b = c.args.self.now in
    let a = subst (λ rs. Found rs c.args.k (Some c.in-Some.row)) c.revisions.ensures c.in-Some.ensures in
    went_back b _ c.args.k c.in-Some.row c.cut.result c.requires c.requires a c.cut.ensures

pub invariant_of-self : goal.invariant_of-self
invariant_of-self g c =
    let b = c.args.self.now in
    let a = subst (λ rs. Found rs c.args.k (Some c.in-Some.row)) c.revisions.ensures c.in-Some.ensures in
    let h : Memory = record { tables = c.cut-2.new.self; scratch = b.memory.scratch; held = b.memory.held; writer = b.memory.writer } in
    record {
      sound = back_sound g.S.Store.meaning b.store c.cut.new.self b.phase b.memory h c.args.k c.in-Some.row c.cut.result c.requires b.sound a c.cut.ensures c.cut-2.ensures.revisions
          (c.cut-2.ensures.cells ∙ ap (λ n. take n (cells_in b)) c.cells_end-cells.ensures);
    }
