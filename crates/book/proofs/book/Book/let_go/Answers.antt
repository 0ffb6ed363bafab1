use Rattle.std.proofs.Common.{false, Ok, refl}
use Rattle.format.specs.Book.{abandon, standing, updating}
use Rattle.book.specs.Books.{update_in}
use Rattle.book.proofs.Performed.{performs_at, updating_phase}
use Rattle.book.proofs.Steps.{abandon_step}
use Rattle.book.proofs.book.Book.let_go.Goals as goal

pub returns : goal.returns
returns g c =
    let b = c.args.self.now in
    let m = g.S.Store.meaning in
    performs_at b _ (abandon false) (Ok tt) (updating (update_in b)) standing (updating_phase m b c.args.self.now.sound c.requires) refl
    (abandon_step (m b.store) (update_in b))
