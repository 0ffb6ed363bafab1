use Rattle.std.proofs.Common.{[], Ok, ap}
use Rattle.format.specs.Book.{begin, standing, updating}
use Rattle.book.specs.Books.{update_in}
use Rattle.book.specs.Calls.{phase_of}
use Rattle.book.proofs.Performed.{performs_at}
use Rattle.book.proofs.Steps.{begun_step}
use Rattle.book.proofs.book.Book.start.Goals as goal

pub returns : goal.returns
returns g c =
    let b = c.args.self.now in
    let m = g.S.Store.meaning in
    performs_at b _ begin (Ok tt) standing (updating []) (ap (λ p. phase_of p (update_in b)) c.requires) (ap updating c.clear.ensures)
    (begun_step (m b.store))
