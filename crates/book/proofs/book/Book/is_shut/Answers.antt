use Rattle.std.proofs.Common.{sym, ap}
use Rattle.format.specs.Questions.{is_shut}
use Rattle.book.specs.Books.{update_in}
use Rattle.book.specs.Calls.{phase_of}
use Rattle.book.proofs.Questioned.{not_shut}
use Rattle.book.proofs.book.Book.is_shut.Goals as goal

pub returns-in-Shut : goal.returns-in-Shut
unfolding is_shut
returns-in-Shut g c = sym (ap (λ p. is_shut (phase_of p (update_in c.args.self.now))) c.in-Shut.is)

pub returns-in_default : goal.returns-in_default
returns-in_default g c = not_shut c.args.self.now.phase (update_in c.args.self.now) c.in_default.not-Shut
