use Rattle.keeping.proofs.Asked.{shut_answers}
use Rattle.keeping.proofs.answering.shut_books_answer_nothing.Goals as goal

pub returns : goal.returns
returns c = shut_answers
