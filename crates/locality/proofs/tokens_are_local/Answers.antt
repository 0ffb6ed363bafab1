use Rattle.locality.proofs.tokens_are_local.Goals as goal
use Rattle.locality.proofs.Tokens.{tokens_are_local}

pub returns : goal.returns
returns c = tokens_are_local
