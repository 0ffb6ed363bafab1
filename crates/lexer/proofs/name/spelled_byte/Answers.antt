use Rattle.std.proofs.Common.{refl}
use Rattle.lexer.proofs.Names.{spelled_at_plain, spelled_given, spelled_left}
use Rattle.lexer.proofs.name.spelled_byte.Goals as goal

pub returns-then-b-ne35-clause-is : goal.returns-then-b-ne35-clause-is
returns-then-b-ne35-clause-is c = spelled_at_plain _ 0 c.requires c.if-b-ne35.true

pub returns-in-Some-clause-is : goal.returns-in-Some-clause-is
returns-in-Some-clause-is c = spelled_given _ 0 c.requires c.if-b-ne35.false _ c.in-Some.ensures.far c.in-Some.ensures.near _ refl

pub returns-in-None-clause-is : goal.returns-in-None-clause-is
returns-in-None-clause-is c = spelled_left _ 0 c.requires c.if-b-ne35.false _ c.in-None.ensures.far c.in-None.ensures.near refl
