-- What the definitions make of small scripts.
use Rattle.std.specs.Prelude.{◌≡◌, [], ◌∷◌, Ok, Err, codes}
use Rattle.format.specs.Updates.{body, removed, Update}
use Rattle.scripts.specs.declared.error.Mistake.TheVariants.{NoChange, BadNumber, NumberAgain, SingleDot, NoEnd}
use Rattle.scripts.specs.Errors.{wrong_at}
use Rattle.scripts.specs.Scripts.{read_script, print_script}

abbrev sample : Update
sample = (7, removed) ∷ (12, body (codes ".5 MPa\n\nat 20 C")) ∷ []

pub record Examples : Type 0 where
  -- comments and empty lines between changes say nothing, the changes are put in order, and the dots of a body are taken away
  pub read : read_script (codes "# limits\n\nput 12\n..5 MPa\n\nat 20 C\n.\nremove 7\n") ≡ Ok sample
  pub printed : print_script sample ≡ codes "remove 7\nput 12\n..5 MPa\n\nat 20 C\n.\n"
  -- no line, and one empty line, are the empty body
  pub no_line : read_script (codes "put 1\n.\n") ≡ Ok ((1, body []) ∷ [])
  pub empty_line : read_script (codes "put 1\n\n.\n") ≡ Ok ((1, body []) ∷ [])
  pub two_empty_lines : read_script (codes "put 1\n\n\n.\n") ≡ Ok ((1, body (codes "\n")) ∷ [])
  -- in a body, # is as any other byte
  pub no_comment : read_script (codes "put 1\n# a\n.\n") ≡ Ok ((1, body (codes "# a")) ∷ [])
  -- the last line may lack its LF
  pub last_line : read_script (codes "remove 1") ≡ Ok ((1, removed) ∷ [])
  pub last_dot : read_script (codes "put 1\na\n.") ≡ Ok ((1, body (codes "a")) ∷ [])
  -- a number may have zeros in front
  pub zeros : read_script (codes "remove 0000000001\n") ≡ Ok ((1, removed) ∷ [])
  -- what is wrong, and on which line
  pub again : read_script (codes "put 1\n.\nremove 01\n") ≡ Err (wrong_at 3 NumberAgain)
  pub unended : read_script (codes "remove 1\nput 2\nabc\n") ≡ Err (wrong_at 2 NoEnd)
  pub single_dot : read_script (codes "put 2\na\n.b\n.\n") ≡ Err (wrong_at 3 SingleDot)
  pub eleven_digits : read_script (codes "remove 12345678901\n") ≡ Err (wrong_at 1 BadNumber)
  pub space_behind : read_script (codes "remove 1 \n") ≡ Err (wrong_at 1 BadNumber)
  pub space_before : read_script (codes "\n remove 1\n") ≡ Err (wrong_at 2 NoChange)
  -- the first that is wrong
  pub first_wrong : read_script (codes "remove 1\nremove 1\nnothing\n") ≡ Err (wrong_at 2 NumberAgain)
