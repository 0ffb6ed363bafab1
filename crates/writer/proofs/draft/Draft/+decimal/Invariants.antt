use Rattle.writer.proofs.draft.Draft.+decimal.Given as goal

abbrev pub decreases-decimal : goal.decreases-decimal
decreases-decimal l = l.n.value
