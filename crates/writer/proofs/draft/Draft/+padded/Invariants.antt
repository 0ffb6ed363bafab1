use Rattle.writer.proofs.draft.Draft.+padded.Given as goal

abbrev pub decreases-padded : goal.decreases-padded
decreases-padded l = l.k
