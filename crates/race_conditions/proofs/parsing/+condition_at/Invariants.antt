use Rattle.race_conditions.proofs.parsing.+condition_at.Given as goal

abbrev pub decreases-condition_at : goal.decreases-condition_at
decreases-condition_at l = l.depth
