use Rattle.outcome_forms.specs.Told.{TellsDetails}
use Rattle.outcome_forms.proofs.telling.put_lines.Given as goal

-- the lines so far
abbrev pub invariant-loop-line : goal.invariant-loop-line
invariant-loop-line l = TellsDetails l.margin ⊥ l.initial.out l.out
