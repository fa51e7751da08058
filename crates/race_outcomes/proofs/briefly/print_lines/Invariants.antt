use Rattle.schedule_lines.specs.Printed.{Prints}
use Rattle.race_outcomes.proofs.OutcomeLines.{lines_up_to}
use Rattle.race_outcomes.proofs.briefly.print_lines.Given as goal

-- the lines so far
abbrev pub invariant-loop-outcome : goal.invariant-loop-outcome
invariant-loop-outcome l = Prints l.initial.out l.out (lines_up_to l.outcome-index l.outcomes)
