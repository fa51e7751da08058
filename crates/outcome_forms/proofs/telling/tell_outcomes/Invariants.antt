use Rattle.outcome_forms.{proofs.Parts.ToldSoFar, specs.Told.{AsksNone, margin_of, mark_of}}
use Rattle.outcome_forms.proofs.telling.tell_outcomes.Given as goal

-- the lines and details so far
abbrev pub invariant-loop-outcome : goal.invariant-loop-outcome
invariant-loop-outcome l =
    ToldSoFar (mark_of l.details.schedules) (margin_of l.details.schedules) (AsksNone l.details) l.outcome-items l.outcome-index l.initial.out l.out
