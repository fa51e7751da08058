-- The task comes from the gates, at rest, and may freeze, and all rounds so far were done and counted, each with its callbacks.
use Rattle.gate_runs.proofs.Prelude.{BackupRound, CountsRounds, IsFrom, MayFreeze, Repeats, Rests, User, own_actions, ◌≤◌}
use Rattle.std.proofs.Common.{◌*◌}
use Rattle.gate_runs.specs.Counts.{no_copies}
use Rattle.gate_runs.proofs.workers.back_up.Given as goal

abbrev pub invariant-loop-round : goal.invariant-loop-round
invariant-loop-round g l = record {
  from : IsFrom l.task l.fn.gates;
  rests : Rests l.task;
  may : MayFreeze User (own_actions l.task);
  counts : CountsRounds l.fn.plan.patience l.round l.copies;
  callbacks : l.copies.callbacks ≤ 3 * l.round;
  did : Repeats (BackupRound (g.W.NotedObserver.sees l.fn.watch) l.fn.plan.patience) l.round (l.fn.task, l.fn.notes, no_copies) (l.task, l.notes, l.copies);
}
