-- The task comes from the gates, at rest, and has done all rounds so far, in each of which the mount was busy once at most.
use Rattle.gate_runs.proofs.Prelude.{IsFrom, RemountRound, Repeats, Rests, ◌≤◌}
use Rattle.gate_runs.specs.Counts.{no_remounts}
use Rattle.gate_runs.proofs.workers.remount.Given as goal

abbrev pub invariant-loop-round : goal.invariant-loop-round
invariant-loop-round g l = record {
  from : IsFrom l.task l.fn.gates;
  rests : Rests l.task;
  few : l.met.busy ≤ l._round;
  did : Repeats RemountRound l._round (l.fn.task, no_remounts) (l.task, l.met);
}
