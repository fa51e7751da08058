-- The task comes from the gates, at rest, and has called back the levels so far, at each of which one callback ran at most.
use Rattle.gate_runs.proofs.Prelude.{CallsBack, IsFrom, Repeats, Rests, ◌+◌, ◌-◌, ◌≤◌}
use Rattle.gate_runs.proofs.workers.call_back.Given as goal

abbrev pub invariant-loop-level : goal.invariant-loop-level
invariant-loop-level g l = record {
  from : IsFrom l.task l.fn.gates;
  rests : Rests l.task;
  few : l.ran + 1 ≤ l.level;
  did : Repeats (λ k. CallsBack (k + 1)) (l.level - 1) (l.fn.task, 0, l.fn.so_far) (l.task, l.ran, l.waits);
}
