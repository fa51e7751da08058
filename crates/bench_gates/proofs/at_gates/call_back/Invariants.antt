-- The task comes from the gates.
use Rattle.vfs_gates.specs.TaskStates.{IsFrom}
use Rattle.bench_gates.proofs.at_gates.call_back.Given as goal

abbrev pub invariant-loop-level : goal.invariant-loop-level
invariant-loop-level g l = IsFrom l.task l.gates
