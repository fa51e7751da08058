-- The task comes from the gates.
use Rattle.vfs_gates.specs.TaskStates.{IsFrom}
use Rattle.bench_gates.proofs.at_gates.grows.Given as goal

abbrev pub invariant-loop-round : goal.invariant-loop-round
invariant-loop-round g l = IsFrom l.task l.gates
