-- The first task and those that were split off come from the gates.
use Rattle.std.proofs.Common.{All}
use Rattle.vfs_gates.specs.TaskStates.{IsFrom}
use Rattle.bench_gates.proofs.at_gates.split_off.Given as goal

abbrev pub invariant-loop-number : goal.invariant-loop-number
invariant-loop-number l = IsFrom l.first l.gates × All (λ task. IsFrom task l.gates) l.tasks.items
