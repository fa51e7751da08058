use Rattle.vfs_gates.specs.TaskStates.{IsFrom}
use Rattle.test_gates.proofs.tests.lines.work.Given as goal

abbrev pub invariant-loop-round : goal.invariant-loop-round
invariant-loop-round g l = IsFrom l.task l.fn.gates
