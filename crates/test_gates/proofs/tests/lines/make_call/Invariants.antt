use Rattle.vfs_gates.specs.TaskStates.{IsFrom}
use Rattle.test_gates.proofs.tests.lines.make_call.Given as goal

abbrev pub invariant-loop-time : goal.invariant-loop-time
invariant-loop-time g l = IsFrom l.task l.fn.gates
