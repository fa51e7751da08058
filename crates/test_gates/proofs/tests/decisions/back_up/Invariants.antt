-- The task comes from the gates.
use Rattle.vfs_gates.specs.TaskStates.{IsFrom}
use Rattle.test_gates.proofs.tests.decisions.back_up.Given as goal

abbrev pub invariant-loop-level : goal.invariant-loop-level
invariant-loop-level g l = IsFrom l.task l.fn.gates
