-- The task comes from the gates.
use Rattle.vfs_gates.specs.TaskStates.{IsFrom}
use Rattle.test_gates.proofs.tests.decisions.shut.Given as goal

abbrev pub invariant-loop-try : goal.invariant-loop-try
invariant-loop-try g l = IsFrom l.task l.fn.gates
