use Rattle.vfs_gates.specs.TaskStates.{IsFrom}
use Rattle.test_gates.proofs.tests.patience.freeze_beside.Given as goal

-- both stay tasks of these gates
abbrev pub invariant-loop-level : goal.invariant-loop-level
invariant-loop-level g l = IsFrom l.backup l.fn.gates × IsFrom l.writer l.fn.gates
