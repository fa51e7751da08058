use Rattle.std.proofs.Common.{IfSome}
use Rattle.vfs_gates.specs.TaskStates.{IsFrom}
use Rattle.test_gates.proofs.tests.cases.split.Given as goal

abbrev pub invariant-loop-other : goal.invariant-loop-other
invariant-loop-other l = IsFrom l.first l.fn.gates × IfSome l.second (λ task. IsFrom task l.fn.gates)
