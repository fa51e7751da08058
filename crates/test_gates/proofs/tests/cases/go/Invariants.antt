use Rattle.std.proofs.Common.{IfSome}
use Rattle.vfs_gates.specs.TaskStates.{IsFrom}
use Rattle.test_gates.proofs.tests.cases.go.Given as goal

abbrev pub invariant-loop-line : goal.invariant-loop-line
invariant-loop-line g l = IsFrom l.first l.fn.gates × IfSome l.second (λ task. IsFrom task l.fn.gates)
