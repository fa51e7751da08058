use Rattle.std.proofs.Common.{All}
use Rattle.vfs_gates.specs.TaskStates.{IsFrom}
use Rattle.test_gates.proofs.tests.cases.go_at_once.Given as goal

abbrev pub invariant-loop-part : goal.invariant-loop-part
invariant-loop-part g l = IsFrom l.first l.fn.gates × All (λ task. IsFrom task l.fn.gates) l.others.items
