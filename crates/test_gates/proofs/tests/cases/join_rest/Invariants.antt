use Rattle.std.proofs.Common.{All}
use Rattle.vfs_gates.specs.TaskStates.{IsFrom}
use Rattle.test_gates.proofs.tests.cases.join_rest.Given as goal

abbrev pub invariant-loop-other : goal.invariant-loop-other
invariant-loop-other l = IsFrom l.first l.fn.gates × All (λ task. IsFrom task l.fn.gates) l.others.items
