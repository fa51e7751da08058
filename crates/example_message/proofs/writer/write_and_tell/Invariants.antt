-- The task comes from the gates, and has written at least so often.
use Rattle.std.proofs.Common.{◌≤◌}
use Rattle.vfs_gates.specs.{Held.own_actions, TaskStates.IsFrom}
use Rattle.example_message.specs.Words.{writes_in}
use Rattle.example_message.proofs.writer.write_and_tell.Given as goal

abbrev pub invariant-loop-before : goal.invariant-loop-before
invariant-loop-before g l = IsFrom l.task l.fn.gates × (l.before ≤ writes_in (own_actions l.task))
