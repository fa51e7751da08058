-- The task comes from the gates, and its last copy, if there is one, has every write told.
use Rattle.std.proofs.Common.{IfSome}
use Rattle.vfs_gates.specs.TaskStates.{IsFrom}
use Rattle.example_message.specs.Words.{HasEveryWrite}
use Rattle.example_message.proofs.backup.back_up.Given as goal

abbrev pub invariant-loop : goal.invariant-loop
invariant-loop g l = IsFrom l.task l.gates × IfSome l.last (λ copy. ∥ HasEveryWrite l.gates.words.config copy.writer copy.writes copy.blocks l.task.seen ∥₁)
