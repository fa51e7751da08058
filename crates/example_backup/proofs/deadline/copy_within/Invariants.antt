-- The task comes from the gates and rests, and each freeze so far has given up.
use Rattle.vfs_gates.proofs.Rounds.{IsFrom, Rests}
use Rattle.example_backup.specs.Deadlines.{TreeCopies}
use Rattle.example_backup.proofs.deadline.copy_within.Given as goal

abbrev pub invariant-loop-try : goal.invariant-loop-try
invariant-loop-try g l = IsFrom l.task l.gates × Rests l.task × TreeCopies 0 l.fn.task l.task
