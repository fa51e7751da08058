-- The task comes from the gates, rests, has its numbers, and has written so often.
use Rattle.vfs_gates.proofs.Rounds.{◌≤◌, IsFrom, Rests, Granted, Mount}
use Rattle.example_backup.specs.Reports.{SameNumbers}
use Rattle.example_backup.proofs.writer.write.Given as goal

abbrev pub invariant-loop : goal.invariant-loop
invariant-loop g l = IsFrom l.task l.gates × Rests l.task × SameNumbers l.fn.task l.task × (l.wrote ≤ l.writes) × Granted (Mount 0) l.wrote l.fn.task l.task
