-- The task comes from the gates, rests, has its numbers, and has made all copies so far, of which no more are torn.
use Rattle.vfs_gates.proofs.Rounds.{◌≤◌, IsFrom, Rests}
use Rattle.example_backup.specs.Reports.{Copies, SameNumbers}
use Rattle.example_backup.proofs.backup.back_up.Given as goal

abbrev pub invariant-loop : goal.invariant-loop
invariant-loop g l = IsFrom l.task l.gates × Rests l.task × SameNumbers l.fn.task l.task × (l.torn ≤ l.made) × (l.made ≤ l.copies) × Copies l.made l.fn.task l.task
