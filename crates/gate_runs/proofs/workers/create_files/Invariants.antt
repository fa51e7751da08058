-- The task comes from the gates, is inside its write access, has the numbers that it had, and has created all files so far.
use Rattle.gate_runs.proofs.Prelude.{CreatesFile, HasWriteAccess, IsFrom, Repeats}
use Rattle.gate_runs.specs.Keeping.{KeepsNumbers}
use Rattle.gate_runs.proofs.workers.create_files.Given as goal

abbrev pub invariant-loop-writer : goal.invariant-loop-writer
invariant-loop-writer g l = record {
  from : IsFrom l.task l.fn.gates;
  inside : HasWriteAccess l.task;
  numbers : KeepsNumbers l.fn.task l.task;
  created : Repeats (λ k. CreatesFile) l._writer l.initial.task l.task;
}
