-- the tasks so far are idle
use Rattle.std.proofs.Common.{None, ℕ, ◌<◌, ◌≡◌}
use Rattle.gate_core.specs.Moves.{phase_in}
use Rattle.race_files.proofs.files.expect_idle.Given as goal

abbrev pub invariant-loop-task : goal.invariant-loop-task
invariant-loop-task l = (t : ℕ) → t < l.task → phase_in l.core t ≡ None
