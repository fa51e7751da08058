use Rattle.vfs_gates.proofs.Prelude.{get_or, ℕ, ◌<◌, ◌≡◌}
use Rattle.vfs_gates.proofs.task.holds_nothing.Given as goal

abbrev pub invariant-loop-mount : goal.invariant-loop-mount
invariant-loop-mount l = (m : ℕ) → m < l.mount → get_or l.accesses.mounts m 0 ≡ 0
