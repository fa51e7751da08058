use Rattle.std.proofs.Common.{◌≡◌, ℕ, ◌<◌}
use Rattle.model_state.specs.Shown.{held_of}
use Rattle.model_state.proofs.model.Model.is_mount_free.Given as goal

-- no task before this one holds an access at the mount
abbrev pub invariant-loop-held : goal.invariant-loop-held
invariant-loop-held l = (t : ℕ) → t < l.held-index → held_of l.self.accesses.items t l.mount ≡ 0
