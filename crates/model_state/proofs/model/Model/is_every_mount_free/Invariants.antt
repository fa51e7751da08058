use Rattle.std.proofs.Common.{ℕ, ◌<◌}
use Rattle.access_model.specs.{States.NobodyHolds, declared.actions.Gate.TheVariants.Mount}
use Rattle.model_state.specs.Shown.{limits_of, state_of}
use Rattle.model_state.proofs.model.Model.is_every_mount_free.Given as goal

-- nobody holds an access at a mount below this one
abbrev pub invariant-loop-mount : goal.invariant-loop-mount
invariant-loop-mount l = (m : ℕ) → m < l.mount → NobodyHolds (limits_of l.self) (state_of l.self) (Mount m)
