-- no mount below this one is held
use Rattle.std.proofs.Common.{slice_index, ℕ, ◌<◌, ◌≡◌}
use Rattle.model_state.proofs.model.Model.holds_some_mount.Given as goal

abbrev pub invariant-loop-mount : goal.invariant-loop-mount
invariant-loop-mount l = (m : ℕ) → m < l.mount → slice_index l.held m ≡ 0
