use Rattle.std.proofs.Common.{false, slice_index_or, ℕ, ◌<◌, ◌≡◌, ◌≤◌}
use Rattle.model_state.proofs.model.Model.is_below.Given as goal

-- the task is in no level from the first on that is below this one
abbrev pub invariant-loop-later : goal.invariant-loop-later
invariant-loop-later l = (j : ℕ) → l.level ≤ j → j < l.later → slice_index_or l.inside j false ≡ false
