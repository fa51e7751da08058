use Rattle.std.proofs.Common.{◌≡◌, ℕ, ◌<◌, false}
use Rattle.model_state.specs.Shown.{inside_of}
use Rattle.model_state.proofs.model.Model.is_level_free.Given as goal

-- no task before this one is inside the level
abbrev pub invariant-loop-held : goal.invariant-loop-held
invariant-loop-held l = (t : ℕ) → t < l.held-index → inside_of l.self.accesses.items t l.level ≡ false
