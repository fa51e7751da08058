use Rattle.std.proofs.Common.{false, ℕ, ◌<◌, ◌≡◌}
use Rattle.access_model.specs.States.{is_dirty}
use Rattle.model_state.specs.Shown.{tree_of}
use Rattle.model_state.proofs.model.Model.is_clean.Given as goal

-- no node before this one is dirty
abbrev pub invariant-loop-node : goal.invariant-loop-node
invariant-loop-node l = (n : ℕ) → n < l.node-index → is_dirty (tree_of l.self.nodes.items n) ≡ false
