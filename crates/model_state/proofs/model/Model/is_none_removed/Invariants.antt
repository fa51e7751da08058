use Rattle.std.proofs.Common.{false, ℕ, ◌<◌, ◌≡◌}
use Rattle.access_model.specs.States.{is_removed}
use Rattle.model_state.specs.Shown.{tree_of}
use Rattle.model_state.proofs.model.Model.is_none_removed.Given as goal

-- no file before this node is removed
abbrev pub invariant-loop-node : goal.invariant-loop-node
invariant-loop-node l = (n : ℕ) → n < l.node-index → is_removed (tree_of l.self.nodes.items n) ≡ false
