-- the blocks of the nodes below this one, each less than 2 ^ 32
use Rattle.std.proofs.Common.{◌*◌, ◌≡◌, ◌≤◌}
use Rattle.{access_model.specs.States.size_of, finite_sums.specs.Sums.total}
use Rattle.model_state.specs.Shown.{tree_of}
use Rattle.model_state.proofs.model.Model.used_blocks.Given as goal

abbrev pub invariant-loop-node : goal.invariant-loop-node
invariant-loop-node l = record {
  sums : l.used ≡ total l.node-index (λ n. size_of (tree_of l.self.nodes.items n));
  small : l.used ≤ l.node-index * 4294967295;
}
