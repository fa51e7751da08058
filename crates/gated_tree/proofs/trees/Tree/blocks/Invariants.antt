-- the blocks of the nodes below this one, each less than 2 ^ 32
use Rattle.std.proofs.Common.{slice_index, ◌*◌, ◌≡◌, ◌≤◌}
use Rattle.{access_model.specs.States.size_of, finite_sums.specs.Sums.total, node_words.specs.Nodes.node_shown}
use Rattle.gated_tree.proofs.trees.Tree.blocks.Given as goal

abbrev pub invariant-loop-node : goal.invariant-loop-node
invariant-loop-node l = record {
  sums : l.blocks ≡ total l.node (λ n. size_of (node_shown (slice_index l.self.nodes.items n)));
  small : l.blocks ≤ l.node * 4294967295;
}
