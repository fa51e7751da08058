-- the children among the nodes below this one
use Rattle.std.proofs.Common.{slice_index, ◌≡◌, ◌≤◌}
use Rattle.{finite_sums.specs.Sums.total, node_words.specs.Nodes.node_shown}
use Rattle.gated_tree.specs.Trees.{is_child}
use Rattle.gated_tree.proofs.trees.Tree.children.Given as goal

abbrev pub invariant-loop-node : goal.invariant-loop-node
invariant-loop-node l = record {
  counts : l.children ≡ total l.node (λ n. is_child l.dir n (node_shown (slice_index l.self.nodes.items n)));
  few : l.children ≤ l.node;
}
