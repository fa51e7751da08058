-- The words of the steps of the calls at the tree: each is one that is kept.
use Rattle.gate_schedules.proofs.Prelude.{Config, HookAnswer, IsWord, TreePhase, arith, tree_bounds, ℕ}
use Rattle.gated_tree.specs.{Calls.TreePhaseFits, Phases.next as tree_next}
use Rattle.gate_schedules.proofs.frames.OperationLaws.{extents_touched}

module _ (c : Config) (n t : ℕ) where
  pub tree_there : (x : TreePhase) (hook : HookAnswer) → TreePhaseFits (tree_bounds c) t x → IsWord (extents_touched n c) (tree_next x hook).0
  tree_there x hook f = grind arith
