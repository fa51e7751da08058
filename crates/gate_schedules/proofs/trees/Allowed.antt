-- What the tree allows, with the accesses that the task holds, is what the model allows.
use Rattle.gate_schedules.proofs.Prelude.{Action, State, arith, openers, update, ℕ, ◌≡◌}
use Rattle.access_model.specs.{Actions.{MayDo, after_action, opens_after, tree_after}, States.Limits}
use Rattle.gate_schedules.specs.trees.Events.{HasLeave, TreeAllows, bounds_of}

-- an action that the tree allows, of a task with the accesses that it needs, is one that the model allows
pub may_do : (l : Limits) (s : State) (t : ℕ) (action : Action) → HasLeave l s t action → TreeAllows (bounds_of l) s.tree action →
    MayDo l s t action
may_do l s t action leave a = grind arith

-- and its effect is on the tree and on the task's own open files alone
pub tree_alone : (l : Limits) (s : State) (t : ℕ) (action : Action) → HasLeave l s t action →
    after_action s t action ≡ record s {
      opens = update s.opens t (opens_after action (s.opens t));
      tree = tree_after action (openers s.opens) s.tree;
    }
tree_alone l s t action leave = grind arith
