-- The tree of a state: its words, and what each task is doing at them.
use Rattle.std.specs.Prelude.{List, Option, Some, ℕ}
use Rattle.{cpu_words.specs.Words.Words, gated_tree.specs.{Calls.phase_role, Roles.{Bounds, Out, Role, TreeState, bare_by, sealed_by}}}
use Rattle.gate_world.specs.{Roles.{close_tree_role, freeze_tree_role, nodes_noted, remount_tree_role}, Worlds.World, declared.config.Config.Config}
use Rattle.gate_world.specs.{declared.{views.Traced.Traced, work.Phase.Phase}, traces.Snapshots.values_noted}

-- what the laws of the tree read of a configuration
abbrev pub tree_bounds : Config → Bounds
tree_bounds c = record { tasks = c.tasks; nodes = c.nodes; capacity = c.capacity }

-- 1 where the superblock's flag is set, or the stage is 3 or 4
abbrev pub is_sealed : Words → ℕ
is_sealed w = sealed_by w.sb w.stage

-- 1 where the superblock is read-only, by its flag or by a remount under way
abbrev pub is_bare_at : Words → ℕ
is_bare_at w = bare_by w.remount w.sb

-- what a task is doing at the tree, which after these steps of its operation is at this phase
abbrev pub tree_role_of : List Traced → Option Phase → Role
tree_role_of trace (Some (Phase.Remounts x)) = remount_tree_role x.nodes x.step
tree_role_of trace (Some (Phase.Freezes x)) = freeze_tree_role x.nodes x.step
tree_role_of trace (Some (Phase.Trees phase)) = phase_role (values_noted (nodes_noted phase) trace) phase
tree_role_of trace (Some (Phase.Closes x)) = close_tree_role x
tree_role_of trace p = Out

-- what all tasks are doing at the tree
abbrev pub tree_roles : World → ℕ → Role
tree_roles w t = tree_role_of (w.views t).trace (w.views t).phase

-- the tree of a state
abbrev pub tree_of : World → TreeState
tree_of w = record {
  sealed = is_sealed w.words;
  bare = is_bare_at w.words;
  used = w.words.used;
  removed = w.words.removed;
  node = w.words.node;
  kids = w.words.kids;
  at = tree_roles w;
}
