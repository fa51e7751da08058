-- Snapshots: which step completes one, and what is noted of it.
use Rattle.std.specs.Prelude.{List, None, Option, Some, [], if◌then◌else◌, length, slice_index, ℕ, ◌∷◌}
use Rattle.{access_model.specs.declared.actions.Action.Action, cpu_words.specs.declared.names.WordName.TheVariants.Kids}
use Rattle.gated_tree.specs.{Roles.tree_word, Trees.{loaded, unloaded}, declared.phases.TreePhase.{TheVariants.Snapshot as Snapshots, TreePhase}}
use Rattle.gated_tree.specs.declared.{snapshots.SnapshotStep.{SnapshotStep, TheVariants.LoadsKids}, trees.TreeWords.TreeWords}
use Rattle.node_words.specs.Nodes.{node_after}
use Rattle.gate_world.specs.{declared.{views.{Snapshot.Snapshot, Traced.Traced}, work.Phase.{Phase, TheVariants.Trees}}, traces.Found.is_load}

-- what the loads of a trace have noted, in room for so many nodes: of each word of the tree what its newest load found
abbrev pub loads_noted : ℕ → List Traced → TreeWords
loads_noted nodes [] = unloaded nodes
loads_noted nodes (e ∷ earlier) =
    if is_load e.event.touch then loaded (loads_noted nodes earlier) e.event.word e.event.found else loads_noted nodes earlier

-- the same in the order in which a snapshot loads them
abbrev pub values_noted : ℕ → List Traced → ℕ → ℕ
values_noted nodes trace =
    tree_word nodes (loads_noted nodes trace).used (slice_index (loads_noted nodes trace).nodes) (slice_index (loads_noted nodes trace).kids)

-- what was loaded, where the load of the children of this node is a snapshot's last
abbrev pub noted_last : Option ℕ → TreeWords → Option TreeWords
noted_last (Some next) words = None
noted_last None words = Some words

-- a snapshot of so many nodes: it is complete with the load of the children of the last one
abbrev pub snapshot_completes : ℕ → SnapshotStep → List Traced → ℕ → Option TreeWords
snapshot_completes nodes (LoadsKids n) trace found = noted_last (node_after n nodes) (loaded (loads_noted nodes trace) (Kids n) found)
snapshot_completes nodes step trace found = None

-- the same of a call at the tree: only a snapshot completes one
abbrev pub tree_completes : TreePhase → List Traced → ℕ → Option TreeWords
tree_completes (Snapshots x) trace found = snapshot_completes x.nodes x.step trace found
tree_completes phase trace found = None

-- what the snapshot has loaded that the next step of a phase completes, after these steps of its operation, where the step finds
-- this
abbrev pub completes : Phase → List Traced → ℕ → Option TreeWords
completes (Trees phase) trace found = tree_completes phase trace found
completes phase trace found = None

-- a number's last snapshot after a step that completes this one, or none: until then the number had done these actions, and each
-- other number of its task so many
abbrev pub last_snapshot : Option TreeWords → List Action → List (ℕ × ℕ) → Option Snapshot → Option Snapshot
last_snapshot None actions others last = last
last_snapshot (Some loaded) actions others last = Some (record { loaded = loaded; done = length actions; others = others })
