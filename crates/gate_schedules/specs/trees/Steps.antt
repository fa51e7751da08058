-- One step of a call, among all words.
use Rattle.std.specs.Prelude.{Bool, Option, false, suc, true, ℕ, ◌+◌, ◌<◌, ◌≡◌}
use Rattle.access_model.specs.declared.actions.Action.{Action}
use Rattle.cpu_words.specs.{Hooks.HookAnswer, Touches.{found_by, left}, Words.{Words, put, read}, declared.events.Touch.Touch}
use Rattle.cpu_words.specs.declared.names.WordName.{WordName}
use Rattle.finite_sums.specs.Sums.{update}
use Rattle.gated_tree.specs.{Calls.{phase_role, role_after}, Phases.{after, next}, Roles.{Bounds, MayDirty, MayRemove, NobodyReads, Role, TreeHolds}}
use Rattle.gated_tree.specs.{Roles.TreeState, declared.phases.TreePhase.TheVariants.{ClearMarks as Clears, Create as Creates, Grow as Grows}}
use Rattle.gated_tree.specs.declared.phases.TreePhase.TheVariants.{Mark as Marks, MoveTo as Moves, OpenFile as OpensOne, Remove as Removes}
use Rattle.gated_tree.specs.declared.{phases.TreePhase.{TheVariants.Snapshot as Snapshots, TreePhase}, snapshots.SnapshotStep.SnapshotStep}
use Rattle.gated_tree.specs.declared.snapshots.SnapshotStep.TheVariants.{LoadsKids, LoadsNode, LoadsUsed}
use Rattle.gate_schedules.specs.trees.Events.{MayClean, MovesBy}

-- the tree among all words, with the roles of all tasks
abbrev pub tree_in : ℕ → ℕ → Words → (ℕ → Role) → TreeState
tree_in sealed bare w at = record {
  sealed = sealed;
  bare = bare;
  used = w.used;
  removed = w.removed;
  node = w.node;
  kids = w.kids;
  at = at;
}

-- the words that a step leaves
abbrev pub words_left : Words → WordName × Touch → Words
words_left w event = put w event.0 (left event.1 (read w event.0))

-- what a step finds
abbrev pub found_at : Words → WordName × Touch → ℕ
found_at w event = found_by event.1 (read w event.0)

-- The step of task t leaves a tree of which the same holds, with its task at this role, and moves the shown tree by this action or not
-- at all.
abbrev pub EventKeeps : Bounds → ℕ → ℕ → Words → (ℕ → Role) → ℕ → WordName × Touch → Role → Option Action → Type 0
EventKeeps c sealed bare w at t event role action =
    TreeHolds c (tree_in sealed bare (words_left w event) (update at t role)) × MovesBy c w.node (words_left w event).node action

-- to set a mark: no snapshot has loaded a word, the tree needn't be clean, and nobody is clearing it; to clear one, less
abbrev pub MayMark : Bool → Bounds → TreeState → Type 0
MayMark true c s = NobodyReads c s × MayDirty c s
MayMark false c s = MayClean c s

-- what a step of a phase asks of the other tasks
abbrev pub TreeAllowsStep : Bounds → TreeState → TreePhase → Type 0
TreeAllowsStep c s (Creates x) = NobodyReads c s
TreeAllowsStep c s (Removes x) = NobodyReads c s × MayRemove c s
TreeAllowsStep c s (Grows x) = NobodyReads c s × MayDirty c s
TreeAllowsStep c s (Moves x) = NobodyReads c s
TreeAllowsStep c s (Marks x) = MayMark x.dirty c s
TreeAllowsStep c s (OpensOne x) = Unit {0}
TreeAllowsStep c s (Snapshots x) = Unit {0}
TreeAllowsStep c s (Clears x) = MayClean c s

-- these values are the earlier ones, with one more that a step found
abbrev pub NotesOne : ℕ → (ℕ → ℕ) → (ℕ → ℕ) → ℕ → Type 0
NotesOne words values noted found = (noted words ≡ found) × ((i : ℕ) → i < words → noted i ≡ values i)

-- the values after a step of a snapshot are those before it, with the word that it loads
abbrev pub NotesLoad : ℕ → SnapshotStep → (ℕ → ℕ) → (ℕ → ℕ) → ℕ → Type 0
NotesLoad nodes LoadsUsed values noted found = NotesOne 0 values noted found
NotesLoad nodes (LoadsNode node) values noted found = NotesOne (suc node) values noted found
NotesLoad nodes (LoadsKids node) values noted found = NotesOne (suc (nodes + node)) values noted found
NotesLoad nodes step values noted found = Unit {0}

-- only a snapshot notes values
abbrev pub Notes : TreePhase → (ℕ → ℕ) → (ℕ → ℕ) → ℕ → Type 0
Notes (Snapshots x) values noted found = NotesLoad x.nodes x.step values noted found
Notes phase values noted found = Unit {0}

-- The next step of task t, which is at this phase, keeps what holds of the tree, and is its action or changes nothing that is shown. A
-- snapshot has loaded `values` before it, and `noted` after it.
abbrev pub StepKeeps : Bounds → ℕ → ℕ → Words → (ℕ → Role) → ℕ → TreePhase → (ℕ → ℕ) → HookAnswer → Type 0
StepKeeps c sealed bare w at t phase noted hook =
    EventKeeps c sealed bare w at t (next phase hook) (role_after (phase_role noted) (after phase (found_at w (next phase hook)) hook).0)
    (after phase (found_at w (next phase hook)) hook).1
