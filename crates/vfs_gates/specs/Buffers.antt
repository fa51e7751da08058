-- Room for the snapshots of a task, and what it tells of them.
use Rattle.std.specs.Prelude.{Bool, List, None, Option, Some, [], false, if◌then◌else◌, length, take, true, ℕ, ◌≡◌}
use Rattle.{cpu_words.specs.declared.events.Event.Event, gate_steps.specs.Seating.DealtNumbers}
use Rattle.gate_world.specs.declared.{operations.Op.Op, views.{Snapshot.Snapshot, Traced.Traced, View.View}, work.Phase.{Phase, TheVariants.Trees}}
use Rattle.gate_world.specs.traces.{Found.is_load, Snapshots.loads_noted}
use Rattle.gated_tree.specs.{Trees.{loaded, loads_last, words_of}, declared.phases.TreePhase.{TheVariants.Snapshot as Snapshots, TreePhase}}
use Rattle.gated_tree.specs.declared.snapshots.{Snapshot.Snapshot as Taking, SnapshotStep.{SnapshotStep, TheVariants.{LoadsKids, LoadsNode}}}
use Rattle.gated_tree.specs.declared.trees.TreeWords.{TreeWords}
use Rattle.vfs_gates.specs.{TaskStates.own_view, declared.buffers.SnapshotBuffers.SnapshotBuffers}

-- What a task's buffers have: whether there is a last snapshot, its words, and those of the snapshot that is being taken.
pub record BufferWords : Type 0 where
  pub taken : Bool
  pub last : TreeWords
  pub next : TreeWords

abbrev pub words_in : SnapshotBuffers → BufferWords
words_in r = record { taken = r.taken; last = words_of r.last.value; next = words_of r.next.value }

-- words of so many nodes
abbrev pub IsSized : ℕ → TreeWords → Type 0
IsSized nodes words = (length words.nodes ≡ nodes) × (length words.kids ≡ nodes)

-- room for two snapshots of so many nodes
abbrev pub HasSnapshotRoom : ℕ → BufferWords → Type 0
HasSnapshotRoom nodes r = IsSized nodes r.last × IsSized nodes r.next

-- the words of the last snapshot, where there is one
abbrev pub last_in : BufferWords → Option TreeWords
last_in r = if r.taken then Some r.last else None

-- the buffers with these words in the room of the snapshot that is being taken
abbrev pub with_words : TreeWords → BufferWords → BufferWords
with_words words r = record r { next = words }

-- and once the snapshot that is being taken is complete
abbrev pub completed : BufferWords → BufferWords
completed r = record { taken = true; last = r.next; next = r.last }

-- the words with what a step has loaded
abbrev pub noted_in : TreeWords → Event → TreeWords
noted_in words e = if is_load e.touch then loaded words e.word e.found else words

-- the buffers after a step of a snapshot, which is complete with the load of its last word
abbrev pub after_noting : Taking → Event → BufferWords → BufferWords
after_noting x e r =
    if loads_last x.nodes x.step then completed (with_words (noted_in r.next e) r) else with_words (noted_in r.next e) r

-- a phase of a snapshot
abbrev pub is_of_snapshot : Phase → Bool
is_of_snapshot (Trees (Snapshots x)) = true
is_of_snapshot phase = false

-- the last snapshot in the room is the one that a view has
abbrev pub LastTells : BufferWords → Option Snapshot → Type 0
LastTells r None = r.taken ≡ false
LastTells r (Some s) = (r.taken ≡ true) × (r.last ≡ s.loaded)

-- the steps of the operation under way: none yet where it has just begun
abbrev pub trace_so_far : Option Op → View → List Traced
trace_so_far None v = v.trace
trace_so_far (Some op) v = []

-- these words have the blocks that are charged, and this many nodes, as they were loaded
abbrev pub HasNodes : ℕ → TreeWords → TreeWords → Type 0
HasNodes count words noted = (words.used ≡ noted.used) × (take count words.nodes ≡ take count noted.nodes)

-- or all nodes, and the children of this many
abbrev pub HasKids : ℕ → TreeWords → TreeWords → Type 0
HasKids count words noted = (words.used ≡ noted.used) × (words.nodes ≡ noted.nodes) × (take count words.kids ≡ take count noted.kids)

-- Until a snapshot has loaded all, the other room has what it has loaded so far. What it has yet to load may be left from one before.
abbrev pub StepTells : ℕ → TreeWords → List Traced → SnapshotStep → Type 0
StepTells nodes words trace (LoadsNode n) = HasNodes n words (loads_noted nodes trace)
StepTells nodes words trace (LoadsKids n) = HasKids n words (loads_noted nodes trace)
StepTells nodes words trace step = Unit {0}

-- the same of a call at the tree, and that a snapshot is of so many nodes
abbrev pub CallTells : ℕ → TreeWords → List Traced → TreePhase → Type 0
CallTells nodes words trace (Snapshots x) = (x.nodes ≡ nodes) × StepTells nodes words trace x.step
CallTells nodes words trace phase = Unit {0}

-- and of what the task is at
abbrev pub NextTells : ℕ → BufferWords → List Traced → Option Phase → Type 0
NextTells nodes r trace (Some (Trees x)) = CallTells nodes r.next trace x
NextTells nodes r trace phase = Unit {0}

-- What the room for snapshots tells of a task's own number.
pub record BuffersMatch (nodes : ℕ) (r : BufferWords) (begins : Option Op) (phase : Option Phase) (items : DealtNumbers) : Type 0 where
  pub room : HasSnapshotRoom nodes r
  pub last : LastTells r (own_view items).snapshot
  pub next : NextTells nodes r (trace_so_far begins (own_view items)) phase
