-- What word tells, and what a copy has that is made when word came.
use Rattle.std.specs.Prelude.{IfOk, IfSome, List, Ok, Option, Result, Some, [], true, ℕ, ◌+◌, ◌∷◌, ◌≡◌, ◌≤◌}
use Rattle.access_model.specs.Histories.{own_part}
use Rattle.gate_world.specs.{Headline.{actions_so_far, world_after}, Moments.IsPresentTree, declared.entries.Entry.Entry}
use Rattle.gate_world.specs.declared.{operations.Op.TheVariants.Snapshot as SnapshotOp, views.Snapshot.Snapshot}
use Rattle.gated_tree.specs.declared.trees.TreeWords.{TreeWords}
use Rattle.vfs_gates.specs.{Action.{Action, TheVariants.Grow}, GateError.GateError, Grown.HasSeen, Meetings.{Config, SawList, TableId}, Runs.Performs}
use Rattle.vfs_gates.specs.{TaskStates.{SeatedTask, own_view}, declared.Gates.Gates}
use Rattle.example_message.specs.declared.backup.TreeCopy.{TreeCopy}

-- how often a file was made larger in a list of actions
abbrev pub writes_in : List Action → ℕ
writes_in [] = 0
writes_in (Grow node blocks ∷ earlier) = 1 + writes_in earlier
writes_in (a ∷ earlier) = writes_in earlier

-- these gates have this table and this configuration
abbrev pub AreThese : TableId → Config → Gates → Type 0
AreThese table config g = (g.words.table.shared.table_id ≡ table) × (g.words.config ≡ config)

-- in a state that was seen, this number had written so often, or more often
pub record HadWritten (c : Config) (writer writes : ℕ) (seen : List (List Entry)) : Type 0 where
  pub list : List Action
  pub saw : SawList c writer list seen
  pub wrote : writes ≤ writes_in list

-- A task has copied the tree, which has so many blocks.
abbrev pub CopiesNow : SeatedTask → SeatedTask → ℕ → Type 0
CopiesNow old left blocks = Performs (SnapshotOp true) old left (Ok tt) ×
    (s : Snapshot) × ((own_view left.items).snapshot ≡ Some s) × (blocks ≡ s.loaded.used)

-- A copy of so many blocks has every write told. It is the tree of a state that was seen, in which all was frozen; and in the history that led there this
-- number had written so often, or more often.
pub record HasEveryWrite (c : Config) (writer writes blocks : ℕ) (seen : List (List Entry)) : Type 0 where
  pub copy : TreeWords
  pub blocks_are : blocks ≡ copy.used
  pub entries : List Entry
  pub saw : HasSeen entries seen
  pub tree : IsPresentTree c (world_after c entries).words copy
  pub wrote : writes ≤ writes_in (own_part writer (actions_so_far c entries))

-- a backup has ended so: its last copy, if it made one, has every write told
abbrev pub BackedUp : Config → SeatedTask × Result (Option TreeCopy) GateError → Type 0
BackedUp c ended = IfOk ended.1 (λ last. IfSome last (λ copy. ∥ HasEveryWrite c copy.writer copy.writes copy.blocks ended.0.seen ∥₁))
