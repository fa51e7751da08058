-- The stage from step to step.
use Rattle.std.specs.Prelude.{Bool, None, Option, Some, false, suc, true, zero, ℕ, ◌-◌, ◌<◌, ◌≡◌, ◌≤◌}
use Rattle.access_model.specs.{States.{Limits, State}, declared.actions.Action.Action}
use Rattle.access_model.specs.declared.actions.{Action.TheVariants.{Clean, Hold, Leave, Pass, Reopen, SbRo, SbRw, Stage}, Holder.Holder}
use Rattle.finite_sums.specs.Sums.{total, update}
use Rattle.freeze_laws.specs.stages.Roles.{Aside, Before, CleanBelow, Closing, Freezing, HasPassed, KnowsStage, MarksHold, Owning, Place, Remounting}
use Rattle.freeze_laws.specs.stages.Roles.{Reopening, StageRole, StagesHold, clean_by, closed_by, freezes, owns, passed_by, remounts}
use Rattle.freeze_laws.specs.stages.Shown.{ShowsMarks, ShowsStages, passed_shown}

-- One moment: the stage, the superblock's flag and `remount`, the block of each level, the mark of each node, and the roles.
pub record Stages : Type 0 where
  pub stage : ℕ
  pub sb : ℕ
  pub remount : ℕ
  pub block : ℕ → ℕ
  pub dirty : ℕ → ℕ
  pub at : ℕ → StageRole

-- what holds at it
pub record Holds (tasks nodes : ℕ) (x : Stages) : Type 0 where
  pub stages : StagesHold tasks x.stage x.sb x.remount x.block x.at
  pub marks : MarksHold tasks nodes x.stage x.sb x.dirty x.at

-- a state of the model shows it
pub record RepresentsStages (l : Limits) (x : Stages) (s : State) : Type 0 where
  pub stages : ShowsStages l.tasks x.stage x.sb x.remount x.block x.at s
  pub marks : ShowsMarks l.nodes x.dirty s

-- two roles that differ in no more than what they rely on, and in how many nodes they have cleared
pub record SameDuties (old new : StageRole) : Type 0 where
  pub owns_same : owns new ≡ owns old
  pub freezes_same : freezes new ≡ freezes old
  pub remounts_same : remounts new ≡ remounts old
  pub closed_same : closed_by new ≡ closed_by old
  pub passed_same : passed_by new ≡ passed_by old

-- the kinds of steps that change the stage, the flags, a block or a mark, or what a task is doing with them
pub data StageEvent : Type 0 where
  -- an owner's lock of `umount`, that of a freeze which goes on, and the releases of both
  Locks : StageEvent
  LocksAgain : (stage : ℕ) (place : Place) → StageEvent
  Releases : (stage sb : Option ℕ) → StageEvent
  LetsGo : (stage : ℕ) (place : Place) → StageEvent
  ReleasesOpen : StageEvent
  -- an owner's loads
  LoadsStage : (stage sb : Option ℕ) → StageEvent
  LoadsSb : (stage sb : Option ℕ) → StageEvent
  -- a freeze's stores of 1, of 2, of 3 after its file system was synced, and of 4
  Begins : StageEvent
  Advances : (clean : ℕ) → StageEvent
  Syncs : (clean : ℕ) → StageEvent
  Completes : (clean : ℕ) → StageEvent
  -- its store of 0 where the file system could not be synced, or did not freeze, at this stage
  Fails : (stage clean : ℕ) → StageEvent
  -- its store of `block` by which it gives up a level that it closes, and its store of 0 after that, at this stage, with the levels below it
  -- still to be reopened, if there are any
  Unblocks : (level : ℕ) (owner : Bool) → StageEvent
  GivesUp : (stage : ℕ) (new : StageRole) → StageEvent
  -- a freeze of a read-only superblock, at once
  FreezesAtOnce : StageEvent
  -- an owner's store of the holders with one more, or with one less, at stage 4; it goes on relying on something
  HoldsOne : (holder : Holder) (sb : Option ℕ) (new : StageRole) → StageEvent
  LeavesOne : (holder : Holder) (sb : Option ℕ) (new : StageRole) → StageEvent
  -- a thaw's store of 0, of a writable superblock, and of a read-only one
  Thaws : StageEvent
  ThawsAtOnce : StageEvent
  -- a down-write's swap of `block`, and the last load of a sum of 0, with which so many nodes are found clean
  SetsBlock : (level : ℕ) (owner : Bool) → StageEvent
  Passes : (level clean : ℕ) (owner : Bool) → StageEvent
  -- an up-write's store of `block`
  ClearsBlock : (below : ℕ) → StageEvent
  -- a remount's stores of `remount` 1 with so many nodes clean, of the superblock's flag, of `remount` 0, and of `remount` 0 where
  -- the file system refused; a remount's store that makes the superblock writable
  SetsRemount : (clean : ℕ) → StageEvent
  SetsReadOnly : (clean : ℕ) → StageEvent
  ClearsRemount : (clean : ℕ) → StageEvent
  CancelsRemount : (clean : ℕ) → StageEvent
  SetsWritable : (sb : Option ℕ) → StageEvent
  -- the clearing of a node's mark by a freeze, and by a remount
  ClearsMark : (node : ℕ) → StageEvent
  ClearsMarkReadOnly : (sb node : ℕ) → StageEvent
  -- another call's step that may leave a node dirty, and one that leaves it clean
  MarksNode : (node mark : ℕ) → StageEvent
  WashesNode : (node : ℕ) → StageEvent
  -- a step after which the task relies on something else that is so
  Recalls : (old new : StageRole) → StageEvent
  -- a step that is about other words
  Stays : StageEvent

-- the same moment with another role of task t
abbrev pub playing : Stages → ℕ → StageRole → Stages
playing x t r = record x { at = update x.at t r }

-- The step of this kind by task t: what has to hold before it, and what is there after it. Besides the task's own role this asks the
-- layer above for four things: at a lock nobody owns `umount`; a clearing loop begins with nodes that are clean, and ends with all nodes;
-- who marks a node has an access that no freeze has taken: level 2 is not passed, and the superblock is writable.
abbrev pub Happens : ℕ → ℕ → ℕ → Stages → Stages → StageEvent → Type 0
Happens tasks nodes t x x' Locks = (x.at t ≡ Aside) × (total tasks (λ y. owns (x.at y)) ≡ 0) × (x' ≡ playing x t (Owning None None))
Happens tasks nodes t x x' (LocksAgain stage place) =
    (x.at t ≡ Freezing stage place false) × (total tasks (λ y. owns (x.at y)) ≡ 0) × (x' ≡ playing x t (Freezing stage place true))
Happens tasks nodes t x x' (Releases stage sb) = (x.at t ≡ Owning stage sb) × (x' ≡ playing x t Aside)
Happens tasks nodes t x x' (LetsGo stage place) = (x.at t ≡ Freezing stage place true) × (x' ≡ playing x t (Freezing stage place false))
Happens tasks nodes t x x' ReleasesOpen = (x.at t ≡ Reopening 0) × (x' ≡ playing x t Aside)
Happens tasks nodes t x x' (LoadsStage stage sb) = (x.at t ≡ Owning stage sb) × (x' ≡ playing x t (Owning (Some x.stage) sb))
Happens tasks nodes t x x' (LoadsSb stage sb) = (x.at t ≡ Owning stage sb) × (x' ≡ playing x t (Owning stage (Some x.sb)))
Happens tasks nodes t x x' Begins =
    (x.at t ≡ Owning (Some 0) (Some 0)) × (x' ≡ playing (record x { stage = 1 }) t (Freezing 1 Before true))
Happens tasks nodes t x x' (Advances clean) =
    (x.at t ≡ Freezing 1 (HasPassed clean) true) × (x' ≡ playing (record x { stage = 2 }) t (Freezing 2 Before true))
Happens tasks nodes t x x' (Syncs clean) =
    (x.at t ≡ Freezing 2 (HasPassed clean) true) × (nodes ≤ clean) × (x' ≡ playing (record x { stage = 3 }) t (Freezing 3 Before true))
Happens tasks nodes t x x' (Completes clean) =
    (x.at t ≡ Freezing 3 (HasPassed clean) true) × (x' ≡ playing (record x { stage = 4 }) t (Owning (Some 4) None))
Happens tasks nodes t x x' (Fails stage clean) =
    (x.at t ≡ Freezing stage (HasPassed clean) true) × (2 ≤ stage) × (x' ≡ playing (record x { stage = 0 }) t (Reopening stage))
Happens tasks nodes t x x' (Unblocks level owner) =
    (x.at t ≡ Freezing level Closing owner) × (x' ≡ playing (record x { block = update x.block level 0 }) t (Freezing level Before owner))
Happens tasks nodes t x x' (GivesUp stage new) =
    (x.at t ≡ Freezing stage Before true) × SameDuties (Reopening (stage - 1)) new × KnowsStage 0 x.sb new × CleanBelow (clean_by new) x.dirty ×
    (x' ≡ playing (record x { stage = 0 }) t new)
Happens tasks nodes t x x' FreezesAtOnce =
    (x.at t ≡ Owning (Some 0) (Some 1)) × (x' ≡ playing (record x { stage = 4 }) t (Owning (Some 4) None))
Happens tasks nodes t x x' (HoldsOne holder sb new) =
    (x.at t ≡ Owning (Some 4) sb) × SameDuties (Owning (Some 4) sb) new × KnowsStage x.stage x.sb new × CleanBelow (clean_by new) x.dirty ×
    (x' ≡ playing x t new)
Happens tasks nodes t x x' (LeavesOne holder sb new) =
    (x.at t ≡ Owning (Some 4) sb) × SameDuties (Owning (Some 4) sb) new × KnowsStage x.stage x.sb new × CleanBelow (clean_by new) x.dirty ×
    (x' ≡ playing x t new)
Happens tasks nodes t x x' Thaws = (x.at t ≡ Owning (Some 4) (Some 0)) × (x' ≡ playing (record x { stage = 0 }) t (Reopening 3))
Happens tasks nodes t x x' ThawsAtOnce =
    (x.at t ≡ Owning (Some 4) (Some 1)) × (x' ≡ playing (record x { stage = 0 }) t (Owning None None))
Happens tasks nodes t x x' (SetsBlock level owner) =
    (x.at t ≡ Freezing level Before owner) × (x' ≡ playing (record x { block = update x.block level 1 }) t (Freezing level Closing owner))
Happens tasks nodes t x x' (Passes level clean owner) =
    (x.at t ≡ Freezing level Closing owner) × CleanBelow clean x.dirty × (x' ≡ playing x t (Freezing level (HasPassed clean) owner))
Happens tasks nodes t x x' (ClearsBlock below) =
    (x.at t ≡ Reopening (suc below)) × (x' ≡ playing (record x { block = update x.block (suc below) 0 }) t (Reopening below))
Happens tasks nodes t x x' (SetsRemount clean) =
    (x.at t ≡ Owning (Some 0) (Some 0)) × CleanBelow clean x.dirty × (x' ≡ playing (record x { remount = 1 }) t (Remounting 0 clean))
Happens tasks nodes t x x' (SetsReadOnly clean) =
    (x.at t ≡ Remounting 0 clean) × (nodes ≤ clean) × (x' ≡ playing (record x { sb = 1 }) t (Remounting 1 clean))
Happens tasks nodes t x x' (ClearsRemount clean) =
    (x.at t ≡ Remounting 1 clean) × (x' ≡ playing (record x { remount = 0 }) t (Owning None None))
Happens tasks nodes t x x' (CancelsRemount clean) =
    (x.at t ≡ Remounting 0 clean) × (x' ≡ playing (record x { remount = 0 }) t (Owning None None))
Happens tasks nodes t x x' (SetsWritable sb) =
    (x.at t ≡ Owning (Some 0) sb) × (x' ≡ playing (record x { sb = 0 }) t (Owning None None))
Happens tasks nodes t x x' (ClearsMark node) =
    (x.at t ≡ Freezing 2 (HasPassed node) true) ×
    (x' ≡ playing (record x { dirty = update x.dirty node 0 }) t (Freezing 2 (HasPassed (suc node)) true))
Happens tasks nodes t x x' (ClearsMarkReadOnly sb node) =
    (x.at t ≡ Remounting sb node) × (x' ≡ playing (record x { dirty = update x.dirty node 0 }) t (Remounting sb (suc node)))
Happens tasks nodes t x x' (MarksNode node mark) =
    (passed_shown tasks x.block x.at < 2) × (x.remount ≡ 0) × (x.sb ≡ 0) × (x' ≡ record x { dirty = update x.dirty node mark })
Happens tasks nodes t x x' (WashesNode node) = x' ≡ record x { dirty = update x.dirty node 0 }
Happens tasks nodes t x x' (Recalls old new) =
    (x.at t ≡ old) × SameDuties old new × KnowsStage x.stage x.sb new × CleanBelow (clean_by new) x.dirty × (x' ≡ playing x t new)
Happens tasks nodes t x x' Stays = x' ≡ x

-- a node is cleaned where it was dirty
abbrev pub cleaned : ℕ → ℕ → Option Action
cleaned node zero = None
cleaned node (suc mark) = Some (Clean node)

-- The action that a step adds. A step on a node's mark by another call may add one of its own, which is that call's.
abbrev pub action_of : StageEvent → Stages → Option Action
action_of Begins x = Some (Stage 1)
action_of (Advances clean) x = Some (Stage 2)
action_of (Syncs clean) x = Some (Stage 3)
action_of (Completes clean) x = Some (Stage 4)
action_of (Fails stage clean) x = Some (Stage 0)
action_of (GivesUp stage new) x = Some (Stage 0)
action_of FreezesAtOnce x = Some (Stage 4)
action_of (HoldsOne holder sb new) x = Some (Hold holder)
action_of (LeavesOne holder sb new) x = Some (Leave holder)
action_of Thaws x = Some (Stage 0)
action_of ThawsAtOnce x = Some (Stage 0)
action_of (Passes level clean owner) x = Some (Pass level)
action_of (ClearsBlock below) x = Some (Reopen (suc below))
action_of (SetsRemount clean) x = Some SbRo
action_of (CancelsRemount clean) x = Some SbRw
action_of (SetsWritable sb) x = Some SbRw
action_of (ClearsMark node) x = cleaned node (x.dirty node)
action_of (ClearsMarkReadOnly sb node) x = cleaned node (x.dirty node)
action_of kind x = None
