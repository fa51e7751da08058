-- Two rows for each operation: where it begins, and what is claimed of it. What it does are its steps.
use Rattle.std.specs.Prelude.{Bool, Err, List, None, Ok, Option, Result, Some, [], false, if◌then◌else◌, nat_lt, not, suc, true, zero, ℕ, ◌&&◌, ◌*◌}
use Rattle.std.specs.Prelude.{◌++◌, ◌+◌, ◌<◌, ◌||◌, ◌∷◌, ◌≡◌, ◌≢◌, ◌⊎◌}
use Rattle.access_model.specs.declared.actions.Action.{Action, TheVariants.{Close as CloseAction, Create as CreateAction, Grant, Grow as GrowAction}}
use Rattle.access_model.specs.declared.actions.Action.TheVariants.{Hold, Leave, MountRo, MountRw, MoveTo as MoveToAction, Open as OpenAction, Pass}
use Rattle.access_model.specs.declared.actions.Action.TheVariants.{Remove as RemoveAction, Reopen, Return, SbRo, SbRw, Stage as StageAction}
use Rattle.access_model.specs.declared.{actions.{Gate.TheVariants.{Level, Mount}, Holder.Holder, Kind.Kind}, errors.GateError.GateError}
use Rattle.access_model.specs.declared.{errors.GateError.TheVariants.{Again, Busy, Hook, Invalid, ReadOnly}, replies.Reply.Reply}
use Rattle.access_model.specs.declared.replies.Reply.TheVariants.{Node as NodeReply, Ran, Tree as TreeReply, Unit as UnitReply}
use Rattle.composite_ops.specs.declared.file_closes.phases.{ClosePhase.TheVariants.LoadsFile as CloseLoadsFile, Closing.Closing}
use Rattle.composite_ops.specs.declared.write_access.phases.WritePhase.TheVariants.{Drops as WriteDrops, Takes}
use Rattle.cpu_words.specs.declared.names.WordName.{TheVariants.{Block, Remount, Stage, Umount}, WordName}
use Rattle.freeze_levels.specs.declared.{freezes.FreezeStep.TheVariants.Locks as FreezeLocks, thaws.ThawStep.TheVariants.Locks as ThawLocks}
use Rattle.gated_tree.specs.{Phases.mark_done, Refusals.{CreateHonest, FileHonest, GrowHonest, MoveHonest, SnapshotHonest, finds_other}}
use Rattle.gated_tree.specs.declared.changes.{Create.Create, CreateStep.TheVariants.LoadsDirectory, MoveStep.TheVariants.LoadsFile as LoadsFileToMove}
use Rattle.gated_tree.specs.declared.{changes.{MoveTo.MoveTo, Remove.Remove, RemoveStep.TheVariants.LoadsFile as LoadsFileToRemove}, growth.Grow.Grow}
use Rattle.gated_tree.specs.declared.{growth.GrowStep.TheVariants.LoadsFile as LoadsFileToGrow, marks.Mark.Mark}
use Rattle.gated_tree.specs.declared.{marks.MarkStep.TheVariants.LoadsFile as LoadsFileToMark, opens.OpenFile.OpenFile}
use Rattle.gated_tree.specs.declared.opens.OpenStep.TheVariants.{LoadsFile as LoadsFileToOpen}
use Rattle.gated_tree.specs.declared.phases.TreePhase.TheVariants.{Create as Creates, Grow as Grows, Mark as TreeMarks, MoveTo as Moves}
use Rattle.gated_tree.specs.declared.phases.TreePhase.{TheVariants.{OpenFile as OpensOne, Remove as Removes, Snapshot as Snapshots}, TreePhase}
use Rattle.gated_tree.specs.declared.snapshots.{Snapshot.Snapshot, SnapshotStep.TheVariants.Locks as SnapshotLocks}
use Rattle.mount_counts.specs.declared.phases.{ChangeStep.TheVariants.Locks, MountPhase.TheVariants.{Change as Changes, Drop as Drops, Want as Wants}}
use Rattle.mount_counts.specs.declared.{phases.WantStep.TheVariants.CountsUp, remounts.RemountStep.TheVariants.Locks as RemountLocks}
use Rattle.percpu_rwsem.specs.declared.{callbacks.CallbackStep.TheVariants.Claims, readers.DownReadStep.TheVariants.EntersSection}
use Rattle.percpu_rwsem.specs.declared.transitions.Transition.TheVariants.{Loads}
use Rattle.gate_world.specs.{Holdings.Holdings, declared.{config.Config.Config, operations.Op.{Op, TheVariants.{Callback, ChangeMount}}}}
use Rattle.gate_world.specs.declared.operations.Op.TheVariants.{Close as CloseOp, Create as CreateOp, DropMount, DropWrite, End, Fault as FaultOp}
use Rattle.gate_world.specs.declared.operations.Op.TheVariants.{Flush as FlushOp, Freeze as FreezeOp, Grow as GrowOp, MoveTo as MoveToOp}
use Rattle.gate_world.specs.declared.operations.Op.TheVariants.{Open as OpenOp, RemountSb, Remove as RemoveOp, Snapshot as SnapshotOp, Start}
use Rattle.gate_world.specs.declared.{operations.Op.TheVariants.{Thaw as ThawOp, Want, WantWrite}, views.Traced.Traced, work.Phase.Phase}
use Rattle.gate_world.specs.declared.work.Phase.TheVariants.{Callbacks, Closes, DownReads, Freezes, Mounts, Remounts, Thaws, Trees, UpReads, Writes}
use Rattle.gate_world.specs.traces.Found.{FoundInside, IsEachCount, ReadAnswer, SeenIn, cleans, counts_loaded, each_event, finds_hold, finds_inside}
use Rattle.gate_world.specs.traces.Found.{finds_none_queued, finds_readers, finds_taken, found_closed, found_complete, found_dropped, found_frozen}
use Rattle.gate_world.specs.traces.Found.{found_held, found_hold, found_incomplete, found_moving, found_read_only, found_removed, found_sealed}
use Rattle.gate_world.specs.traces.Found.{found_shared, found_taken, found_unheld, gave_up, holds_since, left_closed, looks_again, newest}
use Rattle.gate_world.specs.traces.Found.{stored_stage, sum_loaded, transitions_made}

-- where an operation begins, and who may begin it
pub record OpRow : Type 1 where
  -- its first phase, by its task
  pub first : Config → ℕ → Phase
  -- its numbers are in range
  pub in_range : Config → Bool
  -- it may be begun by a task that holds this: what it must find held, or open, and nothing that it must not
  pub in_order : Config → Holdings → Bool
  -- it would not give the task more accesses at a mount than there may be, nor a file that it has open
  pub within_room : Holdings → Bool

-- an access is held at one of so many mounts
abbrev pub some_mount : ℕ → (ℕ → ℕ) → Bool
some_mount zero held = false
some_mount (suc m) held = some_mount m held || nat_lt 0 (held m)

-- who may change the tree: a task inside level 1 with an access at some mount
abbrev pub is_writer : Config → Holdings → Bool
is_writer c held = held.levels 1 && some_mount c.mounts held.mounts

-- who may make a file dirty by a page fault: the same, inside level 2
abbrev pub is_faulter : Config → Holdings → Bool
is_faulter c held = held.levels 2 && some_mount c.mounts held.mounts

-- with these levels held, no level is
abbrev pub holds_none : (ℕ → Bool) → Bool
holds_none levels = not (levels 1) && (not (levels 2) && not (levels 3))

-- there is such a level
abbrev pub is_level_number : ℕ → Bool
is_level_number i = nat_lt 0 i && nat_lt i 4

-- with these levels held, no level from this one up is
abbrev pub holds_none_from : ℕ → (ℕ → Bool) → Bool
holds_none_from i levels =
    (nat_lt 1 i || not (levels 1)) && ((nat_lt 2 i || not (levels 2)) && (nat_lt 3 i || not (levels 3)))

-- there is that node
abbrev pub has_node : ℕ → Config → Bool
has_node n c = nat_lt n c.nodes

-- the first phase of a create
abbrev pub first_create : Config → ℕ → Kind → Create
first_create c d kind = record { dir = d; kind = kind; nodes = c.nodes; step = LoadsDirectory }

-- a call on a file, by a task that may begin it
abbrev file_row : ℕ → TreePhase → (Config → Holdings → Bool) → OpRow
file_row file first in_order = record {
  first = λ c t. Trees first;
  in_range = has_node file;
  in_order = in_order;
  within_room = λ held. true;
}

-- the first phases of the calls on a file
abbrev pub first_remove : ℕ → Remove
first_remove file = record { file = file; step = LoadsFileToRemove }

abbrev pub first_grow : Config → ℕ → ℕ → Grow
first_grow c file blocks = record { file = file; blocks = blocks; capacity = c.capacity; step = LoadsFileToGrow }

abbrev pub first_move : ℕ → ℕ → MoveTo
first_move file dir = record { file = file; dir = dir; step = LoadsFileToMove }

abbrev pub first_mark : Bool → ℕ → Mark
first_mark dirty file = record { file = file; dirty = dirty; step = LoadsFileToMark }

-- who may begin a page fault, or a write-back
abbrev pub may_mark : Bool → Config → Holdings → Bool
may_mark true c held = is_faulter c held
may_mark false c held = held.levels 3

-- a page fault sets a file's mark, a write-back clears it
abbrev mark_row : Bool → ℕ → OpRow
mark_row dirty file = file_row file (TreeMarks (first_mark dirty file)) (may_mark dirty)

-- the first phase of an open
abbrev pub first_open : ℕ → OpenFile
first_open file = record { file = file; step = LoadsFileToOpen }

-- the first phase of a close
abbrev pub first_close : ℕ → ℕ → ℕ → Bool → Closing
first_close file cpu t wait = record { file = file; cpu = cpu; task = t; wait = wait }

-- the first phase of a snapshot
abbrev pub first_snapshot : Config → ℕ → Bool → Snapshot
first_snapshot c t wait = record { wait = wait; task = t; nodes = c.nodes; step = SnapshotLocks }

-- the row of each operation
abbrev pub row : Op → OpRow
-- a want of a mount and a processor that there are, where its task has room for one access more
row (Want m p wait) = record {
  first = λ c t. Mounts (Wants (record { mount = m; cpu = p; wait = wait; step = CountsUp }));
  in_range = λ c. nat_lt m c.mounts && nat_lt p c.processors;
  in_order = λ c held. true;
  within_room = λ held. nat_lt (held.mounts m) 1024;
}
-- a drop by a task that holds an access there
row (DropMount m p) = record {
  first = λ c t. Mounts (Drops m p);
  in_range = λ c. nat_lt m c.mounts && nat_lt p c.processors;
  in_order = λ c held. nat_lt 0 (held.mounts m);
  within_room = λ held. true;
}
-- a change, and a remount, by a task that holds no level
row (ChangeMount m read_only wait) = record {
  first = λ c t. Mounts (Changes (record { mount = m; read_only = read_only; wait = wait; task = t; processors = c.processors; step = Locks }));
  in_range = λ c. nat_lt m c.mounts;
  in_order = λ c held. holds_none held.levels;
  within_room = λ held. true;
}
row (RemountSb read_only) = record {
  first = λ c t. Remounts (record {
    read_only = read_only;
    task = t;
    processors = c.processors;
    mounts = c.mounts;
    nodes = c.nodes;
    step = RemountLocks;
  });
  in_range = λ c. true;
  in_order = λ c held. holds_none held.levels;
  within_room = λ held. true;
}
-- a start by a task that holds neither its level nor one above it
row (Start i p wait) = record {
  first = λ c t. DownReads (record { level = i; cpu = p; task = t; wait = wait; step = EntersSection });
  in_range = λ c. is_level_number i && nat_lt p c.processors;
  in_order = λ c held. holds_none_from i held.levels;
  within_room = λ held. true;
}
-- an end by a task that holds its level
row (End i p) = record {
  first = λ c t. UpReads (record { level = i; cpu = p });
  in_range = λ c. is_level_number i && nat_lt p c.processors;
  in_order = λ c held. held.levels i;
  within_room = λ held. true;
}
-- a taking of write access by a task that holds no level, and has room for one access more
row (WantWrite m p) = record {
  first = λ c t. Writes (Takes m (record { level = 1; cpu = p; task = t; wait = true; step = EntersSection }));
  in_range = λ c. nat_lt m c.mounts && nat_lt p c.processors;
  in_order = λ c held. holds_none held.levels;
  within_room = λ held. nat_lt (held.mounts m) 1024;
}
-- its return by a task that holds level 1 and an access there
row (DropWrite m p) = record {
  first = λ c t. Writes (WriteDrops m p);
  in_range = λ c. nat_lt m c.mounts && nat_lt p c.processors;
  in_order = λ c held. held.levels 1 && nat_lt 0 (held.mounts m);
  within_room = λ held. true;
}
-- a callback of a level that there is, by any task
row (Callback i) = record {
  first = λ c t. Callbacks (record { level = i; tasks = c.tasks; step = Claims Loads });
  in_range = λ c. is_level_number i;
  in_order = λ c held. true;
  within_room = λ held. true;
}
-- a freeze, and a thaw, by a task that holds no level
row (FreezeOp holder) = record {
  first = λ c t. Freezes (record { task = t; tasks = c.tasks; processors = c.processors; nodes = c.nodes; holder = holder; step = FreezeLocks });
  in_range = λ c. true;
  in_order = λ c held. holds_none held.levels;
  within_room = λ held. true;
}
row (ThawOp holder) = record {
  first = λ c t. Thaws (record { task = t; holder = holder; step = ThawLocks });
  in_range = λ c. true;
  in_order = λ c held. holds_none held.levels;
  within_room = λ held. true;
}
-- a create by a task that may change the tree
row (CreateOp d kind) = record {
  first = λ c t. Trees (Creates (first_create c d kind));
  in_range = has_node d;
  in_order = is_writer;
  within_room = λ held. true;
}
row (RemoveOp file) = file_row file (Removes (first_remove file)) is_writer
-- a grow by some blocks, and a move, by a task that may change the tree
row (GrowOp file blocks) = record {
  first = λ c t. Trees (Grows (first_grow c file blocks));
  in_range = λ c. has_node file c && nat_lt 0 blocks;
  in_order = is_writer;
  within_room = λ held. true;
}
row (MoveToOp file dir) = record {
  first = λ c t. Trees (Moves (first_move file dir));
  in_range = λ c. has_node file c && has_node dir c;
  in_order = is_writer;
  within_room = λ held. true;
}
row (FaultOp file) = mark_row true file
row (FlushOp file) = mark_row false file
-- an open by a task that does not have the file open
row (OpenOp file) = record (file_row file (OpensOne (first_open file)) (λ c held. true)) { within_room = λ held. not (held.files file) }
-- a close by a task that has the file open, and does not hold level 3
row (CloseOp file p wait) = record {
  first = λ c t. Closes (CloseLoadsFile (first_close file p t wait));
  in_range = λ c. has_node file c && nat_lt p c.processors;
  in_order = λ c held. holds_none_from 3 held.levels && held.files file;
  within_room = λ held. true;
}
-- a snapshot by a task that holds no level
row (SnapshotOp wait) = record {
  first = λ c t. Trees (Snapshots (first_snapshot c t wait));
  in_range = λ c. true;
  in_order = λ c held. holds_none held.levels;
  within_room = λ held. true;
}

-- what is claimed of an operation
pub record OpClaims : Type 1 where
  -- the most steps, where it waits for nobody
  pub most_events : Config → Option ℕ
  -- what it has added, by its answer and what its trace found
  pub actions : Result Reply GateError → List Traced → List Action
  -- a refusal has its cause in the trace, and there is no other refusal
  pub IsHonest : Config → GateError → List Traced → Type 0
  -- a reply says what the trace found
  pub ReplyMatchesTrace : Reply → List Traced → Type 0
  -- it may report that it waits after these steps
  pub MayWait : Config → List Traced → Type 0

-- actions of an operation that adds nothing where it is refused
abbrev pub actions_if_done : List Action → Result Reply GateError → List Action
actions_if_done actions (Ok reply) = actions
actions_if_done actions (Err refusal) = []

-- a want is refused as read-only where it found the mount so, and again where it found HOLD and doesn't wait
abbrev want_honest : ℕ → Bool → GateError → List Traced → Type 0
want_honest m wait ReadOnly trace = found_read_only m trace ≡ true
want_honest m wait Again trace = (wait ≡ false) × (found_hold m trace ≡ true)
want_honest m wait refusal trace = ⊥

-- a change has added the mount's new state, but nothing where its trace found the state as it was asked for
abbrev unless_so : Bool → Bool → ℕ → List Action
unless_so true true m = []
unless_so true false m = MountRo m ∷ []
unless_so false true m = MountRw m ∷ []
unless_so false false m = []

-- the counts loaded of a mount, one of each processor, have a sum other than 0
abbrev FoundBusy : Config → ℕ → List Traced → Type 0
FoundBusy c m trace = IsEachCount c.processors (counts_loaded m trace) × (sum_loaded (counts_loaded m trace) ≢ 0)

-- a change is refused again where it found `umount` taken and doesn't wait, and as busy where the counts that it loaded, one of each
-- processor, have a sum other than 0
abbrev change_honest : Config → ℕ → Bool → GateError → List Traced → Type 0
change_honest c m wait Again trace = (wait ≡ false) × (found_taken trace ≡ true)
change_honest c m wait Busy trace = FoundBusy c m trace
change_honest c m wait refusal trace = ⊥

-- A remount to read-only has added `sb ro` and the marks that it cleared, and `sb rw` after them where the file system refused; one to
-- writable has added `sb rw`. It has added nothing where its trace found the superblock as it was asked for, or where it is busy.
abbrev remount_adds : Bool → Result Reply GateError → List Traced → List Action
remount_adds true (Ok reply) trace = if found_sealed trace then [] else cleans trace ++ (SbRo ∷ [])
remount_adds true (Err (Hook code)) trace = SbRw ∷ (cleans trace ++ (SbRo ∷ []))
remount_adds false (Ok reply) trace = if found_sealed trace then SbRw ∷ [] else []
remount_adds read_only answer trace = []

-- the word whose clearing the file system's refusal decides: `remount` on the way to read-only, `umount` on the way to writable
abbrev refusing_word : Bool → WordName
refusing_word true = Remount
refusing_word false = Umount

-- a remount is refused as busy where it found a stage other than 0, or a removed file, or the counts of one mount with a sum other than 0, and by the file
-- system where that answered so at the step that its answer decides
abbrev remount_honest : Config → Bool → GateError → List Traced → Type 0
remount_honest c read_only Busy trace =
    (found_frozen trace ≡ true) ⊎ ((found_removed trace ≡ true) ⊎ ((m : ℕ) × (m < c.mounts) × FoundBusy c m trace))
remount_honest c read_only (Hook code) trace = ReadAnswer (refusing_word read_only) (Err code) trace
remount_honest c read_only refusal trace = ⊥

-- a start is refused again where it found the level closed and doesn't wait
abbrev start_honest : ℕ → Bool → GateError → List Traced → Type 0
start_honest i wait Again trace = (wait ≡ false) × (found_closed i trace ≡ true)
start_honest i wait refusal trace = ⊥

-- a taking of write access has added the grants of both gates; where it is refused, the grant of level 1 and its return
abbrev write_adds : ℕ → Result Reply GateError → List Action
write_adds m (Ok reply) = Grant (Mount m) ∷ (Grant (Level 1) ∷ [])
write_adds m (Err refusal) = Return (Level 1) ∷ (Grant (Level 1) ∷ [])

-- it is refused as read-only alone, where it found the mount so
abbrev write_honest : ℕ → GateError → List Traced → Type 0
write_honest m ReadOnly trace = found_read_only m trace ≡ true
write_honest m refusal trace = ⊥

-- A callback ran where it has made two transitions, its claim and its own; where it says that none did, it has made none, and its newest
-- step found none queued.
abbrev callback_told : ℕ → Reply → List Traced → Type 0
callback_told i (Ran true) trace = transitions_made i trace ≡ 2
callback_told i (Ran false) trace = (transitions_made i trace ≡ 0) × (newest (finds_none_queued i) trace ≡ true)
callback_told i reply trace = ⊥

-- What a freeze has added on its way to stage 3: stage 1, level 1 passed, stage 2, level 2 passed, and the marks that it cleared.
abbrev pub two_levels_closed : List Traced → List Action
two_levels_closed trace = cleans trace ++ (Pass 2 ∷ (StageAction 2 ∷ (Pass 1 ∷ (StageAction 1 ∷ []))))

-- and on its way to stage 4: stage 3 and level 3 passed, too
abbrev pub all_levels_closed : List Traced → List Action
all_levels_closed trace = Pass 3 ∷ (StageAction 3 ∷ two_levels_closed trace)

-- What a freeze has added whose hook failed, where it had given up this level: stage 0, and the levels that it had passed reopened, the
-- highest first. Where it had given up none: two, where it could not be synced, and all three, where stage 3 was stored.
abbrev pub failed_adds : ℕ → List Traced → List Action
failed_adds zero trace =
    Reopen 1 ∷ (Reopen 2 ∷ (
    if stored_stage 3 trace
    then Reopen 3 ∷ (StageAction 0 ∷ all_levels_closed trace)
    else StageAction 0 ∷ two_levels_closed trace
    ))
failed_adds (suc zero) trace = StageAction 0 ∷ (StageAction 1 ∷ [])
failed_adds (suc (suc zero)) trace = Reopen 1 ∷ (StageAction 0 ∷ (StageAction 2 ∷ (Pass 1 ∷ (StageAction 1 ∷ []))))
failed_adds (suc (suc (suc level))) trace = Reopen 1 ∷ (Reopen 2 ∷ (StageAction 0 ∷ (StageAction 3 ∷ two_levels_closed trace)))

-- the word whose clearing the hook decided: the stage, or the `block` of the level that it gave up
abbrev pub word_decided : ℕ → WordName
word_decided zero = Stage
word_decided (suc level) = Block (suc level)

-- A freeze has added all this, stage 4 and its holder; stage 4 and its holder, where it found the superblock read-only; its holder alone,
-- where it found all frozen. Where a hook failed, it has added what it undid, too. It has added nothing where it is busy.
abbrev pub freeze_adds : Holder → Result Reply GateError → List Traced → List Action
freeze_adds holder (Ok reply) trace =
    Hold holder ∷ (
    if found_complete trace then [] else StageAction 4 ∷ (if found_sealed trace then [] else all_levels_closed trace)
    )
freeze_adds holder (Err (Hook code)) trace = failed_adds (gave_up trace) trace
freeze_adds holder (Err refusal) trace = []

-- a freeze is refused as busy where it found another one under way, or its holder among those who hold one, and by the file system where
-- that answered so at the store of stage 0, or, where it gave up, at the store of its level's `block`
abbrev freeze_honest : Holder → GateError → List Traced → Type 0
freeze_honest holder Busy trace = (found_moving trace ≡ true) ⊎ (found_held holder trace ≡ true)
freeze_honest holder (Hook code) trace = ReadAnswer (word_decided (gave_up trace)) (Err code) trace
freeze_honest holder refusal trace = ⊥

-- A thaw has added that its holder left, stage 0 and the levels reopened, the highest first; that and stage 0, where it found the superblock
-- read-only; that alone, where it found another holder beside its own; nothing, where it is refused.
abbrev pub thaw_adds : Holder → Result Reply GateError → List Traced → List Action
thaw_adds holder (Ok reply) trace =
    if found_shared holder trace then Leave holder ∷ [] else
    if found_sealed trace then StageAction 0 ∷ (Leave holder ∷ []) else
    Reopen 1 ∷ (Reopen 2 ∷ (Reopen 3 ∷ (StageAction 0 ∷ (Leave holder ∷ []))))
thaw_adds holder (Err refusal) trace = []

-- a thaw is refused as invalid where it found a stage other than 4, or that its holder holds no freeze, and by the file system where that
-- answered so at the release
abbrev thaw_honest : Holder → GateError → List Traced → Type 0
thaw_honest holder Invalid trace = (found_incomplete trace ≡ true) ⊎ (found_unheld holder trace ≡ true)
thaw_honest holder (Hook code) trace = ReadAnswer Umount (Err code) trace
thaw_honest holder refusal trace = ⊥

-- what a create has added, by its answer: the node that it names
abbrev pub create_adds : ℕ → Kind → Result Reply GateError → List Action
create_adds d kind (Ok (NodeReply n)) = CreateAction n d kind ∷ []
create_adds d kind answer = []

-- a create answers the number of a node
abbrev pub IsNodeReply : Reply → Type 0
IsNodeReply (NodeReply n) = Unit {0}
IsNodeReply reply = ⊥

-- a call that is done answers nothing else
abbrev pub IsUnit : Reply → Type 0
IsUnit reply = reply ≡ UnitReply

-- A call on a file is refused where it found the file's node free or a directory, or where that changed meanwhile.
abbrev file_claims : ℕ → ℕ → Action → OpClaims
file_claims file most action = record {
  most_events = λ c. Some most;
  actions = λ answer trace. actions_if_done (action ∷ []) answer;
  IsHonest = λ c refusal trace. FileHonest (SeenIn trace) file refusal;
  ReplyMatchesTrace = λ reply trace. IsUnit reply;
  MayWait = λ c trace. ⊥;
}

-- a page fault sets a file's mark, a write-back clears it
abbrev mark_claims : Bool → ℕ → OpClaims
mark_claims dirty file = file_claims file 2 (mark_done dirty file)

-- a close has added its action; the last one of a removed file, which counts one removed file less, has added it inside level 3
abbrev pub close_adds : ℕ → Result Reply GateError → List Traced → List Action
close_adds file (Ok reply) trace =
    if found_dropped trace then Return (Level 3) ∷ (CloseAction file ∷ (Grant (Level 3) ∷ [])) else CloseAction file ∷ []
close_adds file (Err refusal) trace = []

-- it is refused where its file changed meanwhile, or where it found level 3 closed and doesn't wait; its file is one, as some task has it open
abbrev close_honest : ℕ → Bool → GateError → List Traced → Type 0
close_honest file wait Again trace = SeenIn trace finds_other ⊎ ((wait ≡ false) × (found_closed 3 trace ≡ true))
close_honest file wait refusal trace = ⊥

-- where a snapshot doesn't wait, it has a most number of steps
abbrev pub snapshot_most : Bool → ℕ → Option ℕ
snapshot_most true nodes = None
snapshot_most false nodes = Some (2 * nodes + 4)

-- the claims of each operation
abbrev pub claims : Op → OpClaims
-- a want that is granted has added its grant; one that waits has found HOLD, and nothing else since its addition
claims (Want m p wait) = record {
  most_events = λ c. if wait then None else Some 6;
  actions = λ answer trace. actions_if_done (Grant (Mount m) ∷ []) answer;
  IsHonest = λ c refusal trace. want_honest m wait refusal trace;
  ReplyMatchesTrace = λ reply trace. Unit {0};
  MayWait = λ c trace. (wait ≡ true) × (looks_again (finds_hold m) trace ≡ true);
}
-- a drop has added its return, and is never refused
claims (DropMount m p) = record {
  most_events = λ c. Some 1;
  actions = λ answer trace. actions_if_done (Return (Mount m) ∷ []) answer;
  IsHonest = λ c refusal trace. ⊥;
  ReplyMatchesTrace = λ reply trace. Unit {0};
  MayWait = λ c trace. ⊥;
}
-- one that waits has found `umount` taken, and nothing else
claims (ChangeMount m read_only wait) = record {
  most_events = λ c. if wait then None else Some (c.processors + 7);
  actions = λ answer trace. actions_if_done (unless_so read_only (found_read_only m trace) m) answer;
  IsHonest = λ c refusal trace. change_honest c m wait refusal trace;
  ReplyMatchesTrace = λ reply trace. Unit {0};
  MayWait = λ c trace. (wait ≡ true) × (each_event finds_taken trace ≡ true);
}
-- it waits where it has found `umount` taken, and nothing else
claims (RemountSb read_only) = record {
  most_events = λ c. None;
  actions = λ answer trace. remount_adds read_only answer trace;
  IsHonest = λ c refusal trace. remount_honest c read_only refusal trace;
  ReplyMatchesTrace = λ reply trace. Unit {0};
  MayWait = λ c trace. each_event finds_taken trace ≡ true;
}
-- a start that is granted has added its grant; one that waits has found the level closed, taken its count back and left its section
claims (Start i p wait) = record {
  most_events = λ c. if wait then None else Some 6;
  actions = λ answer trace. actions_if_done (Grant (Level i) ∷ []) answer;
  IsHonest = λ c refusal trace. start_honest i wait refusal trace;
  ReplyMatchesTrace = λ reply trace. Unit {0};
  MayWait = λ c trace. (wait ≡ true) × (left_closed i trace ≡ true);
}
-- an end has added its return, and is never refused
claims (End i p) = record {
  most_events = λ c. Some 1;
  actions = λ answer trace. actions_if_done (Return (Level i) ∷ []) answer;
  IsHonest = λ c refusal trace. ⊥;
  ReplyMatchesTrace = λ reply trace. Unit {0};
  MayWait = λ c trace. ⊥;
}
-- it waits for level 1 as a start does, and then for the mount as a want does
claims (WantWrite m p) = record {
  most_events = λ c. None;
  actions = λ answer trace. write_adds m answer;
  IsHonest = λ c refusal trace. write_honest m refusal trace;
  ReplyMatchesTrace = λ reply trace. Unit {0};
  MayWait = λ c trace. (left_closed 1 trace ≡ true) ⊎ (holds_since m trace ≡ true);
}
-- a return of write access has added both returns, and is never refused
claims (DropWrite m p) = record {
  most_events = λ c. Some 2;
  actions = λ answer trace. actions_if_done (Return (Level 1) ∷ (Return (Mount m) ∷ [])) answer;
  IsHonest = λ c refusal trace. ⊥;
  ReplyMatchesTrace = λ reply trace. Unit {0};
  MayWait = λ c trace. ⊥;
}
-- a callback adds no action and is never refused; it waits where it found a task inside a section
claims (Callback i) = record {
  most_events = λ c. None;
  actions = λ answer trace. [];
  IsHonest = λ c refusal trace. ⊥;
  ReplyMatchesTrace = λ reply trace. callback_told i reply trace;
  MayWait = λ c trace. newest finds_inside trace ≡ true;
}
-- it waits where it found `umount` taken, readers or a writer at the level that it closes, or all counts of a level with a sum other than 0
claims (FreezeOp holder) = record {
  most_events = λ c. None;
  actions = λ answer trace. freeze_adds holder answer trace;
  IsHonest = λ c refusal trace. freeze_honest holder refusal trace;
  ReplyMatchesTrace = λ reply trace. Unit {0};
  MayWait = λ c trace. (newest finds_taken trace ≡ true) ⊎ ((newest finds_readers trace ≡ true) ⊎ FoundInside c.processors trace);
}
-- it waits where it has found `umount` taken, and nothing else
claims (ThawOp holder) = record {
  most_events = λ c. None;
  actions = λ answer trace. thaw_adds holder answer trace;
  IsHonest = λ c refusal trace. thaw_honest holder refusal trace;
  ReplyMatchesTrace = λ reply trace. Unit {0};
  MayWait = λ c trace. each_event finds_taken trace ≡ true;
}
-- A create is refused where it found its directory free or a file, all nodes taken, or its node taken meanwhile.
claims (CreateOp d kind) = record {
  most_events = λ c. Some (c.nodes + 3);
  actions = λ answer trace. create_adds d kind answer;
  IsHonest = λ c refusal trace. CreateHonest (SeenIn trace) (first_create c d kind) refusal;
  ReplyMatchesTrace = λ reply trace. IsNodeReply reply;
  MayWait = λ c trace. ⊥;
}
claims (RemoveOp file) = file_claims file 4 (RemoveAction file)
-- a grow is refused also where it found no room for its blocks
claims (GrowOp file blocks) = record {
  most_events = λ c. Some 5;
  actions = λ answer trace. actions_if_done (GrowAction file blocks ∷ []) answer;
  IsHonest = λ c refusal trace. GrowHonest (SeenIn trace) (first_grow c file blocks) refusal;
  ReplyMatchesTrace = λ reply trace. IsUnit reply;
  MayWait = λ c trace. ⊥;
}
-- a move also where it found its directory free or a file
claims (MoveToOp file dir) = record {
  most_events = λ c. Some 5;
  actions = λ answer trace. actions_if_done (MoveToAction file dir ∷ []) answer;
  IsHonest = λ c refusal trace. MoveHonest (SeenIn trace) (first_move file dir) refusal;
  ReplyMatchesTrace = λ reply trace. IsUnit reply;
  MayWait = λ c trace. ⊥;
}
claims (FaultOp file) = mark_claims true file
claims (FlushOp file) = mark_claims false file
claims (OpenOp file) = file_claims file 2 (OpenAction file)
-- one that waits has found level 3 closed, taken its count back and left its section
claims (CloseOp file p wait) = record {
  most_events = λ c. if wait then None else Some 10;
  actions = λ answer trace. close_adds file answer trace;
  IsHonest = λ c refusal trace. close_honest file wait refusal trace;
  ReplyMatchesTrace = λ reply trace. IsUnit reply;
  MayWait = λ c trace. (wait ≡ true) × (left_closed 3 trace ≡ true);
}
-- A snapshot has added nothing, and answers a tree. It is refused where it found `umount` taken and doesn't wait, or a stage other than 4;
-- one that waits has found `umount` taken, and nothing else.
claims (SnapshotOp wait) = record {
  most_events = λ c. snapshot_most wait c.nodes;
  actions = λ answer trace. [];
  IsHonest = λ c refusal trace. SnapshotHonest (SeenIn trace) (first_snapshot c 0 wait) refusal;
  ReplyMatchesTrace = λ reply trace. reply ≡ TreeReply;
  MayWait = λ c trace. (wait ≡ true) × (each_event finds_taken trace ≡ true);
}
