-- Roles: what each step of a phase is doing at a mount, at a level, with the stage and the holders, and at the tree.
use Rattle.std.specs.Prelude.{ℕ, ◌-◌, ◌==◌, nat_lt, Bool, true, false, if◌then◌else◌, Option, Some, None, Result, Ok, Err}
use Rattle.access_model.specs.{Holders.{nobody, with_holder, is_unheld}, declared.{actions.Holder.Holder, errors.GateError.GateError, replies.Reply.Reply}}
use Rattle.cpu_words.specs.gate_counts.Levels.{LevelRole, Out as CountsNot, Seeking, BackingOff as BacksOff, Summing as SumsLevel, Passed}
use Rattle.gated_tree.specs.Roles.{Role as TreeRole, Out as OffTree, Freeing, Dropped, Uncounting, Bare, Clearing}
use Rattle.gated_tree.specs.declared.{phases.TreePhase.TreePhase, snapshots.SnapshotStep.SnapshotStep}
use Rattle.mount_counts.specs.Roles.{Role, Out, Asking, Cleared, PastRemount, PastFlags, BackingOff, Summing, Empty, Leaving}
use Rattle.mount_counts.specs.declared.phases.{ChangeStep.ChangeStep, MountPhase.MountPhase, WantStep.WantStep}
use Rattle.mount_counts.specs.declared.remounts.RemountStep.{RemountStep}
use Rattle.percpu_rwsem.specs.declared.readers.{DownRead.DownRead, DownReadStep.DownReadStep}
use Rattle.percpu_rwsem.specs.declared.writers.{DownWriteStep.DownWriteStep, UpWriteStep.UpWriteStep}
use Rattle.freeze_levels.specs.declared.{freezes.FreezeStep.FreezeStep, hooks.HookKind.HookKind, thaws.ThawStep.ThawStep}
use Rattle.freeze_levels.specs.holder_laws.Roles.{HolderRole, Apart, Found, Fills, Empties}
use Rattle.freeze_laws.specs.levels.{Operations.{down_read_role, down_write_role, up_write_role}, Roles.{SyncRole, Out as IsApart, Closed, Entered}}
use Rattle.freeze_laws.specs.stages.Roles.{Place, Before, Closing, HasPassed, StageRole, Aside, Owning, Remounting, Freezing, Reopening}
use Rattle.composite_ops.specs.declared.{write_access.phases.WritePhase.{WritePhase}, file_closes.phases.ClosePhase.{ClosePhase}}

-- what a step of a want is doing at its mount, on this processor
abbrev pub want_role : ℕ → WantStep → Role
want_role p WantStep.CountsUp = Out
want_role p WantStep.LoadsHold = Asking p
want_role p WantStep.LoadsRemount = Cleared p
want_role p WantStep.LoadsReadOnly = PastRemount p
want_role p WantStep.LoadsSuperblock = PastFlags p
want_role p (WantStep.CountsDown refusal) = BackingOff p

-- what a step of a change is doing at its mount: where its sum was 0, the mount is empty until HOLD is cleared
abbrev pub change_role : ChangeStep → Role
change_role (ChangeStep.Sums sum) = Summing sum.words sum.total
change_role ChangeStep.SetsReadOnly = Empty
change_role (ChangeStep.ClearsHold (Ok answer)) = Empty
change_role (ChangeStep.ClearsHold (Err refusal)) = Leaving
change_role step = Out

-- a role at one mount alone
abbrev pub role_if : Bool → Role → Role
role_if true r = r
role_if false r = Out

-- the role at each mount of a task that is at this phase: these layers have one at one mount alone
abbrev pub mount_role : ℕ → MountPhase → Role
mount_role m (MountPhase.Want w) = role_if (m == w.mount) (want_role w.cpu w.step)
mount_role m (MountPhase.Change x) = role_if (m == x.mount) (change_role x.step)
mount_role m phase = Out

-- 1 while a change owns `umount`: once it has locked it, up to its release
abbrev pub change_owns : ChangeStep → ℕ
change_owns ChangeStep.Locks = 0
change_owns step = 1

-- at a mount only a change owns `umount`
abbrev pub mount_owns : MountPhase → ℕ
mount_owns (MountPhase.Change x) = change_owns x.step
mount_owns phase = 0

-- and of a write access, which has the role of its want
abbrev pub write_role : ℕ → WritePhase → Role
write_role m (WritePhase.Wants w) = mount_role m (MountPhase.Want w)
write_role m x = Out

-- A remount, among so many nodes: in its loop it relies on the stage 0 and the flags 0 that it found, and with `remount` set it clears the
-- marks from node 1 on; the root, node 0, never has one.
abbrev pub remount_stage_role : ℕ → RemountStep → StageRole
remount_stage_role nodes RemountStep.Locks = Aside
remount_stage_role nodes RemountStep.LoadsStage = Owning None None
remount_stage_role nodes RemountStep.LoadsSuperblock = Owning (Some 0) None
remount_stage_role nodes RemountStep.SetsWritable = Owning (Some 0) None
remount_stage_role nodes (RemountStep.ClearsHold held) = Remounting 0 1
remount_stage_role nodes (RemountStep.ClearsMark n) = Remounting 0 n
remount_stage_role nodes RemountStep.SetsReadOnly = Remounting 0 nodes
remount_stage_role nodes RemountStep.ClearsRemount = Remounting 1 nodes
remount_stage_role nodes (RemountStep.Releases answer) = Owning None None
remount_stage_role nodes step = Owning (Some 0) (Some 0)

-- It has found no removed file before its store of `remount` 1, and clears the marks from there to its store of the superblock's flag.
abbrev pub remount_tree_role : ℕ → RemountStep → TreeRole
remount_tree_role nodes (RemountStep.SetsRemount held) = Bare
remount_tree_role nodes (RemountStep.ClearsHold held) = Clearing 1
remount_tree_role nodes (RemountStep.ClearsMark n) = Clearing n
remount_tree_role nodes RemountStep.SetsReadOnly = Clearing nodes
remount_tree_role nodes step = OffTree

-- the hook whose answer a step of a remount reads
abbrev pub remount_hook : RemountStep → Option HookKind
remount_hook RemountStep.SetsWritable = Some HookKind.Reconfigure
remount_hook RemountStep.SetsReadOnly = Some HookKind.Reconfigure
remount_hook step = None

-- a role at one level alone
abbrev pub count_role_if : Bool → LevelRole → LevelRole
count_role_if true r = r
count_role_if false r = CountsNot

-- the same of its rcu_sync
abbrev pub sync_role_if : Bool → SyncRole → SyncRole
sync_role_if true r = r
sync_role_if false r = IsApart

-- what a step of a down-read is doing at its level's counts, on this processor: on the fast path it has added nothing before its grant
abbrev pub read_count_role : ℕ → DownReadStep → LevelRole
read_count_role p DownReadStep.LoadsBlock = Seeking p
read_count_role p DownReadStep.CountsDown = BacksOff p
read_count_role p step = CountsNot

-- a down-read, at the counts of each level
abbrev pub read_level_role : ℕ → DownRead → LevelRole
read_level_role i r = count_role_if (i == r.level) (read_count_role r.cpu r.step)

-- and at its rcu_sync
abbrev pub read_sync_role : ℕ → DownRead → SyncRole
read_sync_role i r = sync_role_if (i == r.level) (down_read_role r.step)

-- what a step of a down-write is doing at its level's counts
abbrev pub down_count_role : DownWriteStep → LevelRole
down_count_role (DownWriteStep.Sums sum) = SumsLevel sum.words sum.total
down_count_role step = CountsNot

-- and one of an up-write
abbrev pub up_count_role : UpWriteStep → LevelRole
up_count_role UpWriteStep.ClearsBlock = Passed
up_count_role (UpWriteStep.Exits transition) = CountsNot

-- How a freeze or a thaw stands with the levels: those below one of them are closed and passed, those above it are not its own, and at
-- that one it has these roles.
pub record LevelPosition : Type 0 where
  pub level : ℕ
  pub count : LevelRole
  pub sync : SyncRole

-- the levels up to this one are closed and passed
abbrev pub closed_to : ℕ → LevelPosition
closed_to level = record { level = level; count = Passed; sync = Closed }

-- the levels below this one are closed and passed, and it is open
abbrev pub open_from : ℕ → LevelPosition
open_from level = record { level = level; count = CountsNot; sync = IsApart }

-- a freeze
abbrev pub freeze_position : FreezeStep → Option LevelPosition
freeze_position (FreezeStep.Closes d) = Some record { level = d.level; count = down_count_role d.step; sync = down_write_role d.step }
freeze_position (FreezeStep.Waits d) = Some record { level = d.level; count = down_count_role d.step; sync = down_write_role d.step }
freeze_position (FreezeStep.Undoes level transition code) = Some record { level = level; count = CountsNot; sync = Entered }
freeze_position (FreezeStep.LocksToUndo code) = Some (open_from 1)
freeze_position (FreezeStep.GivesUp level code) = Some (open_from level)
freeze_position FreezeStep.LocksAgain = Some (closed_to 1)
freeze_position FreezeStep.SetsPageFault = Some (closed_to 1)
freeze_position (FreezeStep.Cleans marks) = Some (closed_to 2)
freeze_position FreezeStep.SetsFs = Some (closed_to 2)
freeze_position FreezeStep.SetsComplete = Some (closed_to 3)
freeze_position (FreezeStep.Reopens u code) = Some record { level = u.level; count = up_count_role u.step; sync = up_write_role u.step }
freeze_position step = None

-- a thaw
abbrev pub thaw_position : ThawStep → Option LevelPosition
thaw_position (ThawStep.Reopens u) = Some record { level = u.level; count = up_count_role u.step; sync = up_write_role u.step }
thaw_position step = None

-- at its own level this role, closed below it, and none above it
abbrev pub count_beside : (here below : Bool) → LevelRole → LevelRole
count_beside true below r = r
count_beside false true r = Passed
count_beside false false r = CountsNot

-- the same of the rcu_sync
abbrev pub sync_beside : (here below : Bool) → SyncRole → SyncRole
sync_beside true below r = r
sync_beside false true r = Closed
sync_beside false false r = IsApart

-- who stands so at the counts of a level
abbrev pub position_count : ℕ → Option LevelPosition → LevelRole
position_count i None = CountsNot
position_count i (Some s) = count_beside (i == s.level) (nat_lt i s.level) s.count

-- and at its rcu_sync
abbrev pub position_sync : ℕ → Option LevelPosition → SyncRole
position_sync i None = IsApart
position_sync i (Some s) = sync_beside (i == s.level) (nat_lt i s.level) s.sync

-- a down-write with its level: it closes it by its swap, and sums from there
abbrev pub place_of : DownWriteStep → Place
place_of (DownWriteStep.Sums sum) = Closing
place_of step = Before

-- an up-write with its level: it reopens it by its store
abbrev pub reopening_role : ℕ → UpWriteStep → StageRole
reopening_role level UpWriteStep.ClearsBlock = Reopening level
reopening_role level (UpWriteStep.Exits transition) = Reopening (level - 1)

-- A freeze, among so many nodes: it closes level 1 without `umount`, and the others with it.
abbrev pub freeze_stage_role : ℕ → FreezeStep → StageRole
freeze_stage_role nodes FreezeStep.Locks = Aside
freeze_stage_role nodes FreezeStep.LoadsStage = Owning None None
freeze_stage_role nodes FreezeStep.LoadsHolders = Owning (Some 4) None
freeze_stage_role nodes (FreezeStep.Holds beside) = Owning (Some 4) None
freeze_stage_role nodes FreezeStep.LoadsSuperblock = Owning (Some 0) None
freeze_stage_role nodes FreezeStep.CompletesReadOnly = Owning (Some 0) (Some 1)
freeze_stage_role nodes FreezeStep.SetsWrite = Owning (Some 0) (Some 0)
freeze_stage_role nodes FreezeStep.Unlocks = Freezing 1 Before true
freeze_stage_role nodes (FreezeStep.Closes d) = Freezing d.level (place_of d.step) (nat_lt 1 d.level)
freeze_stage_role nodes (FreezeStep.Waits d) = Freezing d.level (place_of d.step) (nat_lt 1 d.level)
freeze_stage_role nodes (FreezeStep.Undoes level transition code) = Freezing level Before (nat_lt 1 level)
freeze_stage_role nodes (FreezeStep.LocksToUndo code) = Freezing 1 Before false
freeze_stage_role nodes (FreezeStep.GivesUp level code) = Freezing level Before true
freeze_stage_role nodes FreezeStep.LocksAgain = Freezing 1 (HasPassed 0) false
freeze_stage_role nodes FreezeStep.SetsPageFault = Freezing 1 (HasPassed 0) true
freeze_stage_role nodes (FreezeStep.Cleans marks) = Freezing 2 (HasPassed marks.node) true
freeze_stage_role nodes FreezeStep.SetsFs = Freezing 2 (HasPassed nodes) true
freeze_stage_role nodes FreezeStep.SetsComplete = Freezing 3 (HasPassed 0) true
freeze_stage_role nodes (FreezeStep.Reopens u code) = reopening_role u.level u.step
freeze_stage_role nodes (FreezeStep.Releases answer) = Owning None None

-- A freeze that is to store its holder: right after its store of stage 4 beside nobody, and else beside those that it has found.
abbrev pub freeze_holder_role : FreezeStep → HolderRole
freeze_holder_role (FreezeStep.Holds beside) = if is_unheld beside then Fills else Found beside
freeze_holder_role step = Apart

-- A freeze: from the last load of level 2's sum on it clears the marks, until its store of stage 3.
abbrev pub freeze_tree_role : ℕ → FreezeStep → TreeRole
freeze_tree_role nodes (FreezeStep.Cleans marks) = Clearing marks.node
freeze_tree_role nodes FreezeStep.SetsFs = Clearing nodes
freeze_tree_role nodes step = OffTree

-- 1 while a freeze owns `umount`: from its lock to its release, but for the closing of level 1
abbrev pub freeze_owns : FreezeStep → ℕ
freeze_owns FreezeStep.Locks = 0
freeze_owns (FreezeStep.Closes d) = if nat_lt 1 d.level then 1 else 0
freeze_owns (FreezeStep.Waits d) = if nat_lt 1 d.level then 1 else 0
freeze_owns (FreezeStep.Undoes level transition code) = if nat_lt 1 level then 1 else 0
freeze_owns (FreezeStep.LocksToUndo code) = 0
freeze_owns FreezeStep.LocksAgain = 0
freeze_owns step = 1

-- what a step of a thaw is doing with the stage
abbrev pub thaw_stage_role : ThawStep → StageRole
thaw_stage_role ThawStep.Locks = Aside
thaw_stage_role ThawStep.LoadsStage = Owning None None
thaw_stage_role ThawStep.LoadsHolders = Owning (Some 4) None
thaw_stage_role (ThawStep.Leaves held) = Owning (Some 4) None
thaw_stage_role ThawStep.LoadsSuperblock = Owning (Some 4) None
thaw_stage_role ThawStep.LeavesReadOnly = Owning (Some 4) (Some 1)
thaw_stage_role ThawStep.LeavesLast = Owning (Some 4) (Some 0)
thaw_stage_role ThawStep.UnfreezesReadOnly = Owning (Some 4) (Some 1)
thaw_stage_role ThawStep.SetsUnfrozen = Owning (Some 4) (Some 0)
thaw_stage_role (ThawStep.Reopens u) = reopening_role u.level u.step
thaw_stage_role (ThawStep.Releases answer) = Owning None None

-- A thaw for this holder: it has found others beside it, or found it alone, until it stores what it leaves.
abbrev pub thaw_holder_role : Holder → ThawStep → HolderRole
thaw_holder_role holder (ThawStep.Leaves held) = Found held
thaw_holder_role holder ThawStep.LoadsSuperblock = Found (with_holder holder true nobody)
thaw_holder_role holder ThawStep.LeavesReadOnly = Found (with_holder holder true nobody)
thaw_holder_role holder ThawStep.LeavesLast = Found (with_holder holder true nobody)
thaw_holder_role holder ThawStep.UnfreezesReadOnly = Empties
thaw_holder_role holder ThawStep.SetsUnfrozen = Empties
thaw_holder_role holder step = Apart

-- 1 while a thaw owns it
abbrev pub thaw_owns : ThawStep → ℕ
thaw_owns ThawStep.Locks = 0
thaw_owns step = 1

-- the stage on which a snapshot relies that ends with this answer
abbrev pub stage_at_end : Result Reply GateError → Option ℕ
stage_at_end (Ok reply) = Some 4
stage_at_end (Err refusal) = None

-- a snapshot: from its load of stage 4 on it relies on that, up to its release
abbrev pub snapshot_stage_role : SnapshotStep → StageRole
snapshot_stage_role SnapshotStep.Locks = Aside
snapshot_stage_role SnapshotStep.LoadsStage = Owning None None
snapshot_stage_role (SnapshotStep.Releases answer) = Owning (stage_at_end answer) None
snapshot_stage_role step = Owning (Some 4) None

-- no other call at the tree has to do with the stage
abbrev pub tree_stage_role : TreePhase → StageRole
tree_stage_role (TreePhase.Snapshot x) = snapshot_stage_role x.step
tree_stage_role phase = Aside

-- 1 while a snapshot owns `umount`
abbrev pub snapshot_owns : SnapshotStep → ℕ
snapshot_owns SnapshotStep.Locks = 0
snapshot_owns step = 1

-- at the tree only a snapshot owns it
abbrev pub tree_owns : TreePhase → ℕ
tree_owns (TreePhase.Snapshot x) = snapshot_owns x.step
tree_owns phase = 0

-- the number of nodes of which a snapshot notes the words; no other call notes any
abbrev pub nodes_noted : TreePhase → ℕ
nodes_noted (TreePhase.Snapshot x) = x.nodes
nodes_noted phase = 0

-- an open relies on its file not to be open
abbrev pub tree_file : TreePhase → Option (ℕ × Bool)
tree_file (TreePhase.OpenFile x) = Some (x.file, false)
tree_file phase = None

-- a last close: its file's word is as it was loaded until it frees the node, whose blocks and removal it then still counts
abbrev pub close_tree_role : ClosePhase → TreeRole
close_tree_role (ClosePhase.Enters f node r) = Freeing f node
close_tree_role (ClosePhase.FreesNode f p node) = Freeing f node
close_tree_role (ClosePhase.RefundsBlocks p blocks) = Dropped blocks
close_tree_role (ClosePhase.Uncounts p) = Uncounting
close_tree_role phase = OffTree

-- a close relies on its file to be open until it has freed the node, or lowered the count
abbrev pub close_file : ClosePhase → Option (ℕ × Bool)
close_file (ClosePhase.LoadsFile x) = Some (x.file, true)
close_file (ClosePhase.LowersCount x node) = Some (x.file, true)
close_file (ClosePhase.Enters f node r) = Some (f, true)
close_file (ClosePhase.FreesNode f p node) = Some (f, true)
close_file phase = None
