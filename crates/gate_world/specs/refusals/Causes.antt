-- Moments of an execution: what stood in the state when a refusal's cause was read.
use Rattle.std.specs.Prelude.{Bool, Err, List, None, Option, Some, [], false, if◌then◌else◌, is_some, nat_lt, not, true, ℕ, ◌&&◌, ◌<◌, ◌==◌, ◌||◌}
use Rattle.std.specs.Prelude.{◌∷◌, ◌≡◌, ◌⊎◌}
use Rattle.access_model.specs.{Holders.held_by, States.{IsDirectory, IsFile, is_removed}, declared.actions.{Holder.Holder, NodeInfo.NodeInfo}}
use Rattle.access_model.specs.declared.errors.GateError.{GateError, TheVariants.{Again, Busy, Invalid, IsDir, NoEntry, NotDir, ReadOnly}}
use Rattle.access_model.specs.declared.replies.Next.TheVariants.{Done}
use Rattle.composite_ops.specs.declared.file_closes.phases.ClosePhase.{ClosePhase, TheVariants.{Enters, LowersCount}}
use Rattle.composite_ops.specs.declared.write_access.phases.WritePhase.{TheVariants.{GivesBack, Takes, Wants as WriteWants}, WritePhase}
use Rattle.{cpu_words.specs.{Hooks.HookAnswer, gate_counts.{Gates.counted as counted_of, Levels.level_as_gate}}, finite_sums.specs.Sums.total}
use Rattle.freeze_laws.specs.levels.Roles.{closed}
use Rattle.freeze_levels.specs.declared.freezes.FreezeStep.{FreezeStep, TheVariants.{Closes, LoadsHolders as FreezeLoadsHolders}}
use Rattle.freeze_levels.specs.declared.freezes.FreezeStep.TheVariants.{LoadsStage as FreezeLoadsStage, Waits as FreezeWaits}
use Rattle.freeze_levels.specs.declared.thaws.ThawStep.{ThawStep, TheVariants.{LoadsHolders as ThawLoadsHolders, LoadsStage as ThawLoadsStage}}
use Rattle.gated_tree.specs.declared.changes.{Create.Create, CreateStep.{CreateStep, TheVariants.LoadsDirectory}, MoveStep.MoveStep}
use Rattle.gated_tree.specs.declared.changes.{MoveStep.TheVariants.{LoadsDirectory as LoadsTarget, LoadsFile as LoadsFileToMove}, MoveTo.MoveTo}
use Rattle.gated_tree.specs.declared.{changes.{Remove.Remove, RemoveStep.{RemoveStep, TheVariants.LoadsFile as LoadsFileToRemove}}, growth.Grow.Grow}
use Rattle.gated_tree.specs.declared.{growth.GrowStep.{GrowStep, TheVariants.LoadsFile as LoadsFileToGrow}, marks.{Mark.Mark, MarkStep.MarkStep}}
use Rattle.gated_tree.specs.declared.{marks.MarkStep.TheVariants.LoadsFile as LoadsFileToMark, opens.{OpenFile.OpenFile, OpenStep.OpenStep}}
use Rattle.gated_tree.specs.declared.opens.OpenStep.TheVariants.{LoadsFile as LoadsFileToOpen}
use Rattle.gated_tree.specs.declared.phases.TreePhase.TheVariants.{Create as Creates, Grow as Grows, Mark as TreeMarks, MoveTo as Moves}
use Rattle.gated_tree.specs.declared.phases.TreePhase.{TheVariants.{OpenFile as OpensOne, Remove as Removes, Snapshot as Snapshots}, TreePhase}
use Rattle.gated_tree.specs.declared.snapshots.SnapshotStep.{SnapshotStep, TheVariants.LoadsStage as SnapshotLoadsStage}
use Rattle.mount_counts.specs.{Roles.{counted, has_hold}, declared.phases.ChangeStep.{ChangeStep, TheVariants.Sums}}
use Rattle.mount_counts.specs.declared.phases.MountPhase.TheVariants.{Change as Changes, Want as Wants}
use Rattle.mount_counts.specs.declared.phases.WantStep.{TheVariants.{LoadsHold, LoadsReadOnly, LoadsRemount, LoadsSuperblock}, WantStep}
use Rattle.mount_counts.specs.declared.remounts.RemountStep.{RemountStep}
use Rattle.mount_counts.specs.declared.remounts.RemountStep.TheVariants.{LoadsRemoved, LoadsRemovedAgain, LoadsStage, Sums as RemountSums}
use Rattle.percpu_rwsem.specs.declared.{readers.DownReadStep.{DownReadStep, TheVariants.LoadsBlock}, writers.DownWriteStep.DownWriteStep}
use Rattle.percpu_rwsem.specs.declared.writers.DownWriteStep.TheVariants.{Sums as SumsLevel}
use Rattle.gate_world.specs.{Levels.{at_level, is_frozen_whole, sync_role_of}, Rules.{at_mount, owns, role_of}, Shown.shown, Work.after_of}
use Rattle.gate_world.specs.{Worlds.{World, found_at, happens, opening, run}, declared.{config.Config.Config, entries.Entry.Entry, work.Phase.Phase}}
use Rattle.gate_world.specs.declared.work.Phase.TheVariants.{Closes, DownReads, Freezes, Mounts, Remounts, Thaws, Trees, Writes}

-- the states of an execution, the newest first: the one that it leaves, and each that a transition found
abbrev pub trail : Config → List World → World → List Entry → List World
trail c earlier w [] = w ∷ earlier
trail c earlier w (e ∷ es) = trail c (w ∷ earlier) (happens c w e) es

-- the same from the opening on
abbrev pub trail_of : Config → List Entry → List World
trail_of c entries = trail c [] opening entries

-- of these states, the newest first, those since a task began the operation that it is at: before it the task was idle
abbrev pub since_begun : ℕ → List World → List World
since_begun t [] = []
since_begun t (w ∷ earlier) = if is_some (w.views t).phase then w ∷ since_begun t earlier else []

-- the next step of a want is one of its questions: whether HOLD is set, and whether the mount is read-only
abbrev pub want_asks : WantStep → Bool
want_asks LoadsHold = true
want_asks LoadsRemount = true
want_asks LoadsReadOnly = true
want_asks LoadsSuperblock = true
want_asks step = false

-- the same of a write access
abbrev pub write_asks : WritePhase → Bool
write_asks (WriteWants x) = want_asks x.step
write_asks x = false

-- the same of what a task is at
abbrev pub asks : Option Phase → Bool
asks (Some (Mounts (Wants x))) = want_asks x.step
asks (Some (Writes x)) = write_asks x
asks phase = false

-- the newest of these states in which a task is at such a phase
abbrev pub last_where : (Option Phase → Bool) → ℕ → List World → Option World
last_where is t [] = None
last_where is t (w ∷ earlier) = if is (w.views t).phase then Some w else last_where is t earlier

-- the state in which a task last asked about a mount
abbrev pub last_question : ℕ → List World → Option World
last_question t worlds = last_where asks t worlds

-- the shown state had the mount read-only there
abbrev pub was_read_only : Config → ℕ → Option World → Bool
was_read_only c m None = false
was_read_only c m (Some w) = (shown c w).mount_ro m || (shown c w).sb_ro

-- another task had HOLD set at the mount there
abbrev pub WasHeld : Config → ℕ → ℕ → Option World → Type 0
WasHeld c t m None = ⊥
WasHeld c t m (Some w) = (y : ℕ) × (y < c.tasks) × (y ≡ t → ⊥) × (has_hold (role_of m (w.views y).phase) ≡ 1)

-- another task owns `umount` in the newest of these states
abbrev pub IsTaken : Config → ℕ → List World → Type 0
IsTaken c t [] = ⊥
IsTaken c t (w ∷ earlier) = (y : ℕ) × (y < c.tasks) × (y ≡ t → ⊥) × (owns (w.views y).phase ≡ 1)

-- the next step of a remount is its load of the stage
abbrev pub step_looks : RemountStep → Bool
step_looks LoadsStage = true
step_looks step = false

-- the same of a freeze, which looks at who holds one, too
abbrev pub freeze_looks : FreezeStep → Bool
freeze_looks FreezeLoadsStage = true
freeze_looks FreezeLoadsHolders = true
freeze_looks step = false

-- and of a thaw
abbrev pub thaw_looks : ThawStep → Bool
thaw_looks ThawLoadsStage = true
thaw_looks ThawLoadsHolders = true
thaw_looks step = false

-- and of a snapshot
abbrev pub snapshot_looks : SnapshotStep → Bool
snapshot_looks SnapshotLoadsStage = true
snapshot_looks step = false

abbrev pub tree_looks : TreePhase → Bool
tree_looks (Snapshots x) = snapshot_looks x.step
tree_looks phase = false

-- the same of what a task is at
abbrev pub looks_at_stage : Option Phase → Bool
looks_at_stage (Some (Remounts x)) = step_looks x.step
looks_at_stage (Some (Freezes x)) = freeze_looks x.step
looks_at_stage (Some (Thaws x)) = thaw_looks x.step
looks_at_stage (Some (Trees phase)) = tree_looks phase
looks_at_stage phase = false

-- the state in which a task last looked at the stage, or at who holds a freeze
abbrev pub last_look : ℕ → List World → Option World
last_look t worlds = last_where looks_at_stage t worlds

-- the shown state had a stage other than 0 there
abbrev pub was_frozen : Config → Option World → Bool
was_frozen c None = false
was_frozen c (Some w) = not ((shown c w).stage == 0)

-- the next step of a remount is a load of `removed`
abbrev pub step_counts : RemountStep → Bool
step_counts LoadsRemoved = true
step_counts (LoadsRemovedAgain held) = true
step_counts step = false

abbrev pub looks_at_removed : Option Phase → Bool
looks_at_removed (Some (Remounts x)) = step_counts x.step
looks_at_removed phase = false

-- the state in which a task last looked at `removed`
abbrev pub last_removed : ℕ → List World → Option World
last_removed t worlds = last_where looks_at_removed t worlds

-- a removed file was counted there
abbrev pub was_removed : Option World → Bool
was_removed None = false
was_removed (Some w) = not (w.words.removed == 0)

-- it had a stage other than 4 there
abbrev pub was_incomplete : Config → Option World → Bool
was_incomplete c None = false
was_incomplete c (Some w) = not ((shown c w).stage == 4)

-- it had a freeze under way there, or one that is held for this holder
abbrev pub was_busy : Config → Holder → Option World → Bool
was_busy c holder None = false
was_busy c holder (Some w) =
    not ((shown c w).stage == 0) && (not ((shown c w).stage == 4) || held_by (shown c w).holders holder)

-- it had a stage other than 4 there, or none that is held for this holder
abbrev pub was_unheld : Config → Holder → Option World → Bool
was_unheld c holder None = false
was_unheld c holder (Some w) = not ((shown c w).stage == 4) || not (held_by (shown c w).holders holder)

-- the next step of a down-read is its load of `block`
abbrev pub read_asks : DownReadStep → Bool
read_asks LoadsBlock = true
read_asks step = false

-- the same of a write access
abbrev pub write_asks_level : WritePhase → Bool
write_asks_level (Takes m r) = read_asks r.step
write_asks_level x = false

-- the same of a close
abbrev pub close_asks_level : ClosePhase → Bool
close_asks_level (Enters f node r) = read_asks r.step
close_asks_level x = false

-- the same of what a task is at
abbrev pub asks_level : Option Phase → Bool
asks_level (Some (DownReads r)) = read_asks r.step
asks_level (Some (Writes x)) = write_asks_level x
asks_level (Some (Closes x)) = close_asks_level x
asks_level phase = false

-- the state in which a task last asked whether a level is closed
abbrev pub last_asked : ℕ → List World → Option World
last_asked t worlds = last_where asks_level t worlds

-- the level was closed for the task there: the file system was frozen as a whole, or another task had closed the level
abbrev pub WasClosed : Config → ℕ → ℕ → Option World → Type 0
WasClosed c t i None = ⊥
WasClosed c t i (Some w) =
    (is_frozen_whole w.words ≡ 1) ⊎
    ((y : ℕ) × (y < c.tasks) × (y ≡ t → ⊥) × (closed (sync_role_of i (w.views y).phase) ≡ 1))

-- how many words of its sum a change has read, where its next step is a load of a word
abbrev pub step_read : ChangeStep → Option ℕ
step_read (Sums sum) = Some sum.words
step_read step = None

-- the same of a remount
abbrev pub remount_read : RemountStep → Option ℕ
remount_read (RemountSums m held sum) = Some sum.words
remount_read step = None

-- the same of a down-write, which sums the words of its level
abbrev pub down_write_read : DownWriteStep → Option ℕ
down_write_read (SumsLevel sum) = Some sum.words
down_write_read step = None

-- the same of a freeze
abbrev pub freeze_read : FreezeStep → Option ℕ
freeze_read (Closes d) = down_write_read d.step
freeze_read (FreezeWaits d) = down_write_read d.step
freeze_read step = None

-- how many words of a sum are read, where the next step of what a task is at is a load of a word
abbrev pub words_read : Option Phase → Option ℕ
words_read (Some (Mounts (Changes x))) = step_read x.step
words_read (Some (Remounts x)) = remount_read x.step
words_read (Some (Freezes x)) = freeze_read x.step
words_read phase = None

-- the states of a task's last sum: from the one in which its first word was loaded to the newest in which a word was still to be
-- loaded
abbrev pub sum_worlds : World → Option ℕ → List World → List World
sum_worlds w None earlier = earlier
sum_worlds w (Some read) earlier = if read == 0 then w ∷ [] else w ∷ earlier

-- these states among those of an execution, the newest first
abbrev pub moments_of_sum : ℕ → List World → List World
moments_of_sum t [] = []
moments_of_sum t (w ∷ earlier) = sum_worlds w (words_read (w.views t).phase) (moments_of_sum t earlier)

-- the mount of which the next step of a remount loads a count
abbrev pub remount_sums : RemountStep → Option ℕ
remount_sums (RemountSums m held sum) = Some m
remount_sums step = None

abbrev pub mount_summed : Option Phase → Option ℕ
mount_summed (Some (Remounts x)) = remount_sums x.step
mount_summed phase = None

-- in each of these states the next step of a remount is a load of a count of this mount
abbrev pub AreOfMount : ℕ → ℕ → List World → Type 0
AreOfMount t m [] = Unit {0}
AreOfMount t m (w ∷ earlier) = (mount_summed (w.views t).phase ≡ Some m) × AreOfMount t m earlier

-- what is held and sought at a mount
abbrev pub all_counted : Config → ℕ → World → ℕ
all_counted c m w = total c.tasks (λ t. counted (at_mount m (w.views t)))

-- something was counted at the mount in one of these states
abbrev pub was_counted : Config → ℕ → List World → Bool
was_counted c m [] = false
was_counted c m (w ∷ earlier) = nat_lt 0 (all_counted c m w) || was_counted c m earlier

-- what is held and sought at a level
abbrev pub all_inside : Config → ℕ → World → ℕ
all_inside c i w = total c.tasks (λ t. counted_of (level_as_gate (at_level i (w.views t))))

-- something was counted at the level in one of these states
abbrev pub was_inside : Config → ℕ → List World → Bool
was_inside c i [] = false
was_inside c i (w ∷ earlier) = nat_lt 0 (all_inside c i w) || was_inside c i earlier

-- a remount's last sum is that of some mount, at which something was counted while the sum's words were loaded
abbrev pub SomeWasCounted : Config → ℕ → List World → Type 0
SomeWasCounted c t worlds =
    (m : ℕ) × (m < c.mounts) × AreOfMount t m (moments_of_sum t worlds) × (was_counted c m (moments_of_sum t worlds) ≡ true)

-- the node that the next step of a call at the tree loads to see of which kind it is
abbrev pub create_sees : Create → CreateStep → Option ℕ
create_sees x LoadsDirectory = Some x.dir
create_sees x step = None

abbrev pub remove_sees : Remove → RemoveStep → Option ℕ
remove_sees x LoadsFileToRemove = Some x.file
remove_sees x step = None

abbrev pub grow_sees : Grow → GrowStep → Option ℕ
grow_sees x LoadsFileToGrow = Some x.file
grow_sees x step = None

abbrev pub move_sees : MoveTo → MoveStep → Option ℕ
move_sees x LoadsFileToMove = Some x.file
move_sees x (LoadsTarget file) = Some x.dir
move_sees x step = None

abbrev pub mark_sees : Mark → MarkStep → Option ℕ
mark_sees x LoadsFileToMark = Some x.file
mark_sees x step = None

abbrev pub open_sees : OpenFile → OpenStep → Option ℕ
open_sees x LoadsFileToOpen = Some x.file
open_sees x step = None

abbrev pub tree_sees : TreePhase → Option ℕ
tree_sees (Creates x) = create_sees x x.step
tree_sees (Removes x) = remove_sees x x.step
tree_sees (Grows x) = grow_sees x x.step
tree_sees (Moves x) = move_sees x x.step
tree_sees (TreeMarks x) = mark_sees x x.step
tree_sees (OpensOne x) = open_sees x x.step
tree_sees phase = None

-- the refusal tells what the shown state has at this node: nothing or a removed file, a file, a directory
abbrev pub TellsOf : Option NodeInfo → GateError → Type 0
TellsOf entry NoEntry = (entry ≡ None) ⊎ (is_removed entry ≡ true)
TellsOf entry NotDir = IsFile entry
TellsOf entry IsDir = IsDirectory entry
TellsOf entry refusal = Unit {0}

-- What a refusal says that a step brings in the newest of these states, by what its task is at there. A kind of phase has rows of its own,
-- by the refusal; one with none is never refused, so that a new one says its causes.

-- a want: as read-only, and the mount was so when it last asked; again, and another task had HOLD set at the mount then
abbrev pub WantRefused : Config → ℕ → ℕ → Option World → GateError → Type 0
WantRefused c t m asked ReadOnly = was_read_only c m asked ≡ true
WantRefused c t m asked Again = WasHeld c t m asked
WantRefused c t m asked refusal = Unit {0}

-- a change: as busy, and something was counted at the mount while it loaded its sum; again, and another task owns `umount`
abbrev pub ChangeRefused : Config → ℕ → List World → ℕ → GateError → Type 0
ChangeRefused c t worlds m Busy = was_counted c m (moments_of_sum t worlds) ≡ true
ChangeRefused c t worlds m Again = IsTaken c t worlds
ChangeRefused c t worlds m refusal = Unit {0}

-- a remount: as busy, and the stage was not 0, or a removed file was counted, when it looked, or something while it loaded its sum
abbrev pub RemountRefused : Config → ℕ → List World → GateError → Type 0
RemountRefused c t worlds Busy =
    (was_frozen c (last_look t worlds) ≡ true) ⊎ ((was_removed (last_removed t worlds) ≡ true) ⊎ SomeWasCounted c t worlds)
RemountRefused c t worlds refusal = Unit {0}

-- a start, and what goes inside a level as one: again, and the level was closed when it last asked
abbrev pub ReadRefused : Config → ℕ → List World → ℕ → GateError → Type 0
ReadRefused c t worlds i Again = WasClosed c t i (last_asked t worlds)
ReadRefused c t worlds i refusal = Unit {0}

-- a write access: as its start at level 1; and as its want, where it leaves the level that it has given back
abbrev pub WriteRefused : Config → ℕ → List World → WritePhase → GateError → Type 0
WriteRefused c t worlds (Takes m r) refusal = ReadRefused c t worlds r.level refusal
WriteRefused c t worlds (GivesBack m p answer) refusal = WantRefused c t m (last_question t worlds) refusal
WriteRefused c t worlds x refusal = Unit {0}

-- a close: as its start at level 3; or again, where its file changed meanwhile; as nothing else
abbrev pub CloseRefused : Config → ℕ → List World → ClosePhase → GateError → Type 0
CloseRefused c t worlds (Enters f node r) refusal = ReadRefused c t worlds r.level refusal
CloseRefused c t worlds (LowersCount x node) Again = Unit {0}
CloseRefused c t worlds x refusal = ⊥

-- a freeze: as busy, and another was under way, or one held for its holder, when it last looked
abbrev pub FreezeRefused : Config → ℕ → List World → Holder → GateError → Type 0
FreezeRefused c t worlds holder Busy = was_busy c holder (last_look t worlds) ≡ true
FreezeRefused c t worlds holder refusal = Unit {0}

-- a thaw: as invalid, and the stage was not 4, or none held for its holder, when it last looked
abbrev pub ThawRefused : Config → ℕ → List World → Holder → GateError → Type 0
ThawRefused c t worlds holder Invalid = was_unheld c holder (last_look t worlds) ≡ true
ThawRefused c t worlds holder refusal = Unit {0}

-- a snapshot: as invalid, and the stage was not 4 when it looked; again, and another task owns `umount`
abbrev pub SnapshotRefused : Config → ℕ → List World → GateError → Type 0
SnapshotRefused c t worlds Invalid = was_incomplete c (last_look t worlds) ≡ true
SnapshotRefused c t worlds Again = IsTaken c t worlds
SnapshotRefused c t worlds refusal = Unit {0}

-- another call at the tree: as a node that is free or removed, a file or a directory, and the step loads a node that the shown state has so
abbrev pub NodeRefused : Config → List World → TreePhase → GateError → Type 0
NodeRefused c [] phase refusal = ⊥
NodeRefused c (w ∷ earlier) phase refusal = (n : ℕ) × (tree_sees phase ≡ Some n) × TellsOf ((shown c w).tree n) refusal

abbrev pub CallRefused : Config → List World → TreePhase → GateError → Type 0
CallRefused c worlds phase NoEntry = NodeRefused c worlds phase NoEntry
CallRefused c worlds phase NotDir = NodeRefused c worlds phase NotDir
CallRefused c worlds phase IsDir = NodeRefused c worlds phase IsDir
CallRefused c worlds phase refusal = Unit {0}

abbrev pub TreeRefused : Config → ℕ → List World → TreePhase → GateError → Type 0
TreeRefused c t worlds (Snapshots x) refusal = SnapshotRefused c t worlds refusal
TreeRefused c t worlds phase refusal = CallRefused c worlds phase refusal

-- so of each phase
abbrev pub HasCause : Config → ℕ → List World → Phase → GateError → Type 0
HasCause c t worlds (Mounts (Wants x)) refusal = WantRefused c t x.mount (last_question t worlds) refusal
HasCause c t worlds (Mounts (Changes x)) refusal = ChangeRefused c t worlds x.mount refusal
HasCause c t worlds (Remounts x) refusal = RemountRefused c t worlds refusal
HasCause c t worlds (DownReads r) refusal = ReadRefused c t worlds r.level refusal
HasCause c t worlds (Writes x) refusal = WriteRefused c t worlds x refusal
HasCause c t worlds (Freezes x) refusal = FreezeRefused c t worlds x.holder refusal
HasCause c t worlds (Thaws x) refusal = ThawRefused c t worlds x.holder refusal
HasCause c t worlds (Trees phase) refusal = TreeRefused c t worlds phase refusal
HasCause c t worlds (Closes phase) refusal = CloseRefused c t worlds phase refusal
HasCause c t worlds phase refusal = ⊥

-- Every refusal has its cause: after any execution, where the next step of a task ends its operation with a refusal, whatever its phase, that
-- has its cause among the states since the task began the operation.
abbrev pub RefusalsHaveCauses : Config → List Entry → Type 0
RefusalsHaveCauses c entries =
    (t : ℕ) (phase : Phase) (hook : HookAnswer) (refusal : GateError) → t < c.tasks →
    ((run c opening entries).views t).phase ≡ Some phase →
    (after_of phase (found_at (run c opening entries).words phase hook) hook).0 ≡ Done (Err refusal) →
    HasCause c t (since_begun t (trail_of c entries)) phase refusal
