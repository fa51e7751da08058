-- How many steps may still come after the next one of a phase, where its way is free and no other task does anything.
use Rattle.std.specs.Prelude.{max, ℕ, zero, suc, ◌+◌, ◌-◌, ◌*◌, ◌==◌, Bool, true, false, if◌then◌else◌}
use Rattle.finite_sums.specs.Sums.{total}
pub use Rattle.gated_tree.specs.Ranks.{create_rank, remove_rank, grow_rank, move_rank, mark_rank, open_rank, snapshot_rank, tree_rank}
use Rattle.cpu_words.specs.{Sums.lead, Words.Words, declared.sums.Sum.Sum}
pub use Rattle.mount_counts.specs.Ranks.{want_rank, change_rank, mount_rank}
use Rattle.mount_counts.specs.{Sets.has_mount}
use Rattle.mount_counts.specs.declared.remounts.RemountStep.{RemountStep, TheVariants.{Locks as RLocks, LoadsStage as RLoadsStage}}
use Rattle.mount_counts.specs.declared.remounts.RemountStep.TheVariants.{LoadsSuperblock as RLoadsSuperblock, LoadsRemoved as RLoadsRemoved}
use Rattle.mount_counts.specs.declared.remounts.RemountStep.TheVariants.{LoadsRemovedAgain as RLoadsRemovedAgain, LeavesHolds as RLeavesHolds, SetsWritable}
use Rattle.mount_counts.specs.declared.remounts.RemountStep.TheVariants.{LoadsFlags as RLoadsFlags, SetsHold as RSetsHold, Sums as RSums, SetsRemount}
use Rattle.mount_counts.specs.declared.remounts.RemountStep.TheVariants.{ClearsHold as RClearsHold, GivesUp, ClearsMark, SetsReadOnly as RSetsReadOnly}
use Rattle.mount_counts.specs.declared.{remounts.RemountStep.TheVariants.{ClearsRemount, Releases as RReleases}, sets.MountSet.MountSet}
use Rattle.percpu_rwsem.specs.{SyncWords.{bit, pack}, declared.callbacks.CallbackStep.{CallbackStep, TheVariants.{Claims, AwaitsSections as CAwaitsSections}}}
use Rattle.percpu_rwsem.specs.declared.{callbacks.CallbackStep.TheVariants.CallsBack as CCallsBack, grace.Grace.Grace, readers.DownReadStep.DownReadStep}
use Rattle.percpu_rwsem.specs.declared.readers.DownReadStep.TheVariants.{EntersSection, LoadsSync, CountsUpFast, CountsUpSlow, LoadsBlock}
use Rattle.percpu_rwsem.specs.declared.readers.DownReadStep.TheVariants.{CountsDown as DCountsDown, LeavesAdmitted, LeavesBlocked}
use Rattle.percpu_rwsem.specs.declared.{transitions.Transition.{Transition, TheVariants.{Loads, Exchanges}}, writers.DownWrite.DownWrite}
use Rattle.percpu_rwsem.specs.declared.writers.DownWriteStep.{DownWriteStep, TheVariants.{Enters, AwaitsSections as WAwaitsSections, CallsBack as WCallsBack}}
use Rattle.percpu_rwsem.specs.declared.writers.{DownWriteStep.TheVariants.{AwaitsPassed, SetsBlock, Sums as WSums}, UpWrite.UpWrite, UpWriteStep.UpWriteStep}
use Rattle.percpu_rwsem.specs.declared.writers.UpWriteStep.TheVariants.{ClearsBlock, Exits}
use Rattle.freeze_levels.specs.declared.freezes.{Freeze.Freeze, FreezeStep.{FreezeStep, TheVariants.{Locks as FLocks, LoadsStage as FLoadsStage}}}
use Rattle.freeze_levels.specs.declared.freezes.FreezeStep.TheVariants.{LoadsHolders as FLoadsHolders, Holds, LoadsSuperblock as FLoadsSuperblock}
use Rattle.freeze_levels.specs.declared.freezes.FreezeStep.TheVariants.{CompletesReadOnly, SetsWrite, Unlocks, Closes, LocksAgain, SetsPageFault, Cleans}
use Rattle.freeze_levels.specs.declared.freezes.FreezeStep.TheVariants.{SetsFs, SetsComplete, Reopens as FReopens, Releases as FReleases}
use Rattle.freeze_levels.specs.declared.freezes.FreezeStep.TheVariants.{Waits as FWaits, Undoes, LocksToUndo, GivesUp}
use Rattle.freeze_levels.specs.declared.thaws.ThawStep.{ThawStep, TheVariants.{Locks as TLocks, LoadsStage as TLoadsStage, LoadsHolders as TLoadsHolders}}
use Rattle.freeze_levels.specs.declared.thaws.ThawStep.TheVariants.{Leaves as TLeaves, LoadsSuperblock as TLoadsSuperblock, LeavesReadOnly, LeavesLast}
use Rattle.freeze_levels.specs.declared.thaws.ThawStep.TheVariants.{UnfreezesReadOnly, SetsUnfrozen, Reopens as TReopens, Releases as TReleases}
use Rattle.composite_ops.specs.declared.write_access.phases.WritePhase.{WritePhase, TheVariants.{Takes, Wants as WWants, GivesBack, Drops as WDrops, Ends}}
use Rattle.composite_ops.specs.declared.file_closes.phases.ClosePhase.{ClosePhase}
use Rattle.composite_ops.specs.declared.file_closes.phases.ClosePhase.TheVariants.{LoadsFile as CloseLoadsFile, LowersCount, Enters as EntersLevel, FreesNode as ClosesNode}
use Rattle.composite_ops.specs.declared.file_closes.phases.ClosePhase.TheVariants.{RefundsBlocks as CloseRefundsBlocks, Uncounts as CloseUncounts, Leaves as CloseLeaves}
use Rattle.gate_world.specs.declared.{config.Config.Config, work.Phase.{Phase, TheVariants.{Mounts, Remounts, DownReads, UpReads, Callbacks, Writes}}}
use Rattle.gate_world.specs.declared.work.Phase.TheVariants.{Freezes, Thaws, Trees, Closes as FileCloses}

-- so many mounts of a remount's loop, each with its flags, HOLD and a word of each processor
abbrev pub loop_rank : (processors mounts : ℕ) → ℕ
loop_rank processors zero = 0
loop_rank processors (suc n) = loop_rank processors n + processors + 2

-- 1 for a mount of a set
abbrev pub mount_bit : MountSet → ℕ → ℕ
mount_bit held m = bit (has_mount held m)

-- how many mounts a set has
unfoldable pub held_size : MountSet → ℕ
held_size held = total 8 (mount_bit held)

-- A remount, among so many processors, mounts and nodes.
abbrev pub remount_rank : (processors mounts nodes : ℕ) → RemountStep → ℕ
remount_rank processors mounts nodes RLocks = loop_rank processors mounts + nodes + 16
remount_rank processors mounts nodes RLoadsStage = loop_rank processors mounts + nodes + 15
remount_rank processors mounts nodes RLoadsSuperblock = loop_rank processors mounts + nodes + 14
remount_rank processors mounts nodes SetsWritable = 1
remount_rank processors mounts nodes RLoadsRemoved = loop_rank processors mounts + nodes + 13
remount_rank processors mounts nodes (RLoadsFlags m held) = loop_rank processors (mounts - m) + nodes + 12
remount_rank processors mounts nodes (RSetsHold m held) = loop_rank processors (mounts - m) + nodes + 11
remount_rank processors mounts nodes (RSums m held sum) =
    loop_rank processors (mounts - (m + 1)) + (processors - sum.words) + nodes + 12
remount_rank processors mounts nodes (RLoadsRemovedAgain held) = nodes + 11
remount_rank processors mounts nodes (RLeavesHolds held) = held_size held
remount_rank processors mounts nodes (SetsRemount held) = nodes + 10
remount_rank processors mounts nodes (RClearsHold held) = held_size held + (nodes - 1) + 2
remount_rank processors mounts nodes (GivesUp m held) = held_size held
remount_rank processors mounts nodes (ClearsMark n) = nodes - n + 2
remount_rank processors mounts nodes RSetsReadOnly = 2
remount_rank processors mounts nodes ClearsRemount = 1
remount_rank processors mounts nodes (RReleases answer) = 0

-- a start that was blocked gives back what it added and leaves its section; one that waits begins again
abbrev pub blocked_rank : Bool → ℕ
blocked_rank true = 6
blocked_rank false = 0

-- a down-read, where its level is open or it doesn't wait
abbrev pub read_rank : Bool → DownReadStep → ℕ
read_rank wait EntersSection = 5
read_rank wait LoadsSync = 4
read_rank wait CountsUpFast = 1
read_rank wait CountsUpSlow = 3
read_rank wait LoadsBlock = 2
read_rank wait DCountsDown = blocked_rank wait + 1
read_rank wait LeavesAdmitted = 0
read_rank wait LeavesBlocked = blocked_rank wait

-- A transition of a sync word that holds this: one whose word was changed since it was loaded is loaded again.
abbrev pub exchange_rank : ℕ → Transition → ℕ
exchange_rank sync Loads = 1
exchange_rank sync (Exchanges from to) = if sync == pack from then 0 else 2

-- a grace period, where nobody is inside a section
abbrev pub grace_rank : Grace → ℕ
grace_rank g = g.tasks - g.task

-- a callback among so many tasks
abbrev pub callback_rank : ℕ → ℕ → CallbackStep → ℕ
callback_rank tasks sync (Claims transition) = tasks + 3 + exchange_rank sync transition
callback_rank tasks sync (CAwaitsSections grace) = grace_rank grace + 2
callback_rank tasks sync (CCallsBack transition) = exchange_rank sync transition

-- a write access
abbrev pub write_rank : WritePhase → ℕ
write_rank (Takes m r) = read_rank r.wait r.step + 8
write_rank (WWants x) = want_rank x.step + 1
write_rank (GivesBack m p refusal) = 0
write_rank (WDrops m p) = 1
write_rank (Ends p) = 0

-- a close
abbrev pub close_rank : ClosePhase → ℕ
close_rank (CloseLoadsFile x) = 10
close_rank (LowersCount x node) = 0
close_rank (EntersLevel f node r) = read_rank r.wait r.step + 4
close_rank (ClosesNode f p node) = 3
close_rank (CloseRefundsBlocks p blocks) = 2
close_rank (CloseUncounts p) = 1
close_rank (CloseLeaves p) = 0

-- An up-write.
abbrev pub up_rank : ℕ → UpWriteStep → ℕ
up_rank sync ClearsBlock = 2
up_rank sync (Exits transition) = exchange_rank sync transition

-- Levels to be reopened, this one and those below it.
abbrev pub reopens_rank : Words → UpWrite → ℕ
reopens_rank w u = up_rank (w.sync u.level) u.step + 3 * (u.level - 1) + 1

-- A sum of a level's words of which nothing is counted: where it began before that, it doesn't come to 0, and a new one begins.
abbrev pub sum_rank : ℕ → (ℕ → ℕ) → Sum → ℕ
sum_rank processors count sum =
    if lead processors count sum.words sum.total == 0 then processors - (sum.words + 1) else processors - (sum.words + 1) + processors

-- a down-write
abbrev pub down_rank : Words → DownWrite → DownWriteStep → ℕ
down_rank w d (Enters transition) = d.processors + d.tasks + 3 + exchange_rank (w.sync d.level) transition
down_rank w d (WAwaitsSections grace) = d.processors + grace_rank grace + 2
down_rank w d (WCallsBack transition) = d.processors + 1 + exchange_rank (w.sync d.level) transition
down_rank w d AwaitsPassed = d.processors + 1
down_rank w d SetsBlock = d.processors
down_rank w d (WSums sum) = sum_rank d.processors (w.level d.level) sum

-- the steps that close one level in a freeze
abbrev pub closing_rank : Freeze → ℕ
closing_rank x = x.processors + x.tasks + 5

-- what is left of a freeze when a level is closed
abbrev pub closed_rank : Freeze → ℕ → ℕ
closed_rank x level =
    if level == 1 then closing_rank x + closing_rank x + x.nodes + 13 else
    if level == 2 then closing_rank x + x.nodes + 11 else
    10

-- a freeze
abbrev pub freeze_rank : Words → Freeze → FreezeStep → ℕ
freeze_rank w x FLocks = closing_rank x + closing_rank x + closing_rank x + x.nodes + 18
freeze_rank w x FLoadsStage = closing_rank x + closing_rank x + closing_rank x + x.nodes + 17
freeze_rank w x FLoadsHolders = 2
freeze_rank w x (Holds beside) = 1
freeze_rank w x FLoadsSuperblock = closing_rank x + closing_rank x + closing_rank x + x.nodes + 16
freeze_rank w x CompletesReadOnly = 2
freeze_rank w x SetsWrite = closing_rank x + closing_rank x + closing_rank x + x.nodes + 15
freeze_rank w x Unlocks = closing_rank x + closing_rank x + closing_rank x + x.nodes + 14
freeze_rank w x (Closes d) = down_rank w d d.step + closed_rank x d.level + 1
freeze_rank w x (FWaits d) = down_rank w d d.step + closed_rank x d.level + 1
freeze_rank w x (Undoes level transition code) = exchange_rank (w.sync level) transition + 3 * level
freeze_rank w x (LocksToUndo code) = 2
freeze_rank w x (GivesUp level code) = 3 * (level - 1) + 1
freeze_rank w x LocksAgain = closing_rank x + closing_rank x + x.nodes + 13
freeze_rank w x SetsPageFault = closing_rank x + closing_rank x + x.nodes + 12
freeze_rank w x (Cleans marks) = closing_rank x + (marks.nodes - marks.node) + 11
freeze_rank w x SetsFs = closing_rank x + 11
freeze_rank w x SetsComplete = 10
freeze_rank w x (FReopens u code) = reopens_rank w u
freeze_rank w x (FReleases answer) = 0

-- a thaw
abbrev pub thaw_rank : Words → ThawStep → ℕ
thaw_rank w TLocks = 15
thaw_rank w TLoadsStage = 14
thaw_rank w TLoadsHolders = 13
thaw_rank w (TLeaves held) = 1
thaw_rank w TLoadsSuperblock = 12
thaw_rank w LeavesReadOnly = 2
thaw_rank w UnfreezesReadOnly = 1
thaw_rank w LeavesLast = 11
thaw_rank w SetsUnfrozen = 10
thaw_rank w (TReopens u) = reopens_rank w u
thaw_rank w (TReleases answer) = 0

-- a phase of any layer
abbrev pub rank : Words → Phase → ℕ
rank w (Mounts phase) = mount_rank phase
rank w (Remounts x) = remount_rank x.processors x.mounts x.nodes x.step
rank w (DownReads r) = read_rank r.wait r.step
rank w (UpReads u) = 0
rank w (Callbacks b) = callback_rank b.tasks (w.sync b.level) b.step
rank w (Writes x) = write_rank x
rank w (Freezes x) = freeze_rank w x x.step
rank w (Thaws x) = thaw_rank w x.step
rank w (Trees phase) = tree_rank phase
rank w (FileCloses phase) = close_rank phase

-- More than the rank of a remount or a snapshot, which own `umount` where they may take so long,
abbrev pub most_in_loop : Config → ℕ
most_in_loop c = c.mounts * (c.processors + 2) + 2 * c.nodes + 17

-- and of a phase of any other operation: a freeze may have begun a sum that doesn't come to 0, or three levels to close
abbrev pub most_beside : Config → ℕ
most_beside c = 3 * c.processors + 2 * c.tasks + c.nodes + 24 + max c.processors (c.tasks + 10)

-- and so of any phase
abbrev pub most_alone : Config → ℕ
most_alone c = max (most_in_loop c) (most_beside c)

-- where all others who are inside a section have to leave it first, which takes 5 steps each, it is no remount and no snapshot
abbrev pub most_settled : Config → ℕ
most_settled c = max (most_in_loop c) (most_beside c + 5 * (c.tasks - 1))

-- with those of a freeze that takes `umount` and releases it, after which another one is busy
abbrev pub most_events_to_reply : Config → ℕ
most_events_to_reply c = most_settled c + 5

-- so many for each task, until all have their reply or are blocked
abbrev pub most_events_to_settle : Config → ℕ
most_events_to_settle c = c.tasks * most_events_to_reply c
