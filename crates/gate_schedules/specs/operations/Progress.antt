-- Progress: from each state in which an operation is under way a reply is near, or each task under way stands before a level that is held
-- closed, or that it can't pass, by what no task under way can change.
use Rattle.std.specs.Prelude.{Bool, List, None, Ok, Option, Some, false, if◌then◌else◌, suc, true, zero, ℕ, ◌&&◌, ◌<◌, ◌==◌, ◌≡◌, ◌≤◌, ◌⊎◌}
use Rattle.composite_ops.specs.declared.file_closes.phases.ClosePhase.{ClosePhase, TheVariants.{Enters as EntersLevel, LoadsFile}}
use Rattle.composite_ops.specs.declared.write_access.phases.WritePhase.{TheVariants.Takes, WritePhase}
use Rattle.cpu_words.specs.{Hooks.HookAnswer, Words.Words}
use Rattle.freeze_levels.specs.declared.freezes.{Freeze.Freeze, FreezeStep.{FreezeStep, TheVariants.{Cleans, Closes, CompletesReadOnly, GivesUp}}}
use Rattle.freeze_levels.specs.declared.freezes.FreezeStep.TheVariants.{Holds, LoadsHolders, LoadsStage, LoadsSuperblock, Locks as FreezeLocks}
use Rattle.freeze_levels.specs.declared.freezes.FreezeStep.TheVariants.{LocksAgain, LocksToUndo, Releases, Reopens, SetsComplete, SetsFs}
use Rattle.freeze_levels.specs.declared.{freezes.FreezeStep.TheVariants.{SetsPageFault, SetsWrite, Undoes, Unlocks, Waits}, thaws.ThawStep.ThawStep}
use Rattle.freeze_levels.specs.declared.thaws.ThawStep.TheVariants.{Locks as ThawLocks}
use Rattle.gate_world.specs.{Headline.world_after, Levels.is_frozen_whole, Rules.{IsGood, Moves, owns}, Shown.shown, Views.holds_level, Work.hook_of}
use Rattle.gate_world.specs.{Worlds.{World, after_step, happens, phase_action}, declared.{config.Config.Config, entries.Entry.Entry}}
use Rattle.gate_world.specs.declared.{entries.Entry.TheVariants.Steps, work.Phase.Phase}
use Rattle.gate_world.specs.declared.work.Phase.TheVariants.{Closes as FileCloses, DownReads, Freezes, Mounts, Remounts, Thaws, Trees, Writes}
use Rattle.gated_tree.specs.declared.{phases.TreePhase.{TheVariants.Snapshot as Snapshots, TreePhase}, snapshots.SnapshotStep.SnapshotStep}
use Rattle.gated_tree.specs.declared.snapshots.SnapshotStep.TheVariants.{Locks as SnapshotLocks}
use Rattle.mount_counts.specs.declared.phases.{ChangeStep.{ChangeStep, TheVariants.Locks as ChangeLocks}, MountPhase.MountPhase}
use Rattle.mount_counts.specs.declared.{phases.MountPhase.TheVariants.Change as Changes, remounts.RemountStep.RemountStep}
use Rattle.mount_counts.specs.declared.remounts.RemountStep.TheVariants.{Locks as RemountLocks}
use Rattle.node_words.specs.Nodes.{opens_in, removed_in}
use Rattle.percpu_rwsem.specs.declared.readers.{DownRead.DownRead, DownReadStep.{DownReadStep, TheVariants.{CountsUpFast, LeavesAdmitted}}}

-- a task has an operation under way
abbrev pub IsUnderWay : World → ℕ → Type 0
IsUnderWay w t = (phase : Phase) × ((w.views t).phase ≡ Some phase)

-- the operation of a task has its reply
abbrev pub HasReply : World → ℕ → Type 0
HasReply w t = (w.views t).phase ≡ None

-- A reply is at most so many steps away. Which of the tasks under way does the next step is chosen; what a hook answers to it is not.
abbrev pub ReplyWithin : Config → ℕ → World → Type 0
ReplyWithin c zero w = ⊥
ReplyWithin c (suc n) w =
    (t : ℕ) × (t < c.tasks) × IsUnderWay w t ×
    ((hook : HookAnswer) → HasReply (happens c w (Steps t hook)) t ⊎ ReplyWithin c n (happens c w (Steps t hook)))

-- an idle task holds this level
abbrev pub IsHeldIdle : Config → World → ℕ → Type 0
IsHeldIdle c w i = (z : ℕ) × (z < c.tasks) × ((w.views z).phase ≡ None) × (holds_level (w.views z) i ≡ true)

-- the lowest level that a freeze has to pass yet: 4 where there is none, as where it will find the stage other than 0, or the superblock
-- read-only, or where it has given up
abbrev pub next_level : Words → FreezeStep → ℕ
next_level w FreezeLocks = if w.stage == 0 && w.sb == 0 then 1 else 4
next_level w LoadsStage = if w.stage == 0 && w.sb == 0 then 1 else 4
next_level w LoadsHolders = 4
next_level w (Holds beside) = 4
next_level w LoadsSuperblock = if w.sb == 0 then 1 else 4
next_level w CompletesReadOnly = 4
next_level w SetsWrite = 1
next_level w Unlocks = 1
next_level w (Closes d) = d.level
next_level w (Waits d) = d.level
next_level w (Undoes level transition code) = 4
next_level w (LocksToUndo code) = 4
next_level w (GivesUp level code) = 4
next_level w LocksAgain = 2
next_level w SetsPageFault = 2
next_level w (Cleans marks) = 3
next_level w SetsFs = 3
next_level w SetsComplete = 4
next_level w (Reopens u code) = 4
next_level w (Releases answer) = 4

-- an idle task holds a level that this freeze has to pass yet
abbrev pub HeldLevelAhead : Config → World → FreezeStep → Type 0
HeldLevelAhead c w step = (i : ℕ) × (next_level w.words step ≤ i) × (i ≤ 3) × IsHeldIdle c w i

-- what a task is at is a freeze that is so blocked, and has level 1 behind it, from where on it owns `umount` to its end
abbrev pub BlockedIfFreeze : Config → World → Option Phase → Type 0
BlockedIfFreeze c w (Some (Freezes x)) = (2 ≤ next_level w.words x.step) × HeldLevelAhead c w x.step
BlockedIfFreeze c w phase = ⊥

-- such a freeze owns `umount`
abbrev pub LockIsBlocked : Config → World → Type 0
LockIsBlocked c w = (y : ℕ) × (y < c.tasks) × (owns (w.views y).phase ≡ 1) × BlockedIfFreeze c w (w.views y).phase

-- a start has found its level's readers fast, or is granted, so that it waits no more
abbrev pub is_admitted : DownReadStep → Bool
is_admitted CountsUpFast = true
is_admitted LeavesAdmitted = true
is_admitted step = false

-- a start that waits stands before a closed level
abbrev pub StartIsBlocked : World → DownRead → Type 0
StartIsBlocked w r = (r.wait ≡ true) × (is_admitted r.step ≡ false) × (w.words.block r.level ≡ 1)

-- a change that waits stands before its lock
abbrev pub ChangeIsBlocked : Config → World → ChangeStep → Bool → Type 0
ChangeIsBlocked c w ChangeLocks wait = (wait ≡ true) × LockIsBlocked c w
ChangeIsBlocked c w step wait = ⊥

abbrev pub MountIsBlocked : Config → World → MountPhase → Type 0
MountIsBlocked c w (Changes x) = ChangeIsBlocked c w x.step x.wait
MountIsBlocked c w phase = ⊥

abbrev pub RemountIsBlocked : Config → World → RemountStep → Type 0
RemountIsBlocked c w RemountLocks = LockIsBlocked c w
RemountIsBlocked c w step = ⊥

abbrev pub ThawIsBlocked : Config → World → ThawStep → Type 0
ThawIsBlocked c w ThawLocks = LockIsBlocked c w
ThawIsBlocked c w step = ⊥

abbrev pub SnapshotIsBlocked : Config → World → SnapshotStep → Bool → Type 0
SnapshotIsBlocked c w SnapshotLocks wait = (wait ≡ true) × LockIsBlocked c w
SnapshotIsBlocked c w step wait = ⊥

abbrev pub TreeIsBlocked : Config → World → TreePhase → Type 0
TreeIsBlocked c w (Snapshots x) = SnapshotIsBlocked c w x.step x.wait
TreeIsBlocked c w phase = ⊥

abbrev pub WriteIsBlocked : World → WritePhase → Type 0
WriteIsBlocked w (Takes m r) = StartIsBlocked w r
WriteIsBlocked w x = ⊥

-- a close of a file with this word is the last one of a removed file
abbrev pub is_last_close : ℕ → Bool
is_last_close word = removed_in word == 1 && opens_in word == 1

-- a last close goes inside level 3 as a start does; one that waits, and is to find that it is the last, stands before it
abbrev pub CloseIsBlocked : World → ClosePhase → Type 0
CloseIsBlocked w (LoadsFile x) = (x.wait ≡ true) × (is_last_close (w.words.node x.file) ≡ true) × (w.words.block 3 ≡ 1)
CloseIsBlocked w (EntersLevel f node r) = StartIsBlocked w r
CloseIsBlocked w x = ⊥

-- a freeze is at its first lock
abbrev pub is_first_lock : FreezeStep → Bool
is_first_lock FreezeLocks = true
is_first_lock step = false

-- what a task is at is one
abbrev pub begins_freeze : Option Phase → Bool
begins_freeze (Some (Freezes x)) = is_first_lock x.step
begins_freeze phase = false

-- there are no two
abbrev pub OneFreezeBegins : Config → World → Type 0
OneFreezeBegins c w = (y z : ℕ) → y < c.tasks → z < c.tasks → begins_freeze (w.views y).phase ≡ true →
    begins_freeze (w.views z).phase ≡ true → y ≡ z

-- A freeze at its first lock waits for one that is blocked and has it; or it is free, and the freeze, which would be blocked itself, is the only one
-- there: of two the second finds that the stage isn't 0, and is busy.
abbrev pub FreezeIsBlocked : Config → World → FreezeStep → Type 0
FreezeIsBlocked c w FreezeLocks = LockIsBlocked c w ⊎ ((w.words.umount ≡ 0) × OneFreezeBegins c w × HeldLevelAhead c w FreezeLocks)
FreezeIsBlocked c w step = HeldLevelAhead c w step

-- An operation is blocked: a start or a last close that waits, by its closed level; a freeze, by an idle task that holds a level which it has to pass yet;
-- and whoever waits for `umount`, by a freeze that owns it and is blocked so. No other operation is.
abbrev pub IsBlockedAt : Config → World → Phase → Type 0
IsBlockedAt c w (Mounts phase) = MountIsBlocked c w phase
IsBlockedAt c w (Remounts x) = RemountIsBlocked c w x.step
IsBlockedAt c w (DownReads r) = StartIsBlocked w r
IsBlockedAt c w (Writes x) = WriteIsBlocked w x
IsBlockedAt c w (Freezes x) = FreezeIsBlocked c w x.step
IsBlockedAt c w (Thaws x) = ThawIsBlocked c w x.step
IsBlockedAt c w (Trees phase) = TreeIsBlocked c w phase
IsBlockedAt c w (FileCloses phase) = CloseIsBlocked w phase
IsBlockedAt c w phase = ⊥

-- each operation under way is blocked
abbrev pub AllAreBlocked : Config → World → Type 0
AllAreBlocked c w = (t : ℕ) → t < c.tasks → (phase : Phase) → (w.views t).phase ≡ Some phase → IsBlockedAt c w phase

-- A reply is near, or each operation under way is blocked.
abbrev pub Progresses : Config → ℕ → World → Type 0
Progresses c n w = ReplyWithin c n w ⊎ AllAreBlocked c w

-- All that is under way comes to its end, as far as it can. Somebody can pick, step by step, one of the tasks under way, knowing what the hooks
-- have answered so far but not what they will, so that after at most so many steps each operation that is still under way is blocked. No other
-- operation begins in between, so each of the others has its reply.
abbrev pub SettlesWithin : Config → ℕ → World → Type 0
SettlesWithin c zero w = AllAreBlocked c w
SettlesWithin c (suc n) w =
    AllAreBlocked c w ⊎ ((t : ℕ) × (t < c.tasks) × IsUnderWay w t × ((hook : HookAnswer) → SettlesWithin c n (happens c w (Steps t hook))))

-- the hook that the next step of a phase asks, if it asks one, agrees
abbrev pub IsAgreed : Phase → HookAnswer → Type 0
IsAgreed phase hook = (hook_of phase ≡ None) ⊎ (hook ≡ Ok tt)

-- The converse: where each operation under way is blocked, no step of one of them is a reply, and all stay blocked. So they are until an idle
-- task gives its level back, another operation begins, or a hook fails.
abbrev pub BlockedIsStable : Config → World → Type 0
BlockedIsStable c w = AllAreBlocked c w → (t : ℕ) → t < c.tasks → (phase : Phase) → (w.views t).phase ≡ Some phase → (hook : HookAnswer) →
    IsAgreed phase hook → (HasReply (happens c w (Steps t hook)) t → ⊥) × AllAreBlocked c (happens c w (Steps t hook))

-- a freeze is under way, and an idle task holds a level that it has to pass yet
abbrev pub AFreezeIsKept : Config → World → Type 0
AFreezeIsKept c w = (y : ℕ) × (y < c.tasks) × (x : Freeze) × ((w.views y).phase ≡ Some (Freezes x)) × HeldLevelAhead c w x.step

-- The same in fewer words: with an operation under way, a reply is near, or the file system is frozen as a whole, or a freeze is blocked by an
-- idle task.
abbrev pub ReplyOrFrozen : Config → ℕ → World → Type 0
ReplyOrFrozen c n w = (t : ℕ) → t < c.tasks → IsUnderWay w t →
    ReplyWithin c n w ⊎ ((is_frozen_whole w.words ≡ 1) ⊎ AFreezeIsKept c w)

-- the premise of the theorem, which holds of each execution: a step of a task under way keeps the invariant
abbrev pub EventsKeepRule : Config → Type 0
EventsKeepRule c = (w : World) → IsGood c w → (t : ℕ) → t < c.tasks → (hook : HookAnswer) → (phase : Phase) →
    (w.views t).phase ≡ Some phase → IsGood c (after_step w t phase hook)

-- that of its converse: it moves the shown state by its action
abbrev pub EventsMoveModel : Config → Type 0
EventsMoveModel c = (w : World) → IsGood c w → (t : ℕ) → t < c.tasks → (hook : HookAnswer) → (phase : Phase) →
    (w.views t).phase ≡ Some phase → Moves c (shown c w) t (phase_action w hook (Some phase)) (shown c (after_step w t phase hook))

-- the four of an execution
abbrev pub ReplyOrAllBlocked : Config → ℕ → List Entry → Type 0
ReplyOrAllBlocked c n entries = Progresses c n (world_after c entries)

abbrev pub EverybodySettles : Config → ℕ → List Entry → Type 0
EverybodySettles c n entries = SettlesWithin c n (world_after c entries)

abbrev pub RepliesOrIsFrozen : Config → ℕ → List Entry → Type 0
RepliesOrIsFrozen c n entries = ReplyOrFrozen c n (world_after c entries)

abbrev pub BlockedStaysBlocked : Config → List Entry → Type 0
BlockedStaysBlocked c entries = BlockedIsStable c (world_after c entries)
