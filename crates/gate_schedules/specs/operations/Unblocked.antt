-- When the way of a phase is free: where nobody else does anything, none of its steps waits for good.
use Rattle.std.specs.Prelude.{Bool, Some, false, true, ℕ, ◌%◌, ◌<◌, ◌≡◌, ◌≤◌}
use Rattle.access_model.specs.declared.replies.Next.{Next, TheVariants.{Done, Go, Wait}}
use Rattle.composite_ops.specs.declared.file_closes.phases.ClosePhase.{ClosePhase, TheVariants.{Enters as EntersLevel, LoadsFile}}
use Rattle.composite_ops.specs.declared.write_access.phases.WritePhase.{TheVariants.{Takes, Wants as WriteWants}, WritePhase}
use Rattle.{cpu_words.specs.{Hooks.HookAnswer, Words.Words}, finite_sums.specs.Sums.total}
use Rattle.freeze_levels.specs.declared.freezes.FreezeStep.{FreezeStep, TheVariants.{Closes, Locks as FreezeLocks, LocksAgain, LocksToUndo, Undoes}}
use Rattle.freeze_levels.specs.declared.{freezes.FreezeStep.TheVariants.Waits as FreezeWaits, thaws.ThawStep.ThawStep}
use Rattle.freeze_levels.specs.declared.thaws.ThawStep.TheVariants.{Locks as ThawLocks}
use Rattle.gate_world.specs.{Configs.IsWithin, Rules.IsGood, Work.after_of, Worlds.{World, found_at, words_after}, declared.config.Config.Config}
use Rattle.gate_world.specs.declared.work.Phase.{Phase, TheVariants.{Callbacks, Closes as FileCloses, DownReads, Freezes, Mounts, Remounts, Thaws}}
use Rattle.gate_world.specs.declared.work.Phase.TheVariants.{Trees, Writes}
use Rattle.gated_tree.specs.declared.{phases.TreePhase.{TheVariants.Snapshot as Snapshots, TreePhase}, snapshots.SnapshotStep.SnapshotStep}
use Rattle.gated_tree.specs.declared.snapshots.SnapshotStep.TheVariants.{Locks as SnapshotLocks}
use Rattle.mount_counts.specs.{Phases.has_flag, declared.phases.{ChangeStep.{ChangeStep, TheVariants.Locks as ChangeLocks}, MountPhase.MountPhase}}
use Rattle.mount_counts.specs.declared.{phases.MountPhase.TheVariants.{Change as Changes, Want as Wants}, remounts.RemountStep.RemountStep}
use Rattle.mount_counts.specs.declared.remounts.RemountStep.TheVariants.{Locks as RemountLocks}
use Rattle.percpu_rwsem.specs.declared.readers.DownRead.{DownRead}
use Rattle.gate_schedules.specs.operations.{Progress.{is_admitted, is_last_close, next_level}, Ranks.rank}

-- HOLD, which is 2, is clear at a mount
abbrev pub HoldIsClear : Words → ℕ → Type 0
HoldIsClear w m = has_flag (w.flags m) 2 ≡ false

-- nobody is inside a read-side section
abbrev pub NobodyInside : Config → Words → Type 0
NobodyInside c w = (y : ℕ) → y < c.tasks → w.section y % 2 ≡ 0

-- nothing is counted at this level
abbrev pub NothingCounted : Config → Words → ℕ → Type 0
NothingCounted c w i = total c.processors (w.level i) % 18446744073709551616 ≡ 0

-- a change that waits finds `umount` free at its lock
abbrev pub ChangeIsUnblocked : Words → ChangeStep → Bool → Type 0
ChangeIsUnblocked w ChangeLocks wait = wait ≡ true → w.umount ≡ 0
ChangeIsUnblocked w step wait = Unit {0}

-- a want finds HOLD clear; another waits for nothing
abbrev pub MountIsUnblocked : Words → MountPhase → Type 0
MountIsUnblocked w (Wants x) = HoldIsClear w x.mount
MountIsUnblocked w (Changes x) = ChangeIsUnblocked w x.step x.wait
MountIsUnblocked w phase = Unit {0}

-- so does a remount
abbrev pub RemountIsUnblocked : Words → RemountStep → Type 0
RemountIsUnblocked w RemountLocks = w.umount ≡ 0
RemountIsUnblocked w step = Unit {0}

-- a thaw
abbrev pub ThawIsUnblocked : Words → ThawStep → Type 0
ThawIsUnblocked w ThawLocks = w.umount ≡ 0
ThawIsUnblocked w step = Unit {0}

-- a snapshot
abbrev pub SnapshotIsUnblocked : Words → SnapshotStep → Bool → Type 0
SnapshotIsUnblocked w SnapshotLocks wait = wait ≡ true → w.umount ≡ 0
SnapshotIsUnblocked w step wait = Unit {0}

-- no other call at the tree waits
abbrev pub TreeIsUnblocked : Words → TreePhase → Type 0
TreeIsUnblocked w (Snapshots x) = SnapshotIsUnblocked w x.step x.wait
TreeIsUnblocked w phase = Unit {0}

-- a start that waits finds its level open, or has found it so
abbrev pub ReadIsUnblocked : Words → DownRead → Type 0
ReadIsUnblocked w r = r.wait ≡ true → is_admitted r.step ≡ false → w.block r.level ≡ 0

-- a write access finds both so
abbrev pub WriteIsUnblocked : Words → WritePhase → Type 0
WriteIsUnblocked w (Takes m r) = ReadIsUnblocked w r × HoldIsClear w m
WriteIsUnblocked w (WriteWants x) = HoldIsClear w x.mount
WriteIsUnblocked w x = Unit {0}

-- so does a close, where it is to be a last one
abbrev pub CloseIsUnblocked : Words → ClosePhase → Type 0
CloseIsUnblocked w (LoadsFile x) = x.wait ≡ true → is_last_close (w.node x.file) ≡ true → w.block 3 ≡ 0
CloseIsUnblocked w (EntersLevel f node r) = ReadIsUnblocked w r
CloseIsUnblocked w x = Unit {0}

-- a freeze finds `umount` free at its locks, also where it gives level 1 up
abbrev pub FreezeLocksFree : Words → FreezeStep → Type 0
FreezeLocksFree w FreezeLocks = w.umount ≡ 0
FreezeLocksFree w (Closes d) = d.level ≡ 1 → w.umount ≡ 0
FreezeLocksFree w (FreezeWaits d) = d.level ≡ 1 → w.umount ≡ 0
FreezeLocksFree w (Undoes level transition code) = level ≡ 1 → w.umount ≡ 0
FreezeLocksFree w (LocksToUndo code) = w.umount ≡ 0
FreezeLocksFree w LocksAgain = w.umount ≡ 0
FreezeLocksFree w step = Unit {0}

-- and nothing counted at the levels that it has to pass yet
abbrev pub LevelsAreFree : Config → Words → FreezeStep → Type 0
LevelsAreFree c w step = (i : ℕ) → next_level w step ≤ i → i ≤ 3 → NothingCounted c w i

-- and nobody inside a section
abbrev pub FreezeIsUnblocked : Config → Words → FreezeStep → Type 0
FreezeIsUnblocked c w step = NobodyInside c w × FreezeLocksFree w step × LevelsAreFree c w step

-- the way of a phase of any layer
abbrev pub IsUnblocked : Config → Words → Phase → Type 0
IsUnblocked c w (Mounts phase) = MountIsUnblocked w phase
IsUnblocked c w (Remounts x) = RemountIsUnblocked w x.step
IsUnblocked c w (DownReads r) = ReadIsUnblocked w r
IsUnblocked c w (Callbacks b) = NobodyInside c w
IsUnblocked c w (Writes x) = WriteIsUnblocked w x
IsUnblocked c w (Freezes x) = FreezeIsUnblocked c w x.step
IsUnblocked c w (Thaws x) = ThawIsUnblocked w x.step
IsUnblocked c w (Trees phase) = TreeIsUnblocked w phase
IsUnblocked c w (FileCloses phase) = CloseIsUnblocked w phase
IsUnblocked c w phase = Unit {0}

-- what comes after a step has a lower rank and a free way, or it is the reply
abbrev pub RankDecreases : {P : Type 0} → (P → ℕ) → (P → Type 0) → ℕ → Next P → Type 0
RankDecreases rank_of free n (Go q) = (rank_of q < n) × free q
RankDecreases rank_of free n (Wait q) = (rank_of q < n) × free q
RankDecreases rank_of free n (Done answer) = Unit {0}

-- What is to be proved of each phase: where its way is free, its step lowers its rank and leaves its way free.
pub record PhaseEnds (c : Config) (phase : Phase) : Type 0 where
  pub falls : IsWithin c → (w : World) → IsGood c w → (t : ℕ) → t < c.tasks → (hook : HookAnswer) → (w.views t).phase ≡ Some phase →
      IsUnblocked c w.words phase →
      RankDecreases (rank (words_after w.words phase hook)) (IsUnblocked c (words_after w.words phase hook)) (rank w.words phase)
      (after_of phase (found_at w.words phase hook) hook).0
