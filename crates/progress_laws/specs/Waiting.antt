-- When the next step of a phase has to wait: what it waits for isn't there, so that it looks again.
use Rattle.std.specs.Prelude.{Bool, None, Option, Some, false, not, ℕ, ◌%◌, ◌&&◌, ◌==◌}
use Rattle.composite_ops.specs.declared.{file_closes.phases.ClosePhase.ClosePhase, write_access.phases.WritePhase.WritePhase}
use Rattle.{cpu_words.specs.{Sums.lead, Words.Words, declared.sums.Sum.Sum}, finite_sums.specs.Sums.total}
use Rattle.{freeze_levels.specs.declared.{freezes.FreezeStep.FreezeStep, thaws.ThawStep.ThawStep}, gate_world.specs.declared.work.Phase.Phase}
use Rattle.gated_tree.specs.declared.{phases.TreePhase.TreePhase, snapshots.SnapshotStep.SnapshotStep}
use Rattle.mount_counts.specs.{Phases.has_flag, declared.phases.{ChangeStep.ChangeStep, MountPhase.MountPhase, Want.Want, WantStep.WantStep}}
use Rattle.mount_counts.specs.declared.remounts.RemountStep.{RemountStep}
use Rattle.percpu_rwsem.specs.declared.{callbacks.CallbackStep.CallbackStep, grace.Grace.Grace, readers.DownRead.DownRead}
use Rattle.percpu_rwsem.specs.declared.{readers.DownReadStep.DownReadStep, writers.{DownWrite.DownWrite, DownWriteStep.DownWriteStep}}

-- `umount` is taken
abbrev pub lock_taken : Words → Bool
lock_taken w = not (w.umount == 0)

-- a want that waits finds HOLD, which is 2, set
abbrev pub want_waits : Words → Want → WantStep → Bool
want_waits w x WantStep.LoadsHold = x.wait && has_flag (w.flags x.mount) 2
want_waits w x step = false

-- a change that waits finds `umount` taken
abbrev pub change_waits : Words → Bool → ChangeStep → Bool
change_waits w wait ChangeStep.Locks = wait && lock_taken w
change_waits w wait step = false

abbrev pub mount_waits : Words → MountPhase → Bool
mount_waits w (MountPhase.Want x) = want_waits w x x.step
mount_waits w (MountPhase.Change x) = change_waits w x.wait x.step
mount_waits w phase = false

abbrev pub remount_waits : Words → RemountStep → Bool
remount_waits w RemountStep.Locks = lock_taken w
remount_waits w step = false

-- a start that waits stands outside a closed level: in the kernel it sleeps there
abbrev pub start_waits : Words → DownRead → DownReadStep → Bool
start_waits w r DownReadStep.EntersSection = r.wait && not (w.block r.level == 0)
start_waits w r step = false

-- this value was found before
abbrev pub was_found : Option ℕ → ℕ → Bool
was_found None found = false
was_found (Some first) found = found == first

-- a grace period looks at a task that is inside the section in which it was found first
abbrev pub grace_waits : Words → Grace → Bool
grace_waits w g = (w.section g.task % 2 == 1) && was_found g.first (w.section g.task)

abbrev pub callback_waits : Words → CallbackStep → Bool
callback_waits w (CallbackStep.AwaitsSections g) = grace_waits w g
callback_waits w step = false

-- A sum that doesn't come to 0: neither this one, nor one that begins now.
abbrev pub sum_waits : ℕ → (ℕ → ℕ) → Sum → Bool
sum_waits processors count sum =
    not (lead processors count sum.words sum.total == 0) && not (total processors count % 18446744073709551616 == 0)

-- the closing of a level waits for sections, or for those who are counted there
abbrev pub closing_waits : Words → DownWrite → DownWriteStep → Bool
closing_waits w d (DownWriteStep.AwaitsSections g) = grace_waits w g
closing_waits w d (DownWriteStep.Sums sum) = sum_waits d.processors (w.level d.level) sum
closing_waits w d step = false

abbrev pub freeze_waits : Words → FreezeStep → Bool
freeze_waits w FreezeStep.Locks = lock_taken w
freeze_waits w (FreezeStep.Closes d) = closing_waits w d d.step
freeze_waits w (FreezeStep.Waits d) = closing_waits w d d.step
freeze_waits w (FreezeStep.LocksToUndo code) = lock_taken w
freeze_waits w FreezeStep.LocksAgain = lock_taken w
freeze_waits w step = false

abbrev pub thaw_waits : Words → ThawStep → Bool
thaw_waits w ThawStep.Locks = lock_taken w
thaw_waits w step = false

abbrev pub snapshot_waits : Words → Bool → SnapshotStep → Bool
snapshot_waits w wait SnapshotStep.Locks = wait && lock_taken w
snapshot_waits w wait step = false

abbrev pub tree_waits : Words → TreePhase → Bool
tree_waits w (TreePhase.Snapshot x) = snapshot_waits w x.wait x.step
tree_waits w phase = false

abbrev pub write_waits : Words → WritePhase → Bool
write_waits w (WritePhase.Takes m r) = start_waits w r r.step
write_waits w (WritePhase.Wants x) = want_waits w x x.step
write_waits w phase = false

abbrev pub close_waits : Words → ClosePhase → Bool
close_waits w (ClosePhase.Enters f node r) = start_waits w r r.step
close_waits w phase = false

-- the next step of a phase of any layer has to wait
abbrev pub must_wait : Words → Phase → Bool
must_wait w (Phase.Mounts phase) = mount_waits w phase
must_wait w (Phase.Remounts x) = remount_waits w x.step
must_wait w (Phase.DownReads r) = start_waits w r r.step
must_wait w (Phase.UpReads u) = false
must_wait w (Phase.Callbacks b) = callback_waits w b.step
must_wait w (Phase.Writes x) = write_waits w x
must_wait w (Phase.Freezes x) = freeze_waits w x.step
must_wait w (Phase.Thaws x) = thaw_waits w x.step
must_wait w (Phase.Trees phase) = tree_waits w phase
must_wait w (Phase.Closes phase) = close_waits w phase

-- it is a start that stands outside a closed level
abbrev pub is_outside : Words → Phase → Bool
is_outside w (Phase.DownReads r) = start_waits w r r.step
is_outside w (Phase.Writes (WritePhase.Takes m r)) = start_waits w r r.step
is_outside w (Phase.Closes (ClosePhase.Enters f node r)) = start_waits w r r.step
is_outside w phase = false
