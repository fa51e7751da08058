-- What is kept along an execution about the causes of refusals.
use Rattle.std.specs.Prelude.{◌≡◌, ◌⊎◌, ℕ, ◌<◌, true, false, Option, Some, Result, Ok, Err, List, ◌∷◌}
use Rattle.access_model.specs.declared.{actions.Holder.Holder, errors.GateError.{GateError, TheVariants.{Again, Busy, Invalid}}, replies.Reply.Reply}
use Rattle.cpu_words.specs.Sums.{lead}
use Rattle.gated_tree.specs.declared.phases.TreePhase.{TreePhase, TheVariants.Snapshot as Snapshots}
use Rattle.gated_tree.specs.declared.snapshots.SnapshotStep.{SnapshotStep, TheVariants.Releases as SnapshotReleases}
use Rattle.mount_counts.specs.declared.phases.ChangeStep.{ChangeStep, TheVariants.{Sums, ClearsHold, Releases}}
use Rattle.mount_counts.specs.declared.phases.{MountPhase.TheVariants.{Want as Wants, Change as Changes}, WantStep.{WantStep, TheVariants.CountsDown}}
use Rattle.mount_counts.specs.declared.remounts.RemountStep.{RemountStep, TheVariants.{LeavesHolds, Sums as RemountSums, GivesUp, Releases as RemountReleases}}
use Rattle.percpu_rwsem.specs.declared.readers.DownReadStep.{DownReadStep, TheVariants.{CountsDown as TakesBack, LeavesBlocked}}
use Rattle.percpu_rwsem.specs.declared.writers.DownWriteStep.{DownWriteStep, TheVariants.Sums as SumsLevel}
use Rattle.freeze_levels.specs.declared.freezes.FreezeStep.{FreezeStep, TheVariants.{Closes, Releases as FreezeReleases, Waits as FreezeWaits}}
use Rattle.freeze_levels.specs.declared.thaws.ThawStep.{ThawStep, TheVariants.Releases as ThawReleases}
use Rattle.composite_ops.specs.declared.write_access.phases.WritePhase.{WritePhase, TheVariants.{Takes, Wants as WriteWants, GivesBack}}
use Rattle.composite_ops.specs.declared.file_closes.phases.ClosePhase.{ClosePhase, TheVariants.Enters}
use Rattle.gate_world.specs.refusals.Causes.{since_begun, AreOfMount, WantRefused, ChangeRefused, SnapshotRefused, last_question, last_look, was_frozen, was_busy}
use Rattle.gate_world.specs.refusals.Causes.{was_unheld, moments_of_sum, was_inside, was_counted, SomeWasCounted, last_asked, WasClosed, was_removed, last_removed}
use Rattle.gate_world.specs.{Worlds.{World}, declared.config.Config.{Config}}
use Rattle.gate_world.specs.declared.work.Phase.{Phase, TheVariants.{Mounts, Remounts, DownReads, Writes, Freezes, Thaws, Trees, Closes}}

module _ (c : Config) (t : ℕ) (w : World) (earlier : List World) where
  -- a want that is to be refused: as it is then
  abbrev pub WantCause : ℕ → WantStep → Type 0
  WantCause m (CountsDown refusal) = WantRefused c t m (last_question t (w ∷ earlier)) refusal
  WantCause m step = Unit {0}

  -- an answer: where it is Busy, something was counted while the sum was read, and Again is none
  abbrev pub AnswerCause : ℕ → Result Reply GateError → Type 0
  AnswerCause m (Ok reply) = Unit {0}
  AnswerCause m (Err Again) = ⊥
  AnswerCause m (Err refusal) = ChangeRefused c t (w ∷ earlier) m refusal

  -- a sum under way: where nothing was counted so far, its lead is 0
  abbrev pub ChangeCause : ℕ → ChangeStep → Type 0
  ChangeCause m (Sums sum) =
      (sum.words ≡ 0 → sum.total ≡ 0) ×
      (was_counted c m (moments_of_sum t (w ∷ earlier)) ≡ false → lead c.processors (w.words.count m) sum.words sum.total ≡ 0)
  ChangeCause m (ClearsHold answer) = AnswerCause m answer
  ChangeCause m (Releases answer) = AnswerCause m answer
  ChangeCause m step = Unit {0}

  -- an answer of Busy of a remount: the stage was not 0 when it looked, or something was counted while a sum was read
  abbrev pub RemountAnswerCause : Result Reply GateError → Type 0
  RemountAnswerCause answer =
      answer ≡ Err Busy →
      (was_frozen c (last_look t (w ∷ earlier)) ≡ true) ⊎
      ((was_removed (last_removed t (w ∷ earlier)) ≡ true) ⊎ SomeWasCounted c t (w ∷ earlier))

  -- a remount: its sum is as a change's, and where it gives up, something was counted
  abbrev pub RemountCause : RemountStep → Type 0
  RemountCause (RemountSums m held sum) = ChangeCause m (Sums sum) × AreOfMount t m (moments_of_sum t (w ∷ earlier))
  RemountCause (GivesUp m held) = SomeWasCounted c t (w ∷ earlier)
  RemountCause (LeavesHolds held) = was_removed (last_removed t (w ∷ earlier)) ≡ true
  RemountCause (RemountReleases answer) = RemountAnswerCause answer
  RemountCause step = Unit {0}

  -- a down-read that takes its count back, or leaves its section after that: the level was closed when it last asked
  abbrev pub ReadCause : ℕ → DownReadStep → Type 0
  ReadCause i TakesBack = WasClosed c t i (last_asked t (w ∷ earlier))
  ReadCause i LeavesBlocked = WasClosed c t i (last_asked t (w ∷ earlier))
  ReadCause i step = Unit {0}

  -- a write access: as its gate's own operation; where it gives the level back, the mount was read-only when it last asked
  abbrev pub WriteCause : WritePhase → Type 0
  WriteCause (Takes m r) = ReadCause r.level r.step
  WriteCause (WriteWants x) = WantCause x.mount x.step
  WriteCause (GivesBack m p refusal) = WantCause m (CountsDown refusal)
  WriteCause x = Unit {0}

  -- a close: as a reader of level 3
  abbrev pub CloseCause : ClosePhase → Type 0
  CloseCause (Enters f node r) = ReadCause r.level r.step
  CloseCause x = Unit {0}

  -- a down-write: where nothing was counted at its level since its sum began, the lead is 0
  abbrev pub DownWriteCause : ℕ → DownWriteStep → Type 0
  DownWriteCause i (SumsLevel sum) =
      (sum.words ≡ 0 → sum.total ≡ 0) ×
      (was_inside c i (moments_of_sum t (w ∷ earlier)) ≡ false → lead c.processors (w.words.level i) sum.words sum.total ≡ 0)
  DownWriteCause i step = Unit {0}

  -- a freeze: its sum is as its down-write's, and where it is busy, a freeze was under way or held for its holder when it looked
  abbrev pub FreezeCause : Holder → FreezeStep → Type 0
  FreezeCause holder (Closes d) = DownWriteCause d.level d.step
  FreezeCause holder (FreezeWaits d) = DownWriteCause d.level d.step
  FreezeCause holder (FreezeReleases answer) = answer ≡ Err Busy → was_busy c holder (last_look t (w ∷ earlier)) ≡ true
  FreezeCause holder step = Unit {0}

  -- a thaw that is invalid: the stage was not 4, or no freeze held for its holder, when it looked
  abbrev pub ThawCause : Holder → ThawStep → Type 0
  ThawCause holder (ThawReleases answer) = answer ≡ Err Invalid → was_unheld c holder (last_look t (w ∷ earlier)) ≡ true
  ThawCause holder step = Unit {0}

  -- a snapshot that is invalid; past its lock it isn't refused again
  abbrev pub SnapshotCause : SnapshotStep → Type 0
  SnapshotCause (SnapshotReleases (Err Again)) = ⊥
  SnapshotCause (SnapshotReleases (Err refusal)) = SnapshotRefused c t (w ∷ earlier) refusal
  SnapshotCause step = Unit {0}

  -- another call at the tree has its cause at the step itself
  abbrev pub TreeCause : TreePhase → Type 0
  TreeCause (Snapshots x) = SnapshotCause x.step
  TreeCause phase = Unit {0}

  -- what is kept of the causes of what a task is at
  abbrev pub CauseOf : Option Phase → Type 0
  CauseOf (Some (Mounts (Wants x))) = WantCause x.mount x.step
  CauseOf (Some (Mounts (Changes x))) = ChangeCause x.mount x.step
  CauseOf (Some (Remounts x)) = RemountCause x.step
  CauseOf (Some (DownReads r)) = ReadCause r.level r.step
  CauseOf (Some (Writes x)) = WriteCause x
  CauseOf (Some (Freezes x)) = FreezeCause x.holder x.step
  CauseOf (Some (Thaws x)) = ThawCause x.holder x.step
  CauseOf (Some (Trees phase)) = TreeCause phase
  CauseOf (Some (Closes x)) = CloseCause x
  CauseOf phase = Unit {0}

-- and of every task, since it began its operation
abbrev pub Causes : Config → World → List World → Type 0
Causes c w earlier = (t : ℕ) → t < c.tasks → CauseOf c t w (since_begun t earlier) (w.views t).phase
