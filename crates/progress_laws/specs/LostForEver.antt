-- What a lost task has left behind stays, whatever all others do and begin.
use Rattle.std.specs.Prelude.{Bool, List, None, Some, [], false, suc, true, ℕ, ◌%◌, ◌<◌, ◌∷◌, ◌≡◌, ◌≤◌, ◌⊎◌}
use Rattle.composite_ops.specs.declared.{file_closes.phases.ClosePhase.ClosePhase, write_access.phases.WritePhase.WritePhase}
use Rattle.{cpu_words.specs.gate_counts.{Gates.counted as counted_of, Levels.level_as_gate}, finite_sums.specs.Sums.total}
use Rattle.{freeze_laws.specs.levels.Roles.closed, freeze_levels.specs.declared.{freezes.FreezeStep.FreezeStep, thaws.ThawStep.ThawStep}}
use Rattle.gate_schedules.specs.operations.Progress.{IsUnderWay, is_admitted}
use Rattle.gate_world.specs.{Levels.{at_level, inside, sync_role_of}, Rules.{at_mount, owns, role_of}, Views.holds_level}
use Rattle.gate_world.specs.{Worlds.{World, run, task_of}, declared.{config.Config.Config, entries.Entry.Entry, work.Phase.Phase}}
use Rattle.gated_tree.specs.declared.{phases.TreePhase.TreePhase, snapshots.SnapshotStep.SnapshotStep}
use Rattle.mount_counts.specs.{Phases.has_flag, Roles.{counted, has_hold}, declared.phases.{ChangeStep.ChangeStep, MountPhase.MountPhase, Want.Want}}
use Rattle.mount_counts.specs.declared.{phases.WantStep.WantStep, remounts.RemountStep.RemountStep}
use Rattle.percpu_rwsem.specs.declared.{callbacks.CallbackStep.CallbackStep, grace.Grace.Grace, readers.DownRead.DownRead}
use Rattle.percpu_rwsem.specs.declared.writers.{DownWrite.DownWrite, DownWriteStep.DownWriteStep}
use Rattle.progress_laws.specs.{Answers.{AllAnswerSo, IsPatientWith}, LostTasks.{HoldIsLost, SectionIsLost}}

-- none of these transitions, beginnings and steps, is of a lost task
abbrev pub AreOfOthers : (ℕ → Bool) → List Entry → Type 0
AreOfOthers lost [] = Unit {0}
AreOfOthers lost (e ∷ es) = (lost (task_of e) ≡ false) × AreOfOthers lost es

-- What words say for ever of a task that is lost in this state: `umount` names it, HOLD is set where it set it, a level is closed that it has
-- closed, its section is odd, and no sum of a mount or a level at which it is counted comes to 0 again.
pub record WordsTellFor (c : Config) (w later : World) (y : ℕ) : Type 0 where
  pub lock : owns (w.views y).phase ≡ 1 → later.words.umount ≡ suc y
  pub hold : (m : ℕ) → m < c.mounts → has_hold (role_of m (w.views y).phase) ≡ 1 → has_flag (later.words.flags m) 2 ≡ true
  pub level : (i : ℕ) → 1 ≤ i → i ≤ 3 → closed (sync_role_of i (w.views y).phase) ≡ 1 → later.words.block i ≡ 1
  pub section : inside (w.views y).phase ≡ 1 → later.words.section y % 2 ≡ 1
  pub mount_count : (m : ℕ) → m < c.mounts → 1 ≤ counted (at_mount m (w.views y)) →
      total c.processors (later.words.count m) % 18446744073709551616 ≡ 0 → ⊥
  pub level_count : (i : ℕ) → 1 ≤ i → i ≤ 3 → 1 ≤ counted_of (level_as_gate (at_level i (w.views y))) →
      total c.processors (later.words.level i) % 18446744073709551616 ≡ 0 → ⊥

-- so it is after any transitions of the others
abbrev pub RemainsForEver : Config → (ℕ → Bool) → World → Type 0
RemainsForEver c lost w =
    (es : List Entry) → AreOfOthers lost es → (y : ℕ) → y < c.tasks → lost y ≡ true → WordsTellFor c w (run c w es) y

-- a lost task owns `umount`, or has this level closed
abbrev pub LockIsLost : Config → (ℕ → Bool) → World → Type 0
LockIsLost c lost w = (y : ℕ) × (y < c.tasks) × (lost y ≡ true) × (owns (w.views y).phase ≡ 1)

abbrev pub LevelIsLost : Config → (ℕ → Bool) → World → ℕ → Type 0
LevelIsLost c lost w i = (y : ℕ) × (y < c.tasks) × (lost y ≡ true) × (closed (sync_role_of i (w.views y).phase) ≡ 1)

abbrev pub MeetsHold : Config → (ℕ → Bool) → World → Want → Type 0
MeetsHold c lost w x = (x.step ≡ WantStep.LoadsHold) × (x.wait ≡ true) × HoldIsLost c lost w x.mount

abbrev pub MeetsLevel : Config → (ℕ → Bool) → World → DownRead → Type 0
MeetsLevel c lost w r = (r.wait ≡ true) × (is_admitted r.step ≡ false) × LevelIsLost c lost w r.level

abbrev pub MeetsAtMount : Config → (ℕ → Bool) → World → MountPhase → Type 0
MeetsAtMount c lost w (MountPhase.Want x) = MeetsHold c lost w x
MeetsAtMount c lost w (MountPhase.Change x) = (x.step ≡ ChangeStep.Locks) × (x.wait ≡ true) × LockIsLost c lost w
MeetsAtMount c lost w phase = ⊥

abbrev pub MeetsAtTree : Config → (ℕ → Bool) → World → TreePhase → Type 0
MeetsAtTree c lost w (TreePhase.Snapshot x) = (x.step ≡ SnapshotStep.Locks) × (x.wait ≡ true) × LockIsLost c lost w
MeetsAtTree c lost w phase = ⊥

-- A grace period comes to a lost task's section, which it hasn't found with another value.
abbrev pub MeetsSection : Config → (ℕ → Bool) → World → Grace → Type 0
MeetsSection c lost w g = SectionIsLost c lost w g.task × ((g.first ≡ None) ⊎ (g.first ≡ Some (w.words.section g.task)))

-- a lost task holds this level
abbrev pub AccessIsLost : Config → (ℕ → Bool) → World → ℕ → Type 0
AccessIsLost c lost w i = (y : ℕ) × (y < c.tasks) × (lost y ≡ true) × (holds_level (w.views y) i ≡ true)

abbrev pub MeetsAtCallback : Config → (ℕ → Bool) → World → CallbackStep → Type 0
MeetsAtCallback c lost w (CallbackStep.AwaitsSections g) = MeetsSection c lost w g
MeetsAtCallback c lost w step = ⊥

abbrev pub MeetsAtClosing : Config → (ℕ → Bool) → World → DownWrite → DownWriteStep → Type 0
MeetsAtClosing c lost w d (DownWriteStep.AwaitsSections g) = MeetsSection c lost w g
MeetsAtClosing c lost w d (DownWriteStep.Sums sum) = AccessIsLost c lost w d.level
MeetsAtClosing c lost w d step = ⊥

abbrev pub MeetsAtFreeze : Config → (ℕ → Bool) → World → FreezeStep → Type 0
MeetsAtFreeze c lost w FreezeStep.Locks = LockIsLost c lost w
MeetsAtFreeze c lost w FreezeStep.LocksAgain = LockIsLost c lost w
MeetsAtFreeze c lost w (FreezeStep.LocksToUndo code) = LockIsLost c lost w
MeetsAtFreeze c lost w (FreezeStep.Closes d) = MeetsAtClosing c lost w d d.step
MeetsAtFreeze c lost w (FreezeStep.Waits d) = MeetsAtClosing c lost w d d.step
MeetsAtFreeze c lost w step = ⊥

-- An operation that waits meets what a lost task has left: HOLD at its mount, `umount` at its lock, a closed level at its start, a section in its
-- grace period, or an access at the level that it sums.
abbrev pub MeetsLost : Config → (ℕ → Bool) → World → Phase → Type 0
MeetsLost c lost w (Phase.Mounts phase) = MeetsAtMount c lost w phase
MeetsLost c lost w (Phase.Remounts x) = (x.step ≡ RemountStep.Locks) × LockIsLost c lost w
MeetsLost c lost w (Phase.DownReads r) = MeetsLevel c lost w r
MeetsLost c lost w (Phase.Writes (WritePhase.Takes m r)) = MeetsLevel c lost w r
MeetsLost c lost w (Phase.Writes (WritePhase.Wants x)) = MeetsHold c lost w x
MeetsLost c lost w (Phase.Freezes x) = MeetsAtFreeze c lost w x.step
MeetsLost c lost w (Phase.Callbacks b) = MeetsAtCallback c lost w b.step
MeetsLost c lost w (Phase.Thaws x) = (x.step ≡ ThawStep.Locks) × LockIsLost c lost w
MeetsLost c lost w (Phase.Trees phase) = MeetsAtTree c lost w phase
MeetsLost c lost w (Phase.Closes (ClosePhase.Enters f node r)) = MeetsLevel c lost w r
MeetsLost c lost w phase = ⊥

-- It never has its reply, whatever all others do and begin; a freeze at its sum, if `keep_waiting` says to wait on.
abbrev pub NeverReplies : Config → (ℕ → Bool) → World → Type 0
NeverReplies c lost w =
    (t : ℕ) → t < c.tasks → (phase : Phase) → (w.views t).phase ≡ Some phase → MeetsLost c lost w phase → (es : List Entry) →
    AreOfOthers lost es → AllAnswerSo (IsPatientWith t) c w es → IsUnderWay (run c w es) t
