-- Lost tasks: a task that is lost never steps again, at whatever point of whatever call it is. What the others come to, and by what they are kept.
use Rattle.std.specs.Prelude.{Bool, List, None, Some, [], false, suc, true, zero, ℕ, ◌<◌, ◌∷◌, ◌≡◌, ◌≤◌, ◌⊎◌}
use Rattle.composite_ops.specs.declared.{file_closes.phases.ClosePhase.ClosePhase, write_access.phases.WritePhase.WritePhase}
use Rattle.{cpu_words.specs.{Hooks.HookAnswer, gate_counts.{Gates.counted, Levels.level_as_gate}}, freeze_laws.specs.levels.Roles.closed}
use Rattle.freeze_levels.specs.declared.freezes.{Freeze.Freeze, FreezeStep.FreezeStep}
use Rattle.gate_schedules.specs.operations.Progress.{IsHeldIdle, IsUnderWay}
use Rattle.gate_world.specs.{Levels.{at_level, inside, is_frozen_whole, sync_role_of}, Rules.{owns, role_of}, Shown.freeze_closing}
use Rattle.gate_world.specs.{Worlds.{World, happens, run}, declared.{config.Config.Config, entries.Entry.{Entry, TheVariants.{Begins, Steps}}}}
use Rattle.gate_world.specs.declared.work.Phase.{Phase}
use Rattle.{gated_tree.specs.declared.phases.TreePhase.TreePhase, mount_counts.specs.{Roles.has_hold, declared.phases.MountPhase.MountPhase}}
use Rattle.percpu_rwsem.specs.declared.{callbacks.CallbackStep.CallbackStep, writers.{DownWrite.DownWrite, DownWriteStep.DownWriteStep}}
use Rattle.progress_laws.specs.{Answers.{AllAnswerSo, IsPatient}, Waiting.must_wait}

-- each operation under way of a task that isn't lost has to wait
abbrev pub AllWait : Config → (ℕ → Bool) → World → Type 0
AllWait c lost w =
    (t : ℕ) → t < c.tasks → lost t ≡ false → (phase : Phase) → (w.views t).phase ≡ Some phase → must_wait w.words phase ≡ true

-- A scheduler can pick, step by step, one of the tasks under way that aren't lost, knowing what the hooks have answered so far but not what they
-- will, so that after at most so many steps each operation of such a task that is still under way has to wait.
abbrev pub SettlesAmong : Config → (ℕ → Bool) → ℕ → World → Type 0
SettlesAmong c lost zero w = AllWait c lost w
SettlesAmong c lost (suc n) w =
    AllWait c lost w ⊎
    ((t : ℕ) × (t < c.tasks) × (lost t ≡ false) × IsUnderWay w t × ((hook : HookAnswer) → SettlesAmong c lost n (happens c w (Steps t hook))))

-- a task that is under way and not lost has to wait
abbrev pub Waits : (ℕ → Bool) → World → ℕ → Type 0
Waits lost w y = (lost y ≡ false) × (phase : Phase) × ((w.views y).phase ≡ Some phase) × (must_wait w.words phase ≡ true)

-- who is to blame for a wait is lost, or has to wait itself
abbrev pub IsStuck : (ℕ → Bool) → World → ℕ → Type 0
IsStuck lost w y = (lost y ≡ true) ⊎ Waits lost w y

-- a lost task has HOLD set at a mount
abbrev pub HoldIsLost : Config → (ℕ → Bool) → World → ℕ → Type 0
HoldIsLost c lost w m = (y : ℕ) × (y < c.tasks) × (lost y ≡ true) × (has_hold (role_of m (w.views y).phase) ≡ 1)

-- a lost task owns `umount`, or one that has to wait does
abbrev pub LockIsStuck : Config → (ℕ → Bool) → World → Type 0
LockIsStuck c lost w = (y : ℕ) × (y < c.tasks) × (owns (w.views y).phase ≡ 1) × IsStuck lost w y

-- a level is frozen, or a lost task has it closed, or one that has to wait has
abbrev pub LevelIsStuck : Config → (ℕ → Bool) → World → ℕ → Type 0
LevelIsStuck c lost w i =
    (is_frozen_whole w.words ≡ 1) ⊎
    ((y : ℕ) × (y < c.tasks) × (closed (sync_role_of i (w.views y).phase) ≡ 1) × IsStuck lost w y)

-- this task is lost inside a section
abbrev pub SectionIsLost : Config → (ℕ → Bool) → World → ℕ → Type 0
SectionIsLost c lost w y = (y < c.tasks) × (lost y ≡ true) × (inside (w.views y).phase ≡ 1)

-- a task is counted at a level that is idle, or lost, or has to wait
abbrev pub CountIsStuck : Config → (ℕ → Bool) → World → ℕ → Type 0
CountIsStuck c lost w i =
    (y : ℕ) × (y < c.tasks) × (1 ≤ counted (level_as_gate (at_level i (w.views y)))) × (((w.views y).phase ≡ None) ⊎ IsStuck lost w y)

-- the closing of a level is kept by a lost task in its section, or by one that is counted at the level
abbrev pub ClosingIsBlockedBy : Config → (ℕ → Bool) → World → DownWrite → DownWriteStep → Type 0
ClosingIsBlockedBy c lost w d (DownWriteStep.AwaitsSections g) = SectionIsLost c lost w g.task
ClosingIsBlockedBy c lost w d (DownWriteStep.Sums sum) = CountIsStuck c lost w d.level
ClosingIsBlockedBy c lost w d step = ⊥

abbrev pub FreezeIsBlockedBy : Config → (ℕ → Bool) → World → FreezeStep → Type 0
FreezeIsBlockedBy c lost w (FreezeStep.Closes d) = ClosingIsBlockedBy c lost w d d.step
FreezeIsBlockedBy c lost w (FreezeStep.Waits d) = ClosingIsBlockedBy c lost w d d.step
FreezeIsBlockedBy c lost w step = LockIsStuck c lost w

abbrev pub CallbackIsBlockedBy : Config → (ℕ → Bool) → World → CallbackStep → Type 0
CallbackIsBlockedBy c lost w (CallbackStep.AwaitsSections g) = SectionIsLost c lost w g.task
CallbackIsBlockedBy c lost w step = ⊥

abbrev pub MountIsBlockedBy : Config → (ℕ → Bool) → World → MountPhase → Type 0
MountIsBlockedBy c lost w (MountPhase.Want x) = HoldIsLost c lost w x.mount
MountIsBlockedBy c lost w (MountPhase.Change x) = LockIsStuck c lost w
MountIsBlockedBy c lost w phase = ⊥

abbrev pub WriteIsBlockedBy : Config → (ℕ → Bool) → World → WritePhase → Type 0
WriteIsBlockedBy c lost w (WritePhase.Takes m r) = LevelIsStuck c lost w r.level
WriteIsBlockedBy c lost w (WritePhase.Wants x) = HoldIsLost c lost w x.mount
WriteIsBlockedBy c lost w phase = ⊥

abbrev pub CloseIsBlockedBy : Config → (ℕ → Bool) → World → ClosePhase → Type 0
CloseIsBlockedBy c lost w (ClosePhase.Enters f node r) = LevelIsStuck c lost w r.level
CloseIsBlockedBy c lost w phase = ⊥

abbrev pub TreeIsBlockedBy : Config → (ℕ → Bool) → World → TreePhase → Type 0
TreeIsBlockedBy c lost w (TreePhase.Snapshot x) = LockIsStuck c lost w
TreeIsBlockedBy c lost w phase = ⊥

-- What keeps an operation that has to wait, row by row. An end, a drop and the other calls at the tree are never kept.
abbrev pub IsBlockedBy : Config → (ℕ → Bool) → World → Phase → Type 0
IsBlockedBy c lost w (Phase.Mounts phase) = MountIsBlockedBy c lost w phase
IsBlockedBy c lost w (Phase.Remounts x) = LockIsStuck c lost w
IsBlockedBy c lost w (Phase.DownReads r) = LevelIsStuck c lost w r.level
IsBlockedBy c lost w (Phase.UpReads u) = ⊥
IsBlockedBy c lost w (Phase.Callbacks b) = CallbackIsBlockedBy c lost w b.step
IsBlockedBy c lost w (Phase.Writes x) = WriteIsBlockedBy c lost w x
IsBlockedBy c lost w (Phase.Freezes x) = FreezeIsBlockedBy c lost w x.step
IsBlockedBy c lost w (Phase.Thaws x) = LockIsStuck c lost w
IsBlockedBy c lost w (Phase.Trees phase) = TreeIsBlockedBy c lost w phase
IsBlockedBy c lost w (Phase.Closes phase) = CloseIsBlockedBy c lost w phase

-- where all have to wait, each is kept by what is listed
abbrev pub EachIsBlockedBy : Config → (ℕ → Bool) → World → Type 0
EachIsBlockedBy c lost w =
    AllWait c lost w → (t : ℕ) → t < c.tasks → lost t ≡ false → (phase : Phase) → (w.views t).phase ≡ Some phase → IsBlockedBy c lost w phase

-- these transitions are steps of tasks that aren't lost
abbrev pub AreLiveSteps : (ℕ → Bool) → List Entry → Type 0
AreLiveSteps lost [] = Unit {0}
AreLiveSteps lost (Begins t op ∷ es) = ⊥
AreLiveSteps lost (Steps t hook ∷ es) = (lost t ≡ false) × AreLiveSteps lost es

-- Where all have to wait, no such steps, how many so ever, are a reply: neither those of starts that look again at a closed level, nor those of a
-- freeze that `keep_waiting` lets wait on.
abbrev pub NobodyReplies : Config → (ℕ → Bool) → World → Type 0
NobodyReplies c lost w =
    AllWait c lost w → (es : List Entry) → AreLiveSteps lost es → AllAnswerSo IsPatient c w es → (t : ℕ) → t < c.tasks → IsUnderWay w t →
    IsUnderWay (run c w es) t

-- What a lost task may leave behind: the lock, HOLD at a mount, a closed level, a section that doesn't end, or a count at a level.
abbrev pub LeavesBehind : World → ℕ → Type 0
LeavesBehind w y =
    (owns (w.views y).phase ≡ 1) ⊎
    (((m : ℕ) × (has_hold (role_of m (w.views y).phase) ≡ 1)) ⊎
    (((i : ℕ) × (closed (sync_role_of i (w.views y).phase) ≡ 1)) ⊎
    ((inside (w.views y).phase ≡ 1) ⊎
    ((i : ℕ) × (1 ≤ i) × (i ≤ 3) × (1 ≤ counted (level_as_gate (at_level i (w.views y))))))))

-- a freeze that isn't lost sums the counts of this level, and has to wait
abbrev pub FreezeSums : Config → (ℕ → Bool) → World → ℕ → Type 0
FreezeSums c lost w i =
    (y : ℕ) × (y < c.tasks) × (lost y ≡ false) × (x : Freeze) × ((w.views y).phase ≡ Some (Phase.Freezes x)) × (freeze_closing i x.step ≡ 1)

-- What keeps somebody in the end: all is frozen; or an idle task holds a level that a freeze has to pass; or a lost task has left something behind.
abbrev pub Remains : Config → (ℕ → Bool) → World → Type 0
Remains c lost w =
    (is_frozen_whole w.words ≡ 1) ⊎
    (((i : ℕ) × FreezeSums c lost w i × IsHeldIdle c w i) ⊎
    ((y : ℕ) × (y < c.tasks) × (lost y ≡ true) × LeavesBehind w y))

-- Where all have to wait, and somebody does, there is such a thing.
abbrev pub WaitsForRemains : Config → (ℕ → Bool) → World → Type 0
WaitsForRemains c lost w = AllWait c lost w → (t : ℕ) → t < c.tasks → lost t ≡ false → IsUnderWay w t → Remains c lost w
