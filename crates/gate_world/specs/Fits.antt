-- What a phase says of its numbers and of its task's own accesses: they are accesses with which its operation may begin, as its own
-- actions have changed them since.
use Rattle.std.specs.Prelude.{Bool, None, Option, Some, false, true, ℕ, ◌<◌, ◌≡◌, ◌≤◌, ◌⊎◌}
use Rattle.access_model.specs.{Holders.{held_by, is_unheld, with_holder}, declared.actions.Action.{Action, TheVariants.{Close, Grant, Open, Return}}}
use Rattle.access_model.specs.declared.actions.{Gate.TheVariants.{Level, Mount}, Holder.Holder, Kind.TheVariants.File}
use Rattle.composite_ops.specs.declared.file_closes.phases.ClosePhase.{ClosePhase, TheVariants.{Enters, FreesNode, Leaves as CloseLeaves}}
use Rattle.composite_ops.specs.declared.file_closes.phases.ClosePhase.TheVariants.{LoadsFile as CloseLoadsFile, LowersCount}
use Rattle.composite_ops.specs.declared.file_closes.phases.ClosePhase.TheVariants.{RefundsBlocks as CloseRefundsBlocks, Uncounts as CloseUncounts}
use Rattle.composite_ops.specs.declared.{file_closes.phases.Closing.Closing, write_access.phases.WritePhase.TheVariants.{Drops as WriteDrops, Ends}}
use Rattle.composite_ops.specs.declared.write_access.phases.WritePhase.{TheVariants.{GivesBack, Takes, Wants as WriteWants}, WritePhase}
use Rattle.freeze_laws.specs.levels.{Exchanges.KnowsWords, Operations.{KnowsCallback, KnowsDownWrite, KnowsUpWrite}}
use Rattle.freeze_levels.specs.declared.freezes.FreezeStep.{FreezeStep, TheVariants.{Cleans, Closes, GivesUp, Holds, Reopens as FreezeReopens}}
use Rattle.freeze_levels.specs.declared.{freezes.FreezeStep.TheVariants.{Undoes, Waits as FreezeWaits}, thaws.ThawStep.ThawStep}
use Rattle.freeze_levels.specs.declared.thaws.ThawStep.TheVariants.{Leaves, Reopens as ThawReopens}
use Rattle.gated_tree.specs.{Calls.TreePhaseFits, declared.phases.TreePhase.TheVariants.{ClearMarks as TreeClears, Mark as TreeMarks}}
use Rattle.gated_tree.specs.declared.phases.TreePhase.{TheVariants.{OpenFile as OpensOne, Snapshot as Snapshots}, TreePhase}
use Rattle.mount_counts.specs.declared.phases.{ChangeStep.{ChangeStep, TheVariants.Sums}, MountPhase.{MountPhase, TheVariants.{Change, Drop, Want}}}
use Rattle.node_words.specs.{Nodes.IsLawful, declared.nodes.NodeWord.NodeWord}
use Rattle.percpu_rwsem.specs.{SyncWords.on_exit, Writers.sum_begun, declared.callbacks.CallbackStep.{CallbackStep, TheVariants.AwaitsSections}}
use Rattle.percpu_rwsem.specs.declared.readers.{DownRead.DownRead, DownReadStep.{DownReadStep, TheVariants.LeavesAdmitted}}
use Rattle.percpu_rwsem.specs.declared.writers.{DownWrite.DownWrite, DownWriteStep.DownWriteStep}
use Rattle.percpu_rwsem.specs.declared.writers.{DownWriteStep.TheVariants.{AwaitsSections as AwaitsReaders, Sums as SumsLevel}, UpWrite.UpWrite}
use Rattle.gate_world.specs.{Holdings.Holdings, Operations.{holds_none, holds_none_from, is_writer, may_mark}, Remounts.RemountFits}
use Rattle.gate_world.specs.{Roles.{close_file, tree_file}, Trees.tree_bounds, declared.{config.Config.Config, work.Phase.Phase}}
use Rattle.gate_world.specs.declared.work.Phase.TheVariants.{Callbacks, Closes, DownReads, Freezes, Mounts, Remounts, Thaws, Trees, UpReads, Writes}

-- a sum in progress has a word more to read
abbrev pub SumFits : Config → ChangeStep → Type 0
SumFits c (Sums sum) = sum.words < c.processors
SumFits c step = Unit {0}

-- A phase at a mount: its numbers are in range, and its task holds what it may. A want has room for one access more, a drop has one to
-- give back, a change is of this task and holds no level.
abbrev pub MountFits : Config → ℕ → Holdings → MountPhase → Type 0
MountFits c t held (Want w) = (w.mount < c.mounts) × (w.cpu < c.processors) × (held.mounts w.mount < 1024)
MountFits c t held (Drop m p) = (m < c.mounts) × (p < c.processors) × (0 < held.mounts m)
MountFits c t held (Change x) = (x.mount < c.mounts) × (x.task ≡ t) × (x.processors ≡ c.processors) × (holds_none held.levels ≡ true) ×
    SumFits c x.step

-- a down-read holds no level from its own up before its grant, and holds its own after it
abbrev pub ReadStepFits : ℕ → (ℕ → Bool) → DownReadStep → Type 0
ReadStepFits i levels LeavesAdmitted = levels i ≡ true
ReadStepFits i levels step = holds_none_from i levels ≡ true

-- its numbers are in range, and it is of this task
abbrev pub ReadFits : Config → ℕ → Holdings → DownRead → Type 0
ReadFits c t held r = (1 ≤ r.level) × (r.level ≤ 3) × (r.cpu < c.processors) × (r.task ≡ t) × ReadStepFits r.level held.levels r.step

-- a callback's grace period is among all tasks, and has a task more to look at
abbrev pub GraceFits : ℕ → CallbackStep → Type 0
GraceFits tasks (AwaitsSections grace) = (grace.tasks ≡ tasks) × (grace.task < tasks)
GraceFits tasks step = Unit {0}

-- a down-write's grace period is among all tasks and has a task more to look at, and its sum has a word more to read
abbrev pub DownWriteStepFits : Config → DownWriteStep → Type 0
DownWriteStepFits c (AwaitsReaders grace) = (grace.tasks ≡ c.tasks) × (grace.task < c.tasks)
DownWriteStepFits c (SumsLevel sum) = sum.words < c.processors
DownWriteStepFits c step = Unit {0}

-- its numbers are in range, and it knows the words of an exchange that is to come
abbrev pub DownWriteFits : Config → DownWrite → Type 0
DownWriteFits c d = (1 ≤ d.level) × (d.level ≤ 3) × (d.tasks ≡ c.tasks) × (d.processors ≡ c.processors) × DownWriteStepFits c d.step ×
    KnowsDownWrite d.step

-- the same of an up-write
abbrev pub UpWriteFits : UpWrite → Type 0
UpWriteFits u = (1 ≤ u.level) × (u.level ≤ 3) × KnowsUpWrite u.step

-- a freeze stores its holder beside others, and clears the marks of nodes but the root; where it waits, its next sum is to begin
abbrev pub FreezeFits : Config → Holder → FreezeStep → Type 0
FreezeFits c holder (Holds beside) = held_by beside holder ≡ false
FreezeFits c holder (Closes d) = DownWriteFits c d
FreezeFits c holder (FreezeWaits d) = DownWriteFits c d × (d.step ≡ sum_begun)
FreezeFits c holder (Undoes level transition code) = (1 ≤ level) × (level ≤ 3) × KnowsWords on_exit transition
FreezeFits c holder (GivesUp level code) = (1 ≤ level) × (level ≤ 3)
FreezeFits c holder (Cleans marks) = (marks.nodes ≡ c.nodes) × (1 ≤ marks.node) × (marks.node < c.nodes)
FreezeFits c holder (FreezeReopens u code) = UpWriteFits u
FreezeFits c holder step = Unit {0}

-- a thaw leaves others where its own holder is one of several, and its numbers are those of its levels
abbrev pub ThawFits : Holder → ThawStep → Type 0
ThawFits holder (Leaves held) = (held_by held holder ≡ true) × (is_unheld (with_holder holder false held) ≡ false)
ThawFits holder (ThawReopens u) = UpWriteFits u
ThawFits holder step = Unit {0}

-- a write access is at level 1, has room for an access at its mount until it has one, and holds the level once it is inside
abbrev pub WriteFits : Config → ℕ → Holdings → WritePhase → Type 0
WriteFits c t held (Takes m r) = ReadFits c t held r × (r.level ≡ 1) × (m < c.mounts) × (held.mounts m < 1024)
WriteFits c t held (WriteWants w) = MountFits c t held (Want w) × (held.levels 1 ≡ true)
WriteFits c t held (GivesBack m p refusal) = (m < c.mounts) × (p < c.processors) × (held.levels 1 ≡ true)
WriteFits c t held (WriteDrops m p) = MountFits c t held (Drop m p) × (held.levels 1 ≡ true)
WriteFits c t held (Ends p) = (p < c.processors) × (held.levels 1 ≡ true)

-- who may be at a call of the tree: a writer inside level 1 or, for a page fault, level 2, with an access at some mount; for a write-back,
-- who is inside level 3; for a snapshot, who holds no level. A clearing of marks is a part of a remount or a freeze alone.
abbrev pub TreeAccess : Config → Holdings → TreePhase → Type 0
TreeAccess c held (TreeMarks x) = may_mark x.dirty c held ≡ true
TreeAccess c held (OpensOne x) = Unit {0}
TreeAccess c held (Snapshots x) = holds_none held.levels ≡ true
TreeAccess c held (TreeClears x) = ⊥
TreeAccess c held phase = is_writer c held ≡ true

-- a close is of this task, of a file in range, and holds no level 3 before it has gone inside; a file that it has loaded is one that a word
-- can say, and it lowers a count that is some, and not the last one of a removed file
abbrev pub ClosingFits : Config → ℕ → Holdings → Closing → Type 0
ClosingFits c t held x = (x.file < c.nodes) × (x.cpu < c.processors) × (x.task ≡ t) × (holds_none_from 3 held.levels ≡ true)

abbrev pub MayLower : NodeWord → Type 0
MayLower node = (node.kind ≡ Some File) × IsLawful node × (1 ≤ node.opens) × ((node.removed ≡ false) ⊎ (2 ≤ node.opens))

abbrev pub CloseFits : Config → ℕ → Holdings → ClosePhase → Type 0
CloseFits c t held (CloseLoadsFile x) = ClosingFits c t held x
CloseFits c t held (LowersCount x node) = ClosingFits c t held x × MayLower node
CloseFits c t held (Enters f node r) = (f < c.nodes) × (r.level ≡ 3) × ReadFits c t held r
CloseFits c t held (FreesNode f p node) = (f < c.nodes) × (p < c.processors) × (held.levels 3 ≡ true)
CloseFits c t held (CloseRefundsBlocks p blocks) = (p < c.processors) × (held.levels 3 ≡ true)
CloseFits c t held (CloseUncounts p) = (p < c.processors) × (held.levels 3 ≡ true)
CloseFits c t held (CloseLeaves p) = (p < c.processors) × (held.levels 3 ≡ true)

-- The same of a phase of any layer: a remount is of this task, of these numbers, and holds no level; an up-read holds its level; a callback
-- is of all tasks, and knows the words of an exchange that is to come; a freeze or a thaw is of this task, of these numbers, and holds no
-- level; a call at the tree is one that its task may be at.
abbrev pub PhaseFits : Config → ℕ → Holdings → Phase → Type 0
PhaseFits c t held (Mounts phase) = MountFits c t held phase
PhaseFits c t held (Remounts x) = (x.task ≡ t) × (x.processors ≡ c.processors) × (x.mounts ≡ c.mounts) × (x.nodes ≡ c.nodes) ×
    (holds_none held.levels ≡ true) × RemountFits c x.step
PhaseFits c t held (DownReads r) = ReadFits c t held r
PhaseFits c t held (UpReads u) = (1 ≤ u.level) × (u.level ≤ 3) × (u.cpu < c.processors) × (held.levels u.level ≡ true)
PhaseFits c t held (Callbacks b) = (1 ≤ b.level) × (b.level ≤ 3) × (b.tasks ≡ c.tasks) × GraceFits c.tasks b.step ×
    KnowsCallback b.step
PhaseFits c t held (Writes x) = WriteFits c t held x
PhaseFits c t held (Freezes x) = (x.task ≡ t) × (x.tasks ≡ c.tasks) × (x.processors ≡ c.processors) × (x.nodes ≡ c.nodes) ×
    (holds_none held.levels ≡ true) × FreezeFits c x.holder x.step
PhaseFits c t held (Thaws x) = (x.task ≡ t) × (holds_none held.levels ≡ true) × ThawFits x.holder x.step
PhaseFits c t held (Trees phase) = TreePhaseFits (tree_bounds c) t phase × TreeAccess c held phase
PhaseFits c t held (Closes phase) = CloseFits c t held phase

-- the same of what a task is at; nothing is asked where no operation is under way
abbrev pub Fits : Config → ℕ → Holdings → Option Phase → Type 0
Fits c t held None = Unit {0}
Fits c t held (Some phase) = PhaseFits c t held phase

-- a task that holds this has room for an access that it gets, and holds one that it gives back
abbrev pub ActionFits : Holdings → Option Action → Type 0
ActionFits held None = Unit {0}
ActionFits held (Some (Grant (Mount m))) = (m < 8) × (held.mounts m < 1024)
ActionFits held (Some (Grant (Level i))) = (1 ≤ i) × (i ≤ 3)
ActionFits held (Some (Return (Mount m))) = (m < 8) × (0 < held.mounts m)
ActionFits held (Some (Return (Level i))) = (1 ≤ i) × (i ≤ 3)
ActionFits held (Some (Open n)) = n < 64
ActionFits held (Some (Close n)) = n < 64
ActionFits held (Some a) = Unit {0}

-- the file that what a task is at relies on it to have open, or not to have open
abbrev pub file_of : Option Phase → Option (ℕ × Bool)
file_of (Some (Trees phase)) = tree_file phase
file_of (Some (Closes phase)) = close_file phase
file_of p = None

-- it is so
abbrev pub HasFile : (ℕ → Bool) → Option (ℕ × Bool) → Type 0
HasFile files None = Unit {0}
HasFile files (Some file) = files file.0 ≡ file.1
