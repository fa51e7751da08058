-- How many steps a phase has still to do that don't wait, whatever all others do, in three numbers: steps that nobody can undo; those of a start,
-- which another one may send back by closing or opening its level; and those of an exchange or a sum that has to begin again where another one
-- has changed its words. A fourth number tells how often a phase may still do such a thing to the others.
use Rattle.std.specs.Prelude.{Bool, None, Option, Some, if◌then◌else◌, max, not, ℕ, ◌%◌, ◌&&◌, ◌*◌, ◌+◌, ◌-◌, ◌==◌}
use Rattle.composite_ops.specs.declared.{file_closes.phases.ClosePhase.ClosePhase, write_access.phases.WritePhase.WritePhase}
use Rattle.{cpu_words.specs.{Sums.lead, Words.Words, declared.sums.Sum.Sum}, finite_sums.specs.Sums.total}
use Rattle.freeze_levels.specs.declared.{freezes.{Freeze.Freeze, FreezeStep.FreezeStep}, thaws.ThawStep.ThawStep}
use Rattle.gate_schedules.specs.operations.Ranks.{exchange_rank, most_alone, read_rank, remount_rank}
use Rattle.{gate_world.specs.{Worlds.World, declared.{config.Config.Config, work.Phase.Phase}}, gated_tree.specs.Ranks.tree_rank}
use Rattle.mount_counts.specs.Ranks.{mount_rank, want_rank}
use Rattle.percpu_rwsem.specs.declared.{callbacks.CallbackStep.CallbackStep, grace.Grace.Grace, readers.DownReadStep.DownReadStep}
use Rattle.percpu_rwsem.specs.declared.writers.{DownWrite.DownWrite, DownWriteStep.DownWriteStep, UpWrite.UpWrite, UpWriteStep.UpWriteStep}

-- 1 before the first look at a task's section
abbrev pub unseen : Option ℕ → ℕ
unseen None = 1
unseen (Some first) = 0

-- a grace period: each task is looked at twice at most
abbrev pub grace_left : Grace → ℕ
grace_left g = 2 * (g.tasks - g.task) + unseen g.first

abbrev pub callback_left : ℕ → CallbackStep → ℕ
callback_left tasks (CallbackStep.Claims x) = 2 * tasks + 3
callback_left tasks (CallbackStep.AwaitsSections g) = grace_left g + 1
callback_left tasks (CallbackStep.CallsBack x) = 0

-- the closing of a level
abbrev pub closing_left : ℕ → DownWriteStep → ℕ
closing_left tasks (DownWriteStep.Enters x) = 2 * tasks + 5
closing_left tasks (DownWriteStep.AwaitsSections g) = grace_left g + 3
closing_left tasks (DownWriteStep.CallsBack x) = 3
closing_left tasks DownWriteStep.AwaitsPassed = 2
closing_left tasks DownWriteStep.SetsBlock = 1
closing_left tasks (DownWriteStep.Sums sum) = 0

-- the opening of a level and of those below it
abbrev pub opening_left : ℕ → UpWriteStep → ℕ
opening_left level UpWriteStep.ClearsBlock = 2 * level + 1
opening_left level (UpWriteStep.Exits x) = 2 * level

-- more than the closing of a level has
abbrev pub level_left : ℕ → ℕ
level_left tasks = 2 * tasks + 6

-- more than a freeze has once this level is closed
abbrev pub closed_left : Freeze → ℕ → ℕ
closed_left x level =
    if level == 1 then 2 * level_left x.tasks + x.nodes + 11 else
    if level == 2 then level_left x.tasks + x.nodes + 9 else
    9

abbrev pub freeze_left : Freeze → FreezeStep → ℕ
freeze_left x FreezeStep.Locks = 3 * level_left x.tasks + x.nodes + 15
freeze_left x FreezeStep.LoadsStage = 3 * level_left x.tasks + x.nodes + 14
freeze_left x FreezeStep.LoadsHolders = 2
freeze_left x (FreezeStep.Holds beside) = 1
freeze_left x FreezeStep.LoadsSuperblock = 3 * level_left x.tasks + x.nodes + 13
freeze_left x FreezeStep.CompletesReadOnly = 2
freeze_left x FreezeStep.SetsWrite = 3 * level_left x.tasks + x.nodes + 12
freeze_left x FreezeStep.Unlocks = 3 * level_left x.tasks + x.nodes + 11
freeze_left x (FreezeStep.Closes d) = closing_left d.tasks d.step + closed_left x d.level
freeze_left x (FreezeStep.Waits d) = closing_left d.tasks d.step + closed_left x d.level
freeze_left x (FreezeStep.Undoes level transition code) = 2 * level + 2
freeze_left x (FreezeStep.LocksToUndo code) = 3
freeze_left x (FreezeStep.GivesUp level code) = 2 * level
freeze_left x FreezeStep.LocksAgain = 2 * level_left x.tasks + x.nodes + 10
freeze_left x FreezeStep.SetsPageFault = 2 * level_left x.tasks + x.nodes + 9
freeze_left x (FreezeStep.Cleans marks) = level_left x.tasks + (marks.nodes - marks.node) + 9
freeze_left x FreezeStep.SetsFs = level_left x.tasks + 9
freeze_left x FreezeStep.SetsComplete = 8
freeze_left x (FreezeStep.Reopens u code) = opening_left u.level u.step
freeze_left x (FreezeStep.Releases answer) = 0

abbrev pub thaw_left : ThawStep → ℕ
thaw_left ThawStep.Locks = 14
thaw_left ThawStep.LoadsStage = 13
thaw_left ThawStep.LoadsHolders = 12
thaw_left (ThawStep.Leaves held) = 1
thaw_left ThawStep.LoadsSuperblock = 11
thaw_left ThawStep.LeavesLast = 10
thaw_left ThawStep.SetsUnfrozen = 9
thaw_left ThawStep.LeavesReadOnly = 2
thaw_left ThawStep.UnfreezesReadOnly = 1
thaw_left (ThawStep.Reopens u) = opening_left u.level u.step
thaw_left (ThawStep.Releases answer) = 0

-- what a write access or a close has before and after its start
abbrev pub write_left : WritePhase → ℕ
write_left (WritePhase.Takes m r) = 8
write_left (WritePhase.Wants x) = want_rank x.step + 1
write_left (WritePhase.GivesBack m p refusal) = 0
write_left (WritePhase.Drops m p) = 1
write_left (WritePhase.Ends p) = 0

abbrev pub close_left : ClosePhase → ℕ
close_left (ClosePhase.LoadsFile x) = 5
close_left (ClosePhase.LowersCount x node) = 0
close_left (ClosePhase.Enters f node r) = 4
close_left (ClosePhase.FreesNode f p node) = 3
close_left (ClosePhase.RefundsBlocks p blocks) = 2
close_left (ClosePhase.Uncounts p) = 1
close_left (ClosePhase.Leaves p) = 0

-- the first number: steps that nobody can undo
abbrev pub steps_left : Phase → ℕ
steps_left (Phase.Mounts phase) = mount_rank phase
steps_left (Phase.Remounts x) = remount_rank x.processors x.mounts x.nodes x.step
steps_left (Phase.DownReads r) = 0
steps_left (Phase.UpReads u) = 0
steps_left (Phase.Callbacks b) = callback_left b.tasks b.step
steps_left (Phase.Writes x) = write_left x
steps_left (Phase.Freezes x) = freeze_left x x.step
steps_left (Phase.Thaws x) = thaw_left x.step
steps_left (Phase.Trees phase) = tree_rank phase
steps_left (Phase.Closes phase) = close_left phase

-- a start that waits at a closed level comes outside
abbrev pub barred_left : DownReadStep → ℕ
barred_left DownReadStep.EntersSection = 0
barred_left DownReadStep.LoadsSync = 5
barred_left DownReadStep.CountsUpFast = 1
barred_left DownReadStep.CountsUpSlow = 4
barred_left DownReadStep.LoadsBlock = 3
barred_left DownReadStep.CountsDown = 2
barred_left DownReadStep.LeavesAdmitted = 0
barred_left DownReadStep.LeavesBlocked = 1

-- a start, by its level's `block`
abbrev pub start_left : ℕ → Bool → DownReadStep → ℕ
start_left block wait step = if wait && not (block == 0) then barred_left step else read_rank wait step

-- the second number: the steps of a start, 7 of one that is still to come
abbrev pub start_steps : Words → Phase → ℕ
start_steps w (Phase.DownReads r) = start_left (w.block r.level) r.wait r.step
start_steps w (Phase.Writes (WritePhase.Takes m r)) = start_left (w.block r.level) r.wait r.step
start_steps w (Phase.Closes (ClosePhase.LoadsFile x)) = 7
start_steps w (Phase.Closes (ClosePhase.Enters f node r)) = start_left (w.block r.level) r.wait r.step
start_steps w phase = 0

-- a sum of a level's words; one that has to wait stays where it is
abbrev pub sum_left : ℕ → (ℕ → ℕ) → Sum → ℕ
sum_left processors count sum =
    if lead processors count sum.words sum.total == 0 then processors - (sum.words + 1) + 1 else
    if total processors count % 18446744073709551616 == 0 then processors + processors - (sum.words + 1) + 1 else
    processors + processors + 1

abbrev pub closing_tries : Words → DownWrite → DownWriteStep → ℕ
closing_tries w d (DownWriteStep.Enters x) = exchange_rank (w.sync d.level) x
closing_tries w d (DownWriteStep.CallsBack x) = exchange_rank (w.sync d.level) x
closing_tries w d (DownWriteStep.Sums sum) = sum_left d.processors (w.level d.level) sum
closing_tries w d step = 1

abbrev pub opening_tries : Words → UpWrite → UpWriteStep → ℕ
opening_tries w u (UpWriteStep.Exits x) = exchange_rank (w.sync u.level) x
opening_tries w u step = 1

abbrev pub callback_tries : ℕ → CallbackStep → ℕ
callback_tries sync (CallbackStep.Claims x) = exchange_rank sync x
callback_tries sync (CallbackStep.CallsBack x) = exchange_rank sync x
callback_tries sync step = 1

abbrev pub freeze_tries : Words → FreezeStep → ℕ
freeze_tries w (FreezeStep.Closes d) = closing_tries w d d.step
freeze_tries w (FreezeStep.Waits d) = closing_tries w d d.step
freeze_tries w (FreezeStep.Undoes level transition code) = exchange_rank (w.sync level) transition
freeze_tries w (FreezeStep.Reopens u code) = opening_tries w u u.step
freeze_tries w step = 1

abbrev pub thaw_tries : Words → ThawStep → ℕ
thaw_tries w (ThawStep.Reopens u) = opening_tries w u u.step
thaw_tries w step = 1

-- the third number: the loads and exchanges of a sync word, and the loads of a sum; 1 where none of these is under way
abbrev pub tries_left : Words → Phase → ℕ
tries_left w (Phase.Callbacks b) = callback_tries (w.sync b.level) b.step
tries_left w (Phase.Freezes x) = freeze_tries w x.step
tries_left w (Phase.Thaws x) = thaw_tries w x.step
tries_left w phase = 0

-- The fourth number: the changes of a level's words that are left. One of `block`, which turns the starts there, counts as much as `turn`; one of a
-- sync word or of a count counts 1, but for what a start does to a count.
abbrev pub closing_changes : ℕ → DownWriteStep → ℕ
closing_changes turn (DownWriteStep.Enters x) = turn + 2
closing_changes turn (DownWriteStep.AwaitsSections g) = turn + 1
closing_changes turn (DownWriteStep.CallsBack x) = turn + 1
closing_changes turn DownWriteStep.AwaitsPassed = turn
closing_changes turn DownWriteStep.SetsBlock = turn
closing_changes turn (DownWriteStep.Sums sum) = 0

-- this level and those below it
abbrev pub opening_changes : (turn level : ℕ) → UpWriteStep → ℕ
opening_changes turn level UpWriteStep.ClearsBlock = level * (turn + 1)
opening_changes turn level (UpWriteStep.Exits x) = (level - 1) * (turn + 1) + 1

-- a freeze once this level is closed: the closing of those above it, and the opening of all three if a hook fails
abbrev pub closed_changes : (turn level : ℕ) → ℕ
closed_changes turn level =
    if level == 1 then 5 * turn + 7 else
    if level == 2 then 4 * turn + 5 else
    3 * turn + 3

abbrev pub freeze_changes : ℕ → FreezeStep → ℕ
freeze_changes turn FreezeStep.LoadsHolders = 0
freeze_changes turn (FreezeStep.Holds beside) = 0
freeze_changes turn FreezeStep.CompletesReadOnly = 0
freeze_changes turn (FreezeStep.Closes d) = closing_changes turn d.step + closed_changes turn d.level
freeze_changes turn (FreezeStep.Waits d) = closing_changes turn d.step + closed_changes turn d.level
freeze_changes turn (FreezeStep.Undoes level transition code) = (level - 1) * (turn + 1) + 1
freeze_changes turn (FreezeStep.LocksToUndo code) = 0
freeze_changes turn (FreezeStep.GivesUp level code) = (level - 1) * (turn + 1)
freeze_changes turn FreezeStep.LocksAgain = closed_changes turn 1
freeze_changes turn FreezeStep.SetsPageFault = closed_changes turn 1
freeze_changes turn (FreezeStep.Cleans marks) = closed_changes turn 2
freeze_changes turn FreezeStep.SetsFs = closed_changes turn 2
freeze_changes turn FreezeStep.SetsComplete = closed_changes turn 3
freeze_changes turn (FreezeStep.Reopens u code) = opening_changes turn u.level u.step
freeze_changes turn (FreezeStep.Releases answer) = 0
freeze_changes turn step = 6 * turn + 9

abbrev pub thaw_changes : ℕ → ThawStep → ℕ
thaw_changes turn (ThawStep.Leaves held) = 0
thaw_changes turn ThawStep.LeavesReadOnly = 0
thaw_changes turn ThawStep.UnfreezesReadOnly = 0
thaw_changes turn (ThawStep.Reopens u) = opening_changes turn u.level u.step
thaw_changes turn (ThawStep.Releases answer) = 0
thaw_changes turn step = 3 * (turn + 1)

abbrev pub callback_changes : CallbackStep → ℕ
callback_changes (CallbackStep.Claims x) = 2
callback_changes (CallbackStep.AwaitsSections g) = 1
callback_changes (CallbackStep.CallsBack x) = 1

-- an access that ends, also that of a write access or a close, is counted down
abbrev pub changes_left : ℕ → Phase → ℕ
changes_left turn (Phase.UpReads u) = 1
changes_left turn (Phase.Callbacks b) = callback_changes b.step
changes_left turn (Phase.Writes x) = 1
changes_left turn (Phase.Freezes x) = freeze_changes turn x.step
changes_left turn (Phase.Thaws x) = thaw_changes turn x.step
changes_left turn (Phase.Closes x) = 1
changes_left turn phase = 0

-- of what a task is at
abbrev pub steps_of : Option Phase → ℕ
steps_of None = 0
steps_of (Some phase) = steps_left phase + 1

abbrev pub changes_of : ℕ → Option Phase → ℕ
changes_of turn None = 0
changes_of turn (Some phase) = changes_left turn phase

abbrev pub start_steps_of : Words → Option Phase → ℕ
start_steps_of w None = 0
start_steps_of w (Some phase) = start_steps w phase

abbrev pub tries_of : Words → Option Phase → ℕ
tries_of w None = 0
tries_of w (Some phase) = tries_left w phase

-- of all tasks
abbrev pub all_steps : Config → World → ℕ
all_steps c w = total c.tasks (λ t. steps_of (w.views t).phase)

abbrev pub all_changes : ℕ → Config → World → ℕ
all_changes turn c w = total c.tasks (λ t. changes_of turn (w.views t).phase)

abbrev pub all_start_steps : Config → World → ℕ
all_start_steps c w = total c.tasks (λ t. start_steps_of w.words (w.views t).phase)

abbrev pub all_tries : Config → World → ℕ
all_tries c w = total c.tasks (λ t. tries_of w.words (w.views t).phase)

-- The most that what a task is at, and what comes after it, has of the second number: 7, if it is or comes to a start.
abbrev pub start_room_of : Option Phase → ℕ
start_room_of (Some (Phase.DownReads r)) = 7
start_room_of (Some (Phase.Writes (WritePhase.Takes m r))) = 7
start_room_of (Some (Phase.Closes (ClosePhase.LoadsFile x))) = 7
start_room_of (Some (Phase.Closes (ClosePhase.Enters f node r))) = 7
start_room_of p = 0

-- and of the third, among so many processors
abbrev pub try_room_of : ℕ → Option Phase → ℕ
try_room_of processors (Some (Phase.Callbacks b)) = 2
try_room_of processors (Some (Phase.Freezes x)) = 2 * processors + 2
try_room_of processors (Some (Phase.Thaws x)) = 2
try_room_of processors p = 0

-- of all tasks
abbrev pub start_room : Config → World → ℕ
start_room c w = total c.tasks (λ t. start_room_of (w.views t).phase)

abbrev pub try_room : Config → World → ℕ
try_room c w = total c.tasks (λ t. try_room_of c.processors (w.views t).phase)

-- Steps, changes, starts and tries as one number: a change, and a step of a start, may bring so many new tries.
abbrev pub as_one : ℕ → ℕ → ℕ → ℕ → ℕ → ℕ
as_one tries a k b d = a + (k + b) * (tries + 1) + d

-- How many steps that don't wait may still come, of all tasks together, if nothing new begins, with these bounds of the starts' steps and of the tries.
abbrev pub potential : (starts tries : ℕ) → Config → World → ℕ
potential starts tries c w = as_one tries (all_steps c w) (all_changes (starts + 1) c w) (all_start_steps c w) (all_tries c w)

-- So many turns are left from this state: with no start, end, freeze, thaw or callback under way they are the steps that are left, and one.
abbrev pub turns_left : Config → World → ℕ
turns_left c w = potential (start_room c w) (try_room c w) c w + 1

-- the most that a task has of the first number
abbrev pub most_steps : Config → ℕ
most_steps c = max (most_alone c) (6 * c.tasks + c.nodes + 34)

-- and of the changes and the steps of a start: those of a freeze
abbrev pub most_changes : Config → ℕ
most_changes c = 6 * (c.tasks * 7 + 1) + 9

-- and no more than these are left from any
abbrev pub most_turns : Config → ℕ
most_turns c = c.tasks * most_steps c + (c.tasks * most_changes c + 1) * (c.tasks * (2 * c.processors + 2) + 1)
