-- The order of steps of a freeze of the superblock: which word a step touches and how, and what comes after it. Three steps are decided
-- by the answer of the file system.
use Rattle.access_model.specs.{Holders.{held_by, nobody, with_holder}, declared.actions.Action.{Action, TheVariants.{Hold, Stage as StageAction}}}
use Rattle.access_model.specs.declared.{actions.Holders.Holders, errors.GateError.TheVariants.{Busy, Hook}, replies.Next.Next}
use Rattle.access_model.specs.declared.replies.{Next.TheVariants.{Done, Go, Wait}, Reply.TheVariants.Unit as UnitReply}
use Rattle.cpu_words.specs.{Hooks.HookAnswer, declared.events.Touch.{TheVariants.{Cas, Load, Store}, Touch}}
use Rattle.cpu_words.specs.declared.names.WordName.{TheVariants.{Block, Holders as HoldersWord, SbFlags, Stage, Umount}, WordName}
use Rattle.node_words.specs.{Phases.{clear_after, clear_next}, declared.marks.ClearMarks.ClearMarks}
use Rattle.percpu_rwsem.specs.{SyncWords.on_exit, Transitions.{transition_after, transition_next}, Writers.{down_write_after, down_write_next}}
use Rattle.percpu_rwsem.specs.{Writers.{up_write_after, up_write_next}, declared.transitions.Transition.TheVariants.Loads}
use Rattle.percpu_rwsem.specs.declared.{transitions.TransitionNext.{TheVariants.{Made, More, Undefined}, TransitionNext}, writers.DownWrite.DownWrite}
use Rattle.percpu_rwsem.specs.declared.writers.{DownWriteStep.{DownWriteStep, TheVariants.Sums}, UpWrite.UpWrite}
use Rattle.std.specs.Prelude.{Err, None, Ok, Option, Some, if◌then◌else◌, true, ℕ, ◌+◌, ◌-◌, ◌==◌}
use Rattle.freeze_levels.specs.{Holders.{holders_in, word_of}, Levels.{closing, reopening}, declared.freezes.{Freeze.Freeze, FreezeStep.FreezeStep}}
use Rattle.freeze_levels.specs.declared.freezes.FreezeStep.TheVariants.{Cleans, Closes, CompletesReadOnly, GivesUp, Holds, LoadsHolders, LoadsStage}
use Rattle.freeze_levels.specs.declared.freezes.FreezeStep.TheVariants.{LoadsSuperblock, Locks, LocksAgain, LocksToUndo, Releases, Reopens}
use Rattle.freeze_levels.specs.declared.freezes.FreezeStep.TheVariants.{SetsComplete, SetsFs, SetsPageFault, SetsWrite, Undoes, Unlocks, Waits}
use Rattle.freeze_levels.specs.declared.hooks.HookKind.{HookKind, TheVariants.{FreezeFs, KeepWaiting, Sync}}

-- the hook whose answer a step reads
abbrev pub freeze_hook : FreezeStep → Option HookKind
freeze_hook SetsFs = Some Sync
freeze_hook SetsComplete = Some FreezeFs
freeze_hook (Waits d) = Some KeepWaiting
freeze_hook step = None

-- freeze: under `umount` store stage 1, and give it back while level 1 is closed; under `umount` again store stage 2, close level 2 and
-- clear the dirty marks; store 3 and close level 3; store 4, and its holder. Where a hook fails, store 0 and reopen the levels that are
-- closed. Where all is frozen already, store its holder beside the others. Where a sum finds somebody, the hook says whether to wait, which is
-- to sum again; else give the level up: clear its `block`, leave its rcu_sync, and under `umount` store 0 and reopen the levels below it
abbrev pub freeze_next : Freeze → FreezeStep → HookAnswer → WordName × Touch
freeze_next x Locks hook = (Umount, Cas 0 (x.task + 1))
freeze_next x LoadsStage hook = (Stage, Load)
freeze_next x LoadsHolders hook = (HoldersWord, Load)
freeze_next x (Holds beside) hook = (HoldersWord, Store (word_of (with_holder x.holder true beside)))
freeze_next x LoadsSuperblock hook = (SbFlags, Load)
freeze_next x CompletesReadOnly hook = (Stage, Store 4)
freeze_next x SetsWrite hook = (Stage, Store 1)
freeze_next x Unlocks hook = (Umount, Store 0)
freeze_next x (Closes d) hook = down_write_next d d.step
freeze_next x (Waits d) (Ok answer) = down_write_next d d.step
freeze_next x (Waits d) (Err code) = (Block d.level, Store 0)
freeze_next x (Undoes level transition code) hook = transition_next level transition
freeze_next x (LocksToUndo code) hook = (Umount, Cas 0 (x.task + 1))
freeze_next x (GivesUp level code) hook = (Stage, Store 0)
freeze_next x LocksAgain hook = (Umount, Cas 0 (x.task + 1))
freeze_next x SetsPageFault hook = (Stage, Store 2)
freeze_next x (Cleans marks) hook = clear_next marks
freeze_next x SetsFs (Ok answer) = (Stage, Store 3)
freeze_next x SetsFs (Err code) = (Stage, Store 0)
freeze_next x SetsComplete (Ok answer) = (Stage, Store 4)
freeze_next x SetsComplete (Err code) = (Stage, Store 0)
freeze_next x (Reopens u code) hook = up_write_next u u.step
freeze_next x (Releases answer) hook = (Umount, Store 0)

-- the same freeze, with this step to come
abbrev pub at_freeze : Freeze → FreezeStep → Freeze
at_freeze x step = record x { step = step }

-- `umount` was tried for, in this step: another step comes where it was free, and else the same one again
abbrev pub freeze_locked : Freeze → FreezeStep → ℕ → FreezeStep → Next Freeze
freeze_locked x again found step = if found == 0 then Go (at_freeze x step) else Wait (at_freeze x again)

-- the closing of a level that begins
abbrev pub freeze_closes : Freeze → ℕ → FreezeStep
freeze_closes x level = Closes (closing level x.tasks x.processors)

-- a level is closed, with so many nodes: after level 1 `umount` is taken again, after level 2 the marks are cleared from node 1 on, and
-- after level 3 the file system does its own part
abbrev pub level_closed : ℕ → ℕ → FreezeStep
level_closed level nodes =
    if level == 1 then LocksAgain else
    if level == 2 then Cleans record { node = 1; nodes = nodes } else
    SetsComplete

-- a down-write waits: where its sum found somebody, the hook is asked before the next one; other waits end by themselves
abbrev pub closing_waits : DownWrite → DownWriteStep → FreezeStep
closing_waits d (Sums sum) = Waits d
closing_waits d step = Closes d

-- what comes after a step of the closing of a level
abbrev pub after_closing : Freeze → ℕ → Next DownWrite → Next Freeze
after_closing x level (Go d) = Go (at_freeze x (Closes d))
after_closing x level (Wait d) = Wait (at_freeze x (closing_waits d d.step))
after_closing x level (Done answer) = Go (at_freeze x (level_closed level x.nodes))

-- what comes after the clearing of a mark: after the last one the file system is asked for its sync
abbrev pub after_clearing : Freeze → Next ClearMarks → Next Freeze
after_clearing x (Go marks) = Go (at_freeze x (Cleans marks))
after_clearing x (Wait marks) = Wait (at_freeze x (Cleans marks))
after_clearing x (Done answer) = Go (at_freeze x SetsFs)

-- a hook failed with this code, and the levels up to this one are still to be reopened, the highest first
abbrev pub freeze_fails : ℕ → ℕ → FreezeStep
freeze_fails level code = if level == 0 then Releases (Err (Hook code)) else Reopens (reopening level) code

-- what comes after a step of the reopening of a level: after the last one the level below it is reopened
abbrev pub after_reopening : Freeze → ℕ → ℕ → Next UpWrite → Next Freeze
after_reopening x level code (Go u) = Go (at_freeze x (Reopens u code))
after_reopening x level code (Wait u) = Wait (at_freeze x (Reopens u code))
after_reopening x level code (Done answer) = Go (at_freeze x (freeze_fails (level - 1) code))

-- a level is given up, with its rcu_sync left: `umount` is taken for level 1, and owned at the others
abbrev pub freeze_undone : ℕ → ℕ → FreezeStep
freeze_undone level code = if level == 1 then LocksToUndo code else GivesUp level code

-- what comes after a step by which the rcu_sync of a level that is given up is left
abbrev pub after_undoing : Freeze → ℕ → ℕ → TransitionNext → Next Freeze
after_undoing x level code (More transition) = Go (at_freeze x (Undoes level transition code))
after_undoing x level code Undefined = Go (at_freeze x (Undoes level Loads code))
after_undoing x level code (Made state) = Go (at_freeze x (freeze_undone level code))

-- a stage was stored, which is an action, and this step comes
abbrev pub stage_stored : Freeze → ℕ → FreezeStep → Next Freeze × Option Action
stage_stored x stage step = (Go (at_freeze x step), Some (StageAction stage))

-- stage 3 was stored, or 0 where `sync` failed: the levels 1 and 2 are closed
abbrev pub freeze_synced : Freeze → HookAnswer → Next Freeze × Option Action
freeze_synced x (Ok answer) = stage_stored x 3 (freeze_closes x 3)
freeze_synced x (Err code) = stage_stored x 0 (freeze_fails 2 code)

-- stage 4 was stored, or 0 where `freeze_fs` failed: all levels are closed
abbrev pub freeze_completed : Freeze → HookAnswer → Next Freeze × Option Action
freeze_completed x (Ok answer) = stage_stored x 4 (Holds nobody)
freeze_completed x (Err code) = stage_stored x 0 (freeze_fails 3 code)

-- who holds a freeze was loaded, with all frozen: where its own holder does, it is refused
abbrev pub found_holders : Freeze → Holders → FreezeStep
found_holders x held = if held_by held x.holder then Releases (Err Busy) else Holds held

-- its holder was stored
abbrev pub held_now : Freeze → Next Freeze × Option Action
held_now x = (Go (at_freeze x (Releases (Ok UnitReply))), Some (Hold x.holder))

-- a step of the closing of a level, which found this
abbrev pub freeze_closed : Freeze → DownWrite → ℕ → Next Freeze × Option Action
freeze_closed x d found = (after_closing x d.level (down_write_after d d.step found).0, (down_write_after d d.step found).1)

-- the first step of another sum, or the one by which the level is given up: nobody has passed it, so that it is no action
abbrev pub freeze_waited : Freeze → DownWrite → ℕ → HookAnswer → Next Freeze × Option Action
freeze_waited x d found (Ok answer) = freeze_closed x d found
freeze_waited x d found (Err code) = (Go (at_freeze x (Undoes d.level Loads code)), None)

-- what comes after each step of a freeze, in its own phases
abbrev pub freeze_after : Freeze → FreezeStep → ℕ → HookAnswer → Next Freeze × Option Action
freeze_after x Locks found hook = (freeze_locked x Locks found LoadsStage, None)
freeze_after x LoadsStage found hook = (
  if found == 0 then Go (at_freeze x LoadsSuperblock) else
      if found == 4 then Go (at_freeze x LoadsHolders) else
      Go (at_freeze x (Releases (Err Busy))),
  None,
)
freeze_after x LoadsHolders found hook = (Go (at_freeze x (found_holders x (holders_in found))), None)
freeze_after x (Holds beside) found hook = held_now x
freeze_after x LoadsSuperblock found hook = (
  if found == 0 then Go (at_freeze x SetsWrite) else Go (at_freeze x CompletesReadOnly),
  None,
)
freeze_after x CompletesReadOnly found hook = stage_stored x 4 (Holds nobody)
freeze_after x SetsWrite found hook = stage_stored x 1 Unlocks
freeze_after x Unlocks found hook = (Go (at_freeze x (freeze_closes x 1)), None)
freeze_after x (Closes d) found hook = freeze_closed x d found
freeze_after x (Waits d) found hook = freeze_waited x d found hook
freeze_after x (Undoes level transition code) found hook = (after_undoing x level code (transition_after on_exit transition found), None)
freeze_after x (LocksToUndo code) found hook = (freeze_locked x (LocksToUndo code) found (GivesUp 1 code), None)
freeze_after x (GivesUp level code) found hook = stage_stored x 0 (freeze_fails (level - 1) code)
freeze_after x LocksAgain found hook = (freeze_locked x LocksAgain found SetsPageFault, None)
freeze_after x SetsPageFault found hook = stage_stored x 2 (freeze_closes x 2)
freeze_after x (Cleans marks) found hook = (after_clearing x (clear_after marks found).0, (clear_after marks found).1)
freeze_after x SetsFs found hook = freeze_synced x hook
freeze_after x SetsComplete found hook = freeze_completed x hook
freeze_after x (Reopens u code) found hook =
    (after_reopening x u.level code (up_write_after u u.step found).0, (up_write_after u u.step found).1)
freeze_after x (Releases answer) found hook = (Done answer, None)
