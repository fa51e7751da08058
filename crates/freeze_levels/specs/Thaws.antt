-- The order of steps of a thaw of the superblock: which word a step touches and how, and what comes after it. One step is decided by
-- the answer of the file system.
use Rattle.access_model.specs.{Holders.{held_by, is_unheld, with_holder}, declared.actions.Action.{Action, TheVariants.{Leave, Stage as StageAction}}}
use Rattle.access_model.specs.declared.{actions.Holders.Holders, errors.GateError.TheVariants.{Hook, Invalid}, replies.Next.Next}
use Rattle.access_model.specs.declared.replies.{Next.TheVariants.{Done, Go, Wait}, Reply.TheVariants.Unit as UnitReply}
use Rattle.cpu_words.specs.{Hooks.HookAnswer, declared.events.Touch.{TheVariants.{Cas, Load, Store}, Touch}}
use Rattle.cpu_words.specs.declared.names.WordName.{TheVariants.{Holders as HoldersWord, SbFlags, Stage, Umount}, WordName}
use Rattle.percpu_rwsem.specs.{Writers.{up_write_after, up_write_next}, declared.writers.UpWrite.UpWrite}
use Rattle.std.specs.Prelude.{Err, None, Ok, Option, Some, false, if◌then◌else◌, ℕ, ◌+◌, ◌-◌, ◌==◌}
use Rattle.freeze_levels.specs.{Holders.{holders_in, word_of}, Levels.reopening, declared.hooks.HookKind.{HookKind, TheVariants.UnfreezeFs}}
use Rattle.freeze_levels.specs.declared.thaws.{Thaw.Thaw, ThawStep.ThawStep}
use Rattle.freeze_levels.specs.declared.thaws.ThawStep.TheVariants.{Leaves, LeavesLast, LeavesReadOnly, LoadsHolders, LoadsStage, LoadsSuperblock}
use Rattle.freeze_levels.specs.declared.thaws.ThawStep.TheVariants.{Locks, Releases, Reopens, SetsUnfrozen, UnfreezesReadOnly}

-- the hook whose answer a step reads
abbrev pub thaw_hook : ThawStep → Option HookKind
thaw_hook LeavesLast = Some UnfreezeFs
thaw_hook step = None

-- thaw: under `umount`, and at stage 4 alone, store that its holder holds no freeze; where nobody else does, store stage 0 then, and
-- reopen the levels; where the hook fails, all stays frozen
abbrev pub thaw_next : Thaw → ThawStep → HookAnswer → WordName × Touch
thaw_next x Locks hook = (Umount, Cas 0 (x.task + 1))
thaw_next x LoadsStage hook = (Stage, Load)
thaw_next x LoadsSuperblock hook = (SbFlags, Load)
thaw_next x LoadsHolders hook = (HoldersWord, Load)
thaw_next x (Leaves held) hook = (HoldersWord, Store (word_of (with_holder x.holder false held)))
thaw_next x LeavesReadOnly hook = (HoldersWord, Store 0)
thaw_next x UnfreezesReadOnly hook = (Stage, Store 0)
thaw_next x LeavesLast (Ok answer) = (HoldersWord, Store 0)
thaw_next x LeavesLast (Err code) = (Umount, Store 0)
thaw_next x SetsUnfrozen hook = (Stage, Store 0)
thaw_next x (Reopens u) hook = up_write_next u u.step
thaw_next x (Releases answer) hook = (Umount, Store 0)

-- the same thaw, with this step to come
abbrev pub at_thaw : Thaw → ThawStep → Thaw
at_thaw x step = record x { step = step }

-- the levels up to this one are still to be reopened, the highest first
abbrev pub thaw_opens : ℕ → ThawStep
thaw_opens level = if level == 0 then Releases (Ok UnitReply) else Reopens (reopening level)

-- what comes after a step of the reopening of a level: after the last one the level below it is reopened
abbrev pub after_opening : Thaw → ℕ → Next UpWrite → Next Thaw
after_opening x level (Go u) = Go (at_thaw x (Reopens u))
after_opening x level (Wait u) = Wait (at_thaw x (Reopens u))
after_opening x level (Done answer) = Go (at_thaw x (thaw_opens (level - 1)))

-- who holds a freeze was loaded: its own holder has to, and where another one does too, all stays frozen
abbrev pub thaw_finds : Thaw → Holders → ThawStep
thaw_finds x held =
    if held_by held x.holder then (if is_unheld (with_holder x.holder false held) then LoadsSuperblock else Leaves held)
    else Releases (Err Invalid)

-- it was stored that its holder holds no freeze, and this step comes
abbrev pub thaw_leaves : Thaw → ThawStep → Next Thaw × Option Action
thaw_leaves x step = (Go (at_thaw x step), Some (Leave x.holder))

-- it was stored that nobody holds a freeze, or `umount` was given back where `unfreeze_fs` failed
abbrev pub thawed : Thaw → HookAnswer → Next Thaw × Option Action
thawed x (Ok answer) = thaw_leaves x SetsUnfrozen
thawed x (Err code) = (Done (Err (Hook code)), None)

-- what comes after each step of a thaw, in its own phases
abbrev pub thaw_after : Thaw → ThawStep → ℕ → HookAnswer → Next Thaw × Option Action
thaw_after x Locks found hook = (if found == 0 then Go (at_thaw x LoadsStage) else Wait (at_thaw x Locks), None)
thaw_after x LoadsStage found hook = (
  if found == 4 then Go (at_thaw x LoadsHolders) else Go (at_thaw x (Releases (Err Invalid))),
  None,
)
thaw_after x LoadsHolders found hook = (Go (at_thaw x (thaw_finds x (holders_in found))), None)
thaw_after x (Leaves held) found hook = thaw_leaves x (Releases (Ok UnitReply))
thaw_after x LoadsSuperblock found hook = (
  if found == 0 then Go (at_thaw x LeavesLast) else Go (at_thaw x LeavesReadOnly),
  None,
)
thaw_after x LeavesReadOnly found hook = thaw_leaves x UnfreezesReadOnly
thaw_after x UnfreezesReadOnly found hook = (Go (at_thaw x (Releases (Ok UnitReply))), Some (StageAction 0))
thaw_after x LeavesLast found hook = thawed x hook
thaw_after x SetsUnfrozen found hook = (Go (at_thaw x (thaw_opens 3)), Some (StageAction 0))
thaw_after x (Reopens u) found hook = (after_opening x u.level (up_write_after u u.step found).0, (up_write_after u u.step found).1)
thaw_after x (Releases answer) found hook = (Done answer, None)
