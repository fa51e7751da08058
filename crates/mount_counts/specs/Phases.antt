-- The order of steps of want, drop and change: which word a step touches and how, and what comes after it.
use Rattle.access_model.specs.{Replies.map_next, declared.actions.Action.{Action, TheVariants.{Grant, MountRo, MountRw, Return}}}
use Rattle.access_model.specs.declared.{actions.Gate.TheVariants.Mount, errors.GateError.TheVariants.{Again, Busy, ReadOnly}, replies.Next.Next}
use Rattle.access_model.specs.declared.replies.{Next.TheVariants.{Done, Go, Wait}, Reply.TheVariants.Unit as UnitReply}
use Rattle.cpu_words.specs.{Hooks.HookAnswer, Sums.sum_taking, declared.events.Touch.{TheVariants.{Add, And, Cas, Load, Or, Store, Sub}, Touch}}
use Rattle.cpu_words.specs.declared.{names.WordName.{TheVariants.{MountCount, MountFlags, Remount, SbFlags, Umount}, WordName}, sums.Sum.Sum}
use Rattle.cpu_words.specs.declared.sums.Taken.{Taken, TheVariants.{More, Total}}
use Rattle.std.specs.Prelude.{Bool, Err, None, Ok, Option, Some, bit_and, false, if◌then◌else◌, not, true, ℕ, ◌+◌, ◌==◌}
use Rattle.mount_counts.specs.declared.phases.{Change.Change, ChangeStep.{ChangeStep, TheVariants.{ClearsHold, ClearsReadOnly, LoadsFlags}}}
use Rattle.mount_counts.specs.declared.phases.ChangeStep.TheVariants.{LoadsSuperblock as LoadsSb, Locks, Releases, SetsHold, SetsReadOnly, Sums}
use Rattle.mount_counts.specs.declared.phases.{MountPhase.{MountPhase, TheVariants.{Change as Changes, Drop as Drops, Want as Wants}}, Want.Want}
use Rattle.mount_counts.specs.declared.phases.WantStep.TheVariants.{CountsDown, CountsUp, LoadsHold, LoadsReadOnly, LoadsRemount, LoadsSuperblock}
use Rattle.mount_counts.specs.declared.phases.WantStep.{WantStep}

-- a flag of a flags word is set: READONLY is 1, HOLD is 2
abbrev pub has_flag : ℕ → ℕ → Bool
has_flag flags flag = bit_and flags flag == flag

-- want: count up, wait while HOLD is set, ask whether the mount is read-only, and take the count back where it is
abbrev pub want_next : Want → WantStep → WordName × Touch
want_next w CountsUp = (MountCount w.mount w.cpu, Add 1)
want_next w LoadsHold = (MountFlags w.mount, Load)
want_next w LoadsRemount = (Remount, Load)
want_next w LoadsReadOnly = (MountFlags w.mount, Load)
want_next w LoadsSuperblock = (SbFlags, Load)
want_next w (CountsDown refusal) = (MountCount w.mount w.cpu, Sub 1)

-- the same want, with this step to come
abbrev pub at_want : Want → WantStep → Want
at_want w step = record w { step = step }

-- HOLD was found set: a want that waits looks again, another takes its count back
abbrev pub hold_found : Want → Bool → Next Want
hold_found w true = Wait (at_want w LoadsHold)
hold_found w false = Go (at_want w (CountsDown Again))

-- what comes after each step of a want, in the want's own phases: it is granted by the last of its questions
abbrev pub want_after : Want → WantStep → ℕ → Next Want × Option Action
want_after w CountsUp found = (Go (at_want w LoadsHold), None)
want_after w LoadsHold found = (if has_flag found 2 then hold_found w w.wait else Go (at_want w LoadsRemount), None)
want_after w LoadsRemount found = (if found == 0 then Go (at_want w LoadsReadOnly) else Go (at_want w (CountsDown ReadOnly)), None)
want_after w LoadsReadOnly found = (if has_flag found 1 then Go (at_want w (CountsDown ReadOnly)) else Go (at_want w LoadsSuperblock), None)
want_after w LoadsSuperblock found = (
  if found == 0 then Done (Ok UnitReply) else Go (at_want w (CountsDown ReadOnly)),
  if found == 0 then Some (Grant (Mount w.mount)) else None,
)
want_after w (CountsDown refusal) found = (Done (Err refusal), None)

-- change: under `umount`, hold writers and sum them before the flag is set
abbrev pub change_next : Change → ChangeStep → WordName × Touch
change_next x Locks = (Umount, Cas 0 (x.task + 1))
change_next x LoadsFlags = (MountFlags x.mount, Load)
change_next x LoadsSb = (SbFlags, Load)
change_next x ClearsReadOnly = (MountFlags x.mount, And 18446744073709551614)
change_next x SetsHold = (MountFlags x.mount, Or 2)
change_next x (Sums sum) = (MountCount x.mount sum.words, Load)
change_next x SetsReadOnly = (MountFlags x.mount, Or 1)
change_next x (ClearsHold answer) = (MountFlags x.mount, And 18446744073709551613)
change_next x (Releases answer) = (Umount, Store 0)

-- the same change, with this step to come
abbrev pub at_change : Change → ChangeStep → Change
at_change x step = record x { step = step }

-- `umount` was found taken: a change that waits tries again
abbrev pub lock_failed : Change → Bool → Next Change
lock_failed x true = Wait (at_change x Locks)
lock_failed x false = Done (Err Again)

-- the present state was found: asked for read-only or writable, found read-only or writable
abbrev pub step_between : Bool → Bool → ChangeStep
step_between true true = Releases (Ok UnitReply)
step_between true false = SetsHold
step_between false true = ClearsReadOnly
step_between false false = Releases (Ok UnitReply)

-- the step after the present state was found
abbrev pub change_from : Change → Bool → ChangeStep
change_from x read_only = step_between x.read_only read_only

-- the sum is 0, or somebody was counted
abbrev pub step_summed : Taken → ChangeStep
step_summed (More sum) = Sums sum
step_summed (Total total) = if total == 0 then SetsReadOnly else ClearsHold (Err Busy)

-- the step after one word more of the sum
abbrev pub change_summed : Change → Sum → ℕ → ChangeStep
change_summed x sum word = step_summed (sum_taking sum word x.processors)

-- what comes after each step of a change, in the change's own phases: HOLD stands from before the sum to the end
abbrev pub change_after : Change → ChangeStep → ℕ → Next Change × Option Action
change_after x Locks found = (if found == 0 then Go (at_change x LoadsFlags) else lock_failed x x.wait, None)
change_after x LoadsFlags found = (if has_flag found 1 then Go (at_change x (change_from x true)) else Go (at_change x LoadsSb), None)
change_after x LoadsSb found = (Go (at_change x (change_from x (not (found == 0)))), None)
change_after x ClearsReadOnly found = (Go (at_change x (Releases (Ok UnitReply))), Some (MountRw x.mount))
change_after x SetsHold found = (Go (at_change x (Sums record { words = 0; total = 0 })), None)
change_after x (Sums sum) found = (Go (at_change x (change_summed x sum found)), None)
change_after x SetsReadOnly found = (Go (at_change x (ClearsHold (Ok UnitReply))), Some (MountRo x.mount))
change_after x (ClearsHold answer) found = (Go (at_change x (Releases answer)), None)
change_after x (Releases answer) found = (Done answer, None)

-- the word and the touch of the next step
abbrev pub next : MountPhase → HookAnswer → WordName × Touch
next (Wants w) hook = want_next w w.step
next (Drops m p) hook = (MountCount m p, Sub 1)
next (Changes x) hook = change_next x x.step

-- what comes after the step that found this value, and the action that the step adds
abbrev pub after : MountPhase → ℕ → HookAnswer → Next MountPhase × Option Action
after (Wants w) found hook = (map_next Wants (want_after w w.step found).0, (want_after w w.step found).1)
after (Drops m p) found hook = (Done (Ok UnitReply), Some (Return (Mount m)))
after (Changes x) found hook = (map_next Changes (change_after x x.step found).0, (change_after x x.step found).1)
