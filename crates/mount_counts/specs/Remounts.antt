-- The order of steps of a remount of the superblock: which word a step touches and how, and what comes after it. Two steps are
-- decided by the answer of the file system.
use Rattle.access_model.specs.declared.{actions.Action.{Action, TheVariants.{Clean, SbRo, SbRw}}, errors.GateError.TheVariants.{Busy, Hook}}
use Rattle.access_model.specs.declared.replies.{Next.{Next, TheVariants.{Done, Go, Wait}}, Reply.TheVariants.Unit as UnitReply}
use Rattle.cpu_words.specs.{Hooks.HookAnswer, Sums.sum_taking, declared.events.Touch.{TheVariants.{And, Cas, Load, Or, Store}, Touch}}
use Rattle.cpu_words.specs.declared.names.WordName.TheVariants.{MountCount, MountFlags, Node, Remount as RemountWord, Removed, SbFlags, Stage, Umount}
use Rattle.cpu_words.specs.declared.{names.WordName.WordName, sums.{Sum.Sum, Taken.{Taken, TheVariants.{More, Total}}}}
use Rattle.std.specs.Prelude.{Bool, Err, None, Ok, Option, Some, false, if◌then◌else◌, nat_lt, not, true, ℕ, ◌+◌, ◌==◌}
use Rattle.mount_counts.specs.{Phases.has_flag, Sets.{lowest, no_mounts, with_mount, without_lowest}, declared.remounts.Remount.Remount}
use Rattle.mount_counts.specs.declared.remounts.RemountStep.{RemountStep, TheVariants.{ClearsHold, ClearsMark, ClearsRemount, GivesUp, LeavesHolds}}
use Rattle.mount_counts.specs.declared.remounts.RemountStep.TheVariants.{LoadsFlags, LoadsRemoved, LoadsRemovedAgain, LoadsStage, LoadsSuperblock}
use Rattle.mount_counts.specs.declared.remounts.RemountStep.TheVariants.{Locks, Releases, SetsHold, SetsReadOnly, SetsRemount, SetsWritable, Sums}
use Rattle.mount_counts.specs.declared.sets.MountSet.{MountSet}

-- remount: under `umount`, see that no file is removed, hold and sum each mount that isn't read-only, and see it again before `remount` is
-- set; then let them go, clear the dirty marks, and set the superblock's flag before `remount` is cleared
abbrev pub remount_next : Remount → RemountStep → HookAnswer → WordName × Touch
remount_next x Locks hook = (Umount, Cas 0 (x.task + 1))
remount_next x LoadsStage hook = (Stage, Load)
remount_next x LoadsSuperblock hook = (SbFlags, Load)
remount_next x SetsWritable (Ok answer) = (SbFlags, Store 0)
remount_next x SetsWritable (Err code) = (Umount, Store 0)
remount_next x LoadsRemoved hook = (Removed, Load)
remount_next x (LoadsFlags m held) hook = (MountFlags m, Load)
remount_next x (SetsHold m held) hook = (MountFlags m, Or 2)
remount_next x (Sums m held sum) hook = (MountCount m sum.words, Load)
remount_next x (LoadsRemovedAgain held) hook = (Removed, Load)
remount_next x (LeavesHolds held) hook = (MountFlags (lowest held), And 18446744073709551613)
remount_next x (SetsRemount held) hook = (RemountWord, Store 1)
remount_next x (ClearsHold held) hook = (MountFlags (lowest held), And 18446744073709551613)
remount_next x (GivesUp m held) hook = (MountFlags (lowest held), And 18446744073709551613)
remount_next x (ClearsMark n) hook = (Node n, And 18446744073709551611)
remount_next x SetsReadOnly (Ok answer) = (SbFlags, Store 1)
remount_next x SetsReadOnly (Err code) = (RemountWord, Store 0)
remount_next x ClearsRemount hook = (RemountWord, Store 0)
remount_next x (Releases answer) hook = (Umount, Store 0)

-- the same remount, with this step to come
abbrev pub at_remount : Remount → RemountStep → Remount
at_remount x step = record x { step = step }

-- the present state was found: asked for read-only or writable, found read-only or writable
abbrev pub remount_from : Bool → Bool → RemountStep
remount_from true true = Releases (Ok UnitReply)
remount_from true false = LoadsRemoved
remount_from false true = SetsWritable
remount_from false false = Releases (Ok UnitReply)

-- the loop over so many mounts is done with this one
abbrev pub past_mount : ℕ → ℕ → MountSet → RemountStep
past_mount mounts m held = if nat_lt (m + 1) mounts then LoadsFlags (m + 1) held else LoadsRemovedAgain held

-- with `remount` set, HOLD is still to be cleared at these mounts; then the dirty marks are
abbrev pub let_go : MountSet → RemountStep
let_go held = if held.bits == 0 then ClearsMark 1 else ClearsHold held

-- a file was found removed, and HOLD is still to be cleared at these mounts
abbrev pub leave_holds : MountSet → RemountStep
leave_holds held = if held.bits == 0 then Releases (Err Busy) else LeavesHolds held

-- the sum of this mount was not 0, and HOLD is still to be cleared at these mounts
abbrev pub give_up : ℕ → MountSet → RemountStep
give_up m held = if held.bits == 0 then Releases (Err Busy) else GivesUp m held

-- a sum goes on, or it is 0, or somebody was counted
abbrev pub remount_took : ℕ → ℕ → MountSet → Taken → RemountStep
remount_took mounts m held (More sum) = Sums m held sum
remount_took mounts m held (Total total) = if total == 0 then past_mount mounts m (with_mount held m) else give_up m (with_mount held m)

-- the step after one word more of a sum
abbrev pub remount_summed : Remount → ℕ → MountSet → Sum → ℕ → RemountStep
remount_summed x m held sum word = remount_took x.mounts m held (sum_taking sum word x.processors)

-- the mark of this node is cleared, of so many nodes
abbrev pub past_node : ℕ → ℕ → RemountStep
past_node nodes n = if nat_lt (n + 1) nodes then ClearsMark (n + 1) else SetsReadOnly

-- a node is cleaned where its mark, which is 4, was set
abbrev pub mark_cleared : ℕ → ℕ → Option Action
mark_cleared n found = if has_flag found 4 then Some (Clean n) else None

-- what comes after each step of a remount, in its own phases: `remount` stands from after the sums to after the superblock's flag
abbrev pub remount_after : Remount → RemountStep → ℕ → HookAnswer → Next Remount × Option Action
remount_after x Locks found hook = (if found == 0 then Go (at_remount x LoadsStage) else Wait (at_remount x Locks), None)
remount_after x LoadsStage found hook = (
  if found == 0 then Go (at_remount x LoadsSuperblock) else Go (at_remount x (Releases (Err Busy))),
  None,
)
remount_after x LoadsSuperblock found hook = (Go (at_remount x (remount_from x.read_only (not (found == 0)))), None)
remount_after x SetsWritable found (Ok answer) = (Go (at_remount x (Releases (Ok UnitReply))), Some SbRw)
remount_after x SetsWritable found (Err code) = (Done (Err (Hook code)), None)
remount_after x LoadsRemoved found hook = (
  if found == 0 then Go (at_remount x (LoadsFlags 0 no_mounts)) else Go (at_remount x (Releases (Err Busy))),
  None,
)
remount_after x (LoadsFlags m held) found hook = (
  if has_flag found 1 then Go (at_remount x (past_mount x.mounts m held)) else Go (at_remount x (SetsHold m held)),
  None,
)
remount_after x (SetsHold m held) found hook = (Go (at_remount x (Sums m held record { words = 0; total = 0 })), None)
remount_after x (Sums m held sum) found hook = (Go (at_remount x (remount_summed x m held sum found)), None)
remount_after x (LoadsRemovedAgain held) found hook = (
  if found == 0 then Go (at_remount x (SetsRemount held)) else Go (at_remount x (leave_holds held)),
  None,
)
remount_after x (LeavesHolds held) found hook = (Go (at_remount x (leave_holds (without_lowest held))), None)
remount_after x (SetsRemount held) found hook = (Go (at_remount x (let_go held)), Some SbRo)
remount_after x (ClearsHold held) found hook = (Go (at_remount x (let_go (without_lowest held))), None)
remount_after x (GivesUp m held) found hook = (Go (at_remount x (give_up m (without_lowest held))), None)
remount_after x (ClearsMark n) found hook = (Go (at_remount x (past_node x.nodes n)), mark_cleared n found)
remount_after x SetsReadOnly found (Ok answer) = (Go (at_remount x ClearsRemount), None)
remount_after x SetsReadOnly found (Err code) = (Go (at_remount x (Releases (Err (Hook code)))), Some SbRw)
remount_after x ClearsRemount found hook = (Go (at_remount x (Releases (Ok UnitReply))), None)
remount_after x (Releases answer) found hook = (Done answer, None)
