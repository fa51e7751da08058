-- Worked executions in which an operation is kept, by computing: what an idle task keeps, and what a frozen file system does.
use Rattle.std.proofs.Common.{List, Some, [], arith, refl, true, ◌++◌, ◌∷◌, ◌≡◌}
use Rattle.{access_model.specs.declared.actions.{Holder.Holder, Kind.Kind}, composite_ops.specs.declared.file_closes.phases.ClosePhase.ClosePhase}
use Rattle.gate_schedules.specs.operations.Progress.{AFreezeIsKept, CloseIsBlocked, LockIsBlocked, StartIsBlocked}
use Rattle.gate_world.specs.{Worlds.{opening, run}, declared.{entries.Entry.{Entry, TheVariants.Begins}, operations.Op.Op, work.Phase.Phase}}
use Rattle.percpu_rwsem.specs.declared.readers.{DownRead.DownRead, DownReadStep.DownReadStep}
use Rattle.test_schedules.{proofs.Rows.freezes, specs.Schedules.{small, steps}}

-- a freeze beside an idle task inside level 1
abbrev beside_idle : List Entry
beside_idle = Begins 0 (Op.Start 1 0 true) ∷ steps 4 0 ++ (Begins 1 (Op.Freeze Holder.User) ∷ steps 14 1)

-- it is kept
idle_keeps : AFreezeIsKept small (run small opening beside_idle)
idle_keeps = (1, omega arith, _, refl, (1, omega arith, omega arith, (0, omega arith, refl, refl)))

-- a start that waits where all is frozen, after a step by which it found the level closed
abbrev behind_freeze : List Entry
behind_freeze = freezes ++ (Begins 1 (Op.Start 1 0 true) ∷ steps 6 1)

abbrev behind : DownRead
behind = record { level = 1; cpu = 0; task = 1; wait = true; step = DownReadStep.EntersSection }

behind_waits : ((run small opening behind_freeze).views 1).phase ≡ Some (Phase.DownReads behind)
behind_waits = refl

behind_kept : StartIsBlocked (run small opening behind_freeze) behind
behind_kept = (refl, refl, refl)

-- a change behind a freeze that an idle task keeps inside level 2
abbrev behind_lock : List Entry
behind_lock = Begins 0 (Op.Start 2 0 true) ∷ steps 4 0 ++ (Begins 1 (Op.Freeze Holder.User) ∷ steps 24 1 ++ (Begins 2 (Op.ChangeMount 0 true true) ∷ steps 1 2))

lock_kept : LockIsBlocked small (run small opening behind_lock)
lock_kept = (1, omega arith, refl, (omega arith, (2, omega arith, omega arith, (0, omega arith, refl, refl))))

-- a last close that waits, where all is frozen: the file is made, opened by another task and removed before
abbrev last_close : List Entry
last_close =
    Begins 0 (Op.WantWrite 0 0) ∷ steps 9 0 ++ (Begins 0 (Op.Create 0 Kind.File) ∷ steps 4 0 ++
    (Begins 1 (Op.Open 1) ∷ steps 2 1 ++ (Begins 0 (Op.Remove 1) ∷ steps 4 0 ++ (Begins 0 (Op.DropWrite 0 0) ∷ steps 2 0 ++
    (Begins 0 (Op.Freeze Holder.User) ∷ steps 43 0 ++ (Begins 1 (Op.Close 1 0 true) ∷ []))))))

-- it is kept before its first step, by what it is to find, and goes inside the level as a start does
close_kept : CloseIsBlocked (run small opening last_close) (ClosePhase.LoadsFile record { file = 1; cpu = 0; task = 1; wait = true })
close_kept = (refl, refl, refl)

close_stays : StartIsBlocked (run small opening (last_close ++ steps 3 1)) record { level = 3; cpu = 0; task = 1; wait = true; step = DownReadStep.CountsUpSlow }
close_stays = (refl, refl, refl)
