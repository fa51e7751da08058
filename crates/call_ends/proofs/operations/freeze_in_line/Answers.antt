-- the freeze stands where a line goes on
use Rattle.call_ends.proofs.Prelude.{asking_from, led_from, led_unasked, refl, stands_from}
use Rattle.call_ends.proofs.Closing.{stands_at_step}
use Rattle.freeze_levels.specs.declared.freezes.FreezeStep.TheVariants.{Closes, Holds, LoadsStage, SetsPageFault}
use Rattle.call_ends.proofs.operations.freeze_in_line.Goals as goal

pub freeze_locked-requires : goal.freeze_locked-requires
freeze_locked-requires g c =
    stands_from (stands_at_step c.args.freeze LoadsStage c.in-LoadsStage.is) c.requires

pub returns-in-LoadsStage : goal.returns-in-LoadsStage
returns-in-LoadsStage g c =
    asking_from (stands_at_step c.args.freeze LoadsStage c.in-LoadsStage.is) c.freeze_locked.ensures

pub go_on_level-requires : goal.go_on_level-requires
go_on_level-requires g c =
    stands_from (stands_at_step c.args.freeze (Closes c.in-Closes.write) c.in-Closes.is) c.requires

pub returns-in-Closes : goal.returns-in-Closes
returns-in-Closes g c =
    asking_from (stands_at_step c.args.freeze (Closes c.in-Closes.write) c.in-Closes.is) c.go_on_level.ensures

pub close_second-requires : goal.close_second-requires
close_second-requires g c =
    stands_from (stands_at_step c.args.freeze SetsPageFault c.in-SetsPageFault.is) c.requires

pub returns-in-SetsPageFault : goal.returns-in-SetsPageFault
returns-in-SetsPageFault g c =
    asking_from (stands_at_step c.args.freeze SetsPageFault c.in-SetsPageFault.is) c.close_second.ensures

pub end_freeze-requires : goal.end_freeze-requires
end_freeze-requires g c =
    stands_from (stands_at_step c.args.freeze (Holds c.in-Holds.beside) c.in-Holds.is) c.requires

pub returns-in-Holds : goal.returns-in-Holds
returns-in-Holds g c =
    led_unasked (led_from (stands_at_step c.args.freeze (Holds c.in-Holds.beside) c.in-Holds.is) c.end_freeze.ensures) refl
