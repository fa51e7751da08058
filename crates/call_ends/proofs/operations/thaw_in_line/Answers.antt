-- the thaw stands where a line goes on
use Rattle.call_ends.proofs.Prelude.{asking_from, led_from, led_unasked, refl, stands_from}
use Rattle.call_ends.proofs.Reopening.{thaw_stands}
use Rattle.freeze_levels.specs.declared.thaws.ThawStep.TheVariants.{LoadsStage, SetsUnfrozen}
use Rattle.call_ends.proofs.operations.thaw_in_line.Goals as goal

pub thaw_locked-requires : goal.thaw_locked-requires
thaw_locked-requires g c =
    stands_from (thaw_stands c.args.thaw 0 LoadsStage c.in-LoadsStage.is) c.requires

pub returns-in-LoadsStage : goal.returns-in-LoadsStage
returns-in-LoadsStage g c =
    asking_from (thaw_stands c.args.thaw 0 LoadsStage c.in-LoadsStage.is) c.thaw_locked.ensures

pub reopen_all-requires : goal.reopen_all-requires
reopen_all-requires g c =
    stands_from (thaw_stands c.args.thaw 0 SetsUnfrozen c.in-SetsUnfrozen.is) c.requires

pub returns-in-SetsUnfrozen : goal.returns-in-SetsUnfrozen
returns-in-SetsUnfrozen g c =
    led_unasked (led_from (thaw_stands c.args.thaw 0 SetsUnfrozen c.in-SetsUnfrozen.is) c.reopen_all.ensures) refl
