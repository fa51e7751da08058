-- the remount stands where its line goes on
use Rattle.call_ends.proofs.Prelude.{asking_from, stands_from}
use Rattle.mount_counts.specs.declared.remounts.RemountStep.TheVariants.{LoadsStage}
use Rattle.call_ends.proofs.Remounting.{remount_stands}
use Rattle.call_ends.proofs.operations.remount_in_line.Goals as goal

pub remount_locked-requires : goal.remount_locked-requires
remount_locked-requires g c = stands_from (remount_stands c.args.remount LoadsStage c.in-LoadsStage.is) c.requires

pub returns-in-LoadsStage : goal.returns-in-LoadsStage
returns-in-LoadsStage g c = asking_from (remount_stands c.args.remount LoadsStage c.in-LoadsStage.is) c.remount_locked.ensures
