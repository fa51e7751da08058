-- it tells of the reply whether the operation was done
use Rattle.vfs_gates.proofs.Prelude.{unit_of}
use Rattle.{gate_steps.proofs.call_events.Asking.was_told_asking, gate_world.specs.declared.operations.Op.TheVariants.Thaw as ThawOp}
use Rattle.vfs_gates.proofs.task.Task.thaw.Goals as goal

pub returns : goal.returns
returns g c =
    was_told_asking g.H.TimedHooks.answers unit_of (ThawOp c.args.holder) _ _ _ _ _ _ c.perform_waiting.ensures c.outcome.ensures
