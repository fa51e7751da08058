-- it tells of the reply whether the operation was done
use Rattle.vfs_gates.proofs.Prelude.{RemountSb, unit_of}
use Rattle.gate_steps.proofs.call_events.Asking.{was_told_asking}
use Rattle.vfs_gates.proofs.task.Task.remount_sb.Goals as goal

pub returns : goal.returns
returns g c =
    was_told_asking g.H.TimedHooks.answers unit_of (RemountSb c.args.read_only) _ _ _ _ _ _ c.perform_waiting.ensures c.outcome.ensures
