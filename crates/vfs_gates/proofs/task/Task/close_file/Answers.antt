-- it tells of the reply whether the operation was done
use Rattle.vfs_gates.proofs.Prelude.{Close, true, unit_of}
use Rattle.gate_steps.proofs.call_events.Running.{was_told}
use Rattle.vfs_gates.proofs.task.Task.close_file.Goals as goal

pub returns : goal.returns
returns g c =
    was_told unit_of (Close c.args.file c.args.cpu true) _ _ c.perform_waiting.result c.outcome.result c.perform_waiting.ensures.replies c.outcome.ensures
