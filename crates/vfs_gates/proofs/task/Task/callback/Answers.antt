-- it tells of the reply whether a callback ran
use Rattle.gate_steps.{proofs.call_events.Running.was_told, specs.call_events.Runs.ran_of}
use Rattle.gate_world.specs.declared.operations.Op.TheVariants.{Callback}
use Rattle.vfs_gates.proofs.CallingBack.{replied_ran}
use Rattle.vfs_gates.proofs.task.Task.callback.Goals as goal

pub returns : goal.returns
returns g c =
    was_told ran_of (Callback c.args.level) _ _ c.perform_waiting.result c.ran.result c.perform_waiting.ensures.replies c.ran.ensures

pub ran-requires : goal.ran-requires
ran-requires g c = replied_ran c.args.level _ _ c.perform_waiting.result c.perform_waiting.ensures.replies
