use Rattle.vfs_gates.proofs.call_laws.Dropped.{step_meets}
use Rattle.vfs_gates.proofs.laws.progress.who_meets_a_dropped_task_has_no_reply.Goals as goal

pub returns : goal.returns
returns c = step_meets
