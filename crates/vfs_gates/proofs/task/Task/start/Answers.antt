-- what was begun at once is finished
use Rattle.vfs_gates.proofs.task.Task.start.Goals as goal

pub returns : goal.returns
returns g c = c.finish_begun_waiting.ensures _ _ c.perform_at_once-begun.ensures
