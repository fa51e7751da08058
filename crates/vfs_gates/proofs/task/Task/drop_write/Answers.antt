-- what was begun at once is finished
use Rattle.vfs_gates.proofs.task.Task.drop_write.Goals as goal

pub returns : goal.returns
returns c = c.finish_begun.ensures _ _ c.perform_at_once-begun.ensures
