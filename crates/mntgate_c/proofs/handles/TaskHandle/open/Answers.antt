use Rattle.std.proofs.Common.{subst, sym}
use Rattle.vfs_gates.specs.{Ended.HasOpeningWords, TaskStates.SeatedTask}
use Rattle.mntgate_c.proofs.handles.TaskHandle.open.Goals as goal

-- the handle has the task of the block
pub returns-clause-words : goal.returns-clause-words
returns-clause-words c = subst (λ (s : SeatedTask). HasOpeningWords s.config s.items) (sym c.put.ensures.1) c.in_ok-open.ensures.words
