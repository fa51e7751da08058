use Rattle.progress_laws.proofs.WaitFree.{wait_free}
use Rattle.progress_laws.proofs.calls_that_wait_for_nobody_are_wait_free.Goals as goal

pub returns : goal.returns
returns start = wait_free
