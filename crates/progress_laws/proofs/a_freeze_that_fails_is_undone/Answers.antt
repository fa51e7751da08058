use Rattle.progress_laws.proofs.Undone.{fails_undone}
use Rattle.progress_laws.proofs.a_freeze_that_fails_is_undone.Goals as goal

pub returns : goal.returns
returns start c lim entries = fails_undone c lim entries
