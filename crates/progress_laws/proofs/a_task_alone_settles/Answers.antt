use Rattle.progress_laws.proofs.Prelude.{whole_rule, world_after}
use Rattle.progress_laws.proofs.alone.Alone.{settles_alone}
use Rattle.progress_laws.proofs.a_task_alone_settles.Goals as goal

pub returns : goal.returns
returns start c lim entries = settles_alone c lim (world_after c entries) (whole_rule c lim entries)
