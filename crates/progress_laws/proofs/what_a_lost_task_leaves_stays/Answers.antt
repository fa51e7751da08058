use Rattle.progress_laws.proofs.Prelude.{whole_rule, world_after}
use Rattle.progress_laws.proofs.blocked.LostStays.{remains_for_ever}
use Rattle.progress_laws.proofs.what_a_lost_task_leaves_stays.Goals as goal

pub returns : goal.returns
returns start c lim lost entries = remains_for_ever c lim lost (world_after c entries) (whole_rule c lim entries)
