use Rattle.progress_laws.proofs.Prelude.{whole_rule, world_after}
use Rattle.progress_laws.proofs.rounds.Settling.{settles_within}
use Rattle.progress_laws.proofs.the_others_settle_without_lost_tasks.Goals as goal

pub returns : goal.returns
returns start c lim lost entries = settles_within c lim lost (world_after c entries) (whole_rule c lim entries)
