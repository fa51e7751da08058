use Rattle.progress_laws.proofs.Prelude.{whole_rule, world_after}
use Rattle.progress_laws.proofs.alone.FirstReply.{first_reply}
use Rattle.progress_laws.proofs.the_first_reply_is_near_beside_lost_tasks.Goals as goal

pub returns : goal.returns
returns start c lim lost entries = first_reply c lim lost (world_after c entries) (whole_rule c lim entries)
