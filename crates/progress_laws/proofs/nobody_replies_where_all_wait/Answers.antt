use Rattle.progress_laws.proofs.Prelude.{whole_rule, world_after}
use Rattle.progress_laws.proofs.blocked.NobodyReplies.{nobody_replies}
use Rattle.progress_laws.proofs.nobody_replies_where_all_wait.Goals as goal

pub returns : goal.returns
returns start c lim lost entries = nobody_replies c lim lost (world_after c entries) (whole_rule c lim entries)
