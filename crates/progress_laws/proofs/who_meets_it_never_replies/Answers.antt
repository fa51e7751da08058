use Rattle.progress_laws.proofs.Prelude.{whole_rule, world_after}
use Rattle.progress_laws.proofs.blocked.NeverReplies.{never_replies}
use Rattle.progress_laws.proofs.who_meets_it_never_replies.Goals as goal

pub returns : goal.returns
returns start c lim lost entries = never_replies c lim lost (world_after c entries) (whole_rule c lim entries)
