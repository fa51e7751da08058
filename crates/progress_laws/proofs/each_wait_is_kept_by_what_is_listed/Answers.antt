use Rattle.progress_laws.proofs.Prelude.{whole_rule, world_after}
use Rattle.progress_laws.proofs.blocked.Blame.{each_is_blocked}
use Rattle.progress_laws.proofs.each_wait_is_kept_by_what_is_listed.Goals as goal

pub returns : goal.returns
returns start c lim lost entries = each_is_blocked c lost (world_after c entries) (whole_rule c lim entries)
