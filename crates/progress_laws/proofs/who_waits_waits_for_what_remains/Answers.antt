use Rattle.progress_laws.proofs.Prelude.{whole_rule, world_after}
use Rattle.progress_laws.proofs.blocked.Remaining.{waits_for_remains}
use Rattle.progress_laws.proofs.who_waits_waits_for_what_remains.Goals as goal

pub returns : goal.returns
returns start c lim lost entries = waits_for_remains c lost (world_after c entries) (whole_rule c lim entries)
