use Rattle.progress_laws.proofs.Prelude.{whole_rule, world_after}
use Rattle.progress_laws.proofs.rounds.FairlyBlocked.{blocked_after}
use Rattle.progress_laws.proofs.fair_rounds_leave_the_blocked.Goals as goal

pub returns : goal.returns
returns start c lim entries = blocked_after c lim (world_after c entries) (whole_rule c lim entries)
