use Rattle.progress_laws.proofs.Prelude.{whole_rule, world_after}
use Rattle.progress_laws.proofs.rounds.Rounds.{stays_settled}
use Rattle.progress_laws.proofs.what_waits_stays_so.Goals as goal

pub returns : goal.returns
returns start c lim lost entries = stays_settled c lim lost (world_after c entries) (whole_rule c lim entries)
