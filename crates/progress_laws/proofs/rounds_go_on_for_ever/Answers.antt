use Rattle.progress_laws.proofs.Prelude.{world_after}
use Rattle.progress_laws.proofs.rounds.Rounds.{rounds_exist}
use Rattle.progress_laws.proofs.rounds_go_on_for_ever.Goals as goal

pub returns : goal.returns
returns start c lim lost entries = rounds_exist c lim lost (world_after c entries)
