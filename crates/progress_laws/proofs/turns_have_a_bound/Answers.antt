use Rattle.progress_laws.proofs.Prelude.{whole_rule, world_after}
use Rattle.progress_laws.proofs.rounds.{GivingUp.turns_small, Settling.turns_few}
use Rattle.progress_laws.proofs.turns_have_a_bound.Goals as goal

pub returns-clause-waiting : goal.returns-clause-waiting
returns-clause-waiting start c lim entries = turns_few c lim (world_after c entries) (whole_rule c lim entries)

pub returns-clause-giving_up : goal.returns-clause-giving_up
returns-clause-giving_up start c lim entries = turns_small c lim (world_after c entries) (whole_rule c lim entries)
