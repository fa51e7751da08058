use Rattle.progress_laws.proofs.Prelude.{whole_rule, world_after}
use Rattle.progress_laws.proofs.rounds.Rounds.{settles_fairly, settles_once}
use Rattle.progress_laws.proofs.fair_rounds_settle.Goals as goal

pub returns-clause-patient : goal.returns-clause-patient
returns-clause-patient start c lim lost entries = settles_fairly c lim lost (world_after c entries) (whole_rule c lim entries)

pub returns-clause-once : goal.returns-clause-once
returns-clause-once start c lim lost entries = settles_once c lim lost (world_after c entries) (whole_rule c lim entries)
