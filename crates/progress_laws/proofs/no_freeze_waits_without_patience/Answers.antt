use Rattle.progress_laws.proofs.Prelude.{whole_rule, world_after}
use Rattle.progress_laws.proofs.rounds.GivingUp.{replies_or_thaw, settles_impatiently}
use Rattle.progress_laws.proofs.no_freeze_waits_without_patience.Goals as goal

pub returns-clause-replies : goal.returns-clause-replies
returns-clause-replies start c lim entries = replies_or_thaw c lim (world_after c entries) (whole_rule c lim entries)

pub returns-clause-beside_lost : goal.returns-clause-beside_lost
returns-clause-beside_lost start c lim lost entries = settles_impatiently c lim lost (world_after c entries) (whole_rule c lim entries)
