use Rattle.freeze_laws.proofs.levels.CitedLaws.{idle_is_earned}
use Rattle.freeze_laws.proofs.levels.idle_comes_after_a_whole_grace_period.Goals as goal

pub returns : goal.returns
returns c = idle_is_earned
