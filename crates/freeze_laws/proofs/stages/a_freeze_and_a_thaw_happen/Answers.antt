use Rattle.freeze_laws.proofs.stages.Walks.{freeze_and_thaw_happen}
use Rattle.freeze_laws.proofs.stages.a_freeze_and_a_thaw_happen.Goals as goal

pub returns : goal.returns
returns c = freeze_and_thaw_happen
