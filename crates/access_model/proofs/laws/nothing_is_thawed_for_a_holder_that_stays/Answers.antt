-- the law is a lemma
use Rattle.access_model.proofs.Held.{stays_frozen}
use Rattle.access_model.proofs.laws.nothing_is_thawed_for_a_holder_that_stays.Goals as goal

pub returns : goal.returns
returns c = stays_frozen
