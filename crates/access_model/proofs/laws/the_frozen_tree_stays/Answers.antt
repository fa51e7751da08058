-- each clause is a lemma
use Rattle.access_model.proofs.Frozen.{frozen_shut, frozen_still, frozen_tree}
use Rattle.access_model.proofs.laws.the_frozen_tree_stays.Goals as goal

pub returns-clause-shut : goal.returns-clause-shut
returns-clause-shut c = frozen_shut

pub returns-clause-stays : goal.returns-clause-stays
returns-clause-stays c = frozen_tree

pub returns-clause-still : goal.returns-clause-still
returns-clause-still c = frozen_still
