use Rattle.freeze_laws.proofs.levels.Exchanges.{exchanges_make_transitions}
use Rattle.freeze_laws.proofs.levels.an_exchange_makes_its_transition.Goals as goal

pub returns : goal.returns
returns c = exchanges_make_transitions
