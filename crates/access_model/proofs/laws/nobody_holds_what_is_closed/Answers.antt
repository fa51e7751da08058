-- the law is a lemma
use Rattle.access_model.proofs.Closed.{closed}
use Rattle.access_model.proofs.laws.nobody_holds_what_is_closed.Goals as goal

pub returns : goal.returns
returns c = closed
