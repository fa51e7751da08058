-- the law is a lemma
use Rattle.access_model.proofs.Lists.{follows}
use Rattle.access_model.proofs.laws.holdings_follow_the_lists.Goals as goal

pub returns : goal.returns
returns c = follows
