-- the law is a lemma
use Rattle.freeze_laws.proofs.moments.Moments.{stays}
use Rattle.freeze_laws.proofs.moments.a_moment_stays.Goals as goal

pub returns : goal.returns
returns c = stays
