-- the law is a lemma
use Rattle.freeze_laws.proofs.moments.Frozen.{tells}
use Rattle.freeze_laws.proofs.moments.what_a_moment_tells.Goals as goal

pub returns : goal.returns
returns c = tells
