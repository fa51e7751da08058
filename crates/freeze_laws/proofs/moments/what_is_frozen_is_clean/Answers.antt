-- the law is a lemma
use Rattle.freeze_laws.proofs.moments.Frozen.{frozen_clean}
use Rattle.freeze_laws.proofs.moments.what_is_frozen_is_clean.Goals as goal

pub returns : goal.returns
returns c = frozen_clean
