-- the law is a lemma
use Rattle.freeze_laws.proofs.moments.Sample.{sample}
use Rattle.freeze_laws.proofs.moments.a_history_may_have_a_moment.Goals as goal

pub returns : goal.returns
returns c = sample
