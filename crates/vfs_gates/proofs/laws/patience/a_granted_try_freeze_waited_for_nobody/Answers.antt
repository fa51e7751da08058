-- the law is a lemma
use Rattle.vfs_gates.proofs.call_laws.FoundNobody.{froze_at_once}
use Rattle.vfs_gates.proofs.laws.patience.a_granted_try_freeze_waited_for_nobody.Goals as goal

pub returns : goal.returns
returns g c = froze_at_once g.H.TimedHooks.answers
