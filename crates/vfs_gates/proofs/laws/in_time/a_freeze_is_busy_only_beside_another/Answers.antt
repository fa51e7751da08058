-- the law is a lemma
use Rattle.vfs_gates.proofs.several_tasks.FreezesBeside.{not_busy}
use Rattle.vfs_gates.proofs.laws.in_time.a_freeze_is_busy_only_beside_another.Goals as goal

pub returns : goal.returns
returns c = not_busy
