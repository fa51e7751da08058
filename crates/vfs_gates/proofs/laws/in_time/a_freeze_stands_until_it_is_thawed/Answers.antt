-- the law is a lemma
use Rattle.vfs_gates.proofs.several_tasks.FrozenUntilThawed.{stands}
use Rattle.vfs_gates.proofs.laws.in_time.a_freeze_stands_until_it_is_thawed.Goals as goal

pub returns : goal.returns
returns c = stands
