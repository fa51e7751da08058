-- the law is a lemma
use Rattle.vfs_gates.proofs.several_tasks.Shut.{none_admitted}
use Rattle.vfs_gates.proofs.laws.one_world.a_mount_made_read_only_admits_nobody.Goals as goal

pub returns : goal.returns
returns c = none_admitted
