-- the laws are lemmas
use Rattle.vfs_gates.proofs.several_tasks.Keeping.{change_refused, remount_busy}
use Rattle.vfs_gates.proofs.laws.one_world.a_holder_keeps_the_mount_writable.Goals as goal

pub returns-clause-change : goal.returns-clause-change
returns-clause-change c = change_refused

pub returns-clause-remount : goal.returns-clause-remount
returns-clause-remount c = remount_busy
