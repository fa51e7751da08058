-- the laws are lemmas
use Rattle.vfs_gates.proofs.several_tasks.Beside.{beside_busy, beside_refused, rests_busy}
use Rattle.vfs_gates.proofs.laws.one_world.a_task_beside_keeps_the_mount_writable.Goals as goal

pub returns-clause-change : goal.returns-clause-change
returns-clause-change c = beside_refused

pub returns-clause-remount : goal.returns-clause-remount
returns-clause-remount c = beside_busy

pub returns-clause-busy : goal.returns-clause-busy
returns-clause-busy c = rests_busy
