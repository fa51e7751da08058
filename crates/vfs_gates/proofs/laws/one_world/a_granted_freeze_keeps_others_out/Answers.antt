-- the laws are lemmas
use Rattle.vfs_gates.proofs.several_tasks.GrantedFreeze.{none_started_later, none_written_later}
use Rattle.vfs_gates.proofs.laws.one_world.a_granted_freeze_keeps_others_out.Goals as goal

pub returns-clause-writes : goal.returns-clause-writes
returns-clause-writes c = none_written_later

pub returns-clause-starts : goal.returns-clause-starts
returns-clause-starts c = none_started_later
