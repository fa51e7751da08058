-- the laws are lemmas
use Rattle.vfs_gates.proofs.several_tasks.FrozenOut.{none_started, none_written}
use Rattle.vfs_gates.proofs.laws.one_world.what_is_frozen_admits_nobody.Goals as goal

pub returns-clause-writes : goal.returns-clause-writes
returns-clause-writes c = none_written

pub returns-clause-starts : goal.returns-clause-starts
returns-clause-starts c = none_started
