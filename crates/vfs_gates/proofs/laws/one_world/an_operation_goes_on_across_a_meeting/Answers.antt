-- the laws are lemmas
use Rattle.vfs_gates.proofs.several_tasks.GoingOn.{begins_still, goes_on_still}
use Rattle.vfs_gates.proofs.laws.one_world.an_operation_goes_on_across_a_meeting.Goals as goal

pub returns-clause-further : goal.returns-clause-further
returns-clause-further c = goes_on_still

pub returns-clause-first : goal.returns-clause-first
returns-clause-first c = begins_still
