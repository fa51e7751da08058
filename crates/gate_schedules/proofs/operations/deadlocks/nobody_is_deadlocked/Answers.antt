use Rattle.gate_schedules.proofs.operations.{AllOperations.phase_ends, deadlocks.{BlockedOrProgress.world_goes, RepliesOrFrozen.world_replies}}
use Rattle.gate_schedules.proofs.operations.deadlocks.Settles.{world_settles}
use Rattle.gate_schedules.proofs.operations.deadlocks.nobody_is_deadlocked.Goals as goal

pub returns-clause-progress : goal.returns-clause-progress
returns-clause-progress start c lim keeps = world_goes c lim keeps (phase_ends c)

pub returns-clause-settles : goal.returns-clause-settles
returns-clause-settles start = world_settles

pub returns-clause-replies : goal.returns-clause-replies
returns-clause-replies start = world_replies
