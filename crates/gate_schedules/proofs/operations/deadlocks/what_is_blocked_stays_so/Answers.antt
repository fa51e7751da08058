use Rattle.gate_schedules.proofs.operations.deadlocks.BlockedIsStable.{blocked_stays}
use Rattle.gate_schedules.proofs.operations.deadlocks.what_is_blocked_stays_so.Goals as goal

pub returns : goal.returns
returns start = blocked_stays
