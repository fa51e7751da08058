use Rattle.gate_schedules.proofs.operations.AllOperations.{phase_ends}
use Rattle.gate_schedules.proofs.operations.deadlocks.each_event_comes_nearer_to_the_reply.Goals as goal

pub returns : goal.returns
returns c = phase_ends
