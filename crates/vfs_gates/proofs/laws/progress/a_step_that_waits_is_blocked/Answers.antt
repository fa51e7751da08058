-- both are lemmas
use Rattle.vfs_gates.proofs.call_laws.Blocked.{call_blocked, step_blocked}
use Rattle.vfs_gates.proofs.laws.progress.a_step_that_waits_is_blocked.Goals as goal

pub returns-clause-steps : goal.returns-clause-steps
returns-clause-steps c = step_blocked

pub returns-clause-calls : goal.returns-clause-calls
returns-clause-calls c = call_blocked
