-- each is a lemma
use Rattle.vfs_gates.proofs.call_laws.WaitFree.{call_free, never_waits, step_free}
use Rattle.vfs_gates.proofs.laws.progress.calls_that_wait_for_nobody_are_wait_free.Goals as goal

pub returns-clause-calls : goal.returns-clause-calls
returns-clause-calls c = call_free

pub returns-clause-steps : goal.returns-clause-steps
returns-clause-steps c = step_free

pub returns-clause-never_waits : goal.returns-clause-never_waits
returns-clause-never_waits c = never_waits
