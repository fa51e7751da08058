-- the law is a lemma
use Rattle.vfs_gates.proofs.call_laws.Timing.{taken_during}
use Rattle.vfs_gates.proofs.laws.in_time.a_snapshot_is_of_a_freeze_that_stood_during_the_call.Goals as goal

pub returns : goal.returns
returns c = taken_during
