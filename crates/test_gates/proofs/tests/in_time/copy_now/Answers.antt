-- the law is one of the call
use Rattle.test_gates.proofs.InTime.{copies_during}
use Rattle.test_gates.proofs.tests.in_time.copy_now.Goals as goal

pub returns : goal.returns
returns g c = copies_during _ _ _ c.snapshot.ensures
