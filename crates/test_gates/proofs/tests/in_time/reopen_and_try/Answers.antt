-- the cause lies behind the change
use Rattle.std.proofs.Common.{false, true}
use Rattle.vfs_gates.specs.Op.TheVariants.{ChangeMount, Want}
use Rattle.test_gates.proofs.InTime.{refused_since}
use Rattle.test_gates.proofs.tests.in_time.reopen_and_try.Goals as goal

pub returns : goal.returns
returns g c = refused_since (ChangeMount 0 false true) (Want 0 0 false) _ _ _ _ c.in_ok-change_mount.ensures c.try_want.ensures
