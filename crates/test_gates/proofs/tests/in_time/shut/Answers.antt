-- both are laws of the one call
use Rattle.std.proofs.Common.{true}
use Rattle.vfs_gates.specs.Op.TheVariants.{ChangeMount}
use Rattle.test_gates.proofs.InTime.{finds_it_so, takes_effect}
use Rattle.test_gates.proofs.tests.in_time.shut.Goals as goal

pub returns : goal.returns
returns g c = record {
  effect = takes_effect (ChangeMount 0 true true) _ _ _ c.change_mount.ensures;
  nothing = finds_it_so (ChangeMount 0 true true) _ _ _ c.change_mount.ensures;
}
