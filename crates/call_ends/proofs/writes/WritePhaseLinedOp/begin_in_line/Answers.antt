-- its line asks no hook
use Rattle.call_ends.proofs.Prelude.{led_unasked, refl}
use Rattle.call_ends.proofs.writes.WritePhaseLinedOp.begin_in_line.Goals as goal

pub returns : goal.returns
returns g c = led_unasked c.write_in_line.ensures refl
