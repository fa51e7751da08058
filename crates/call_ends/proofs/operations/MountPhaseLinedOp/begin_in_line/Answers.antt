-- its line is its one step, which reads no answer of a hook
use Rattle.call_ends.proofs.Prelude.{Ok, led_once, led_unasked, refl}
use Rattle.call_ends.proofs.operations.MountPhaseLinedOp.begin_in_line.Goals as goal

pub returns : goal.returns
returns g c = led_unasked (led_once (Ok tt) refl c.step_once.ensures.seated c.step_once.ensures.asks) refl
