-- its line asks no hook
use Rattle.call_ends.proofs.Prelude.{led_unasked, refl}
use Rattle.call_ends.proofs.operations.CallbackLinedOp.run_fast_path.Goals as goal

pub returns : goal.returns
returns g c =
    led_unasked c.callback_in_line.ensures refl
