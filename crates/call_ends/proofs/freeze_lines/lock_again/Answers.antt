-- the store goes on from the taking of `umount`
use Rattle.call_ends.proofs.Prelude.{arith, asking_on, led_to, led_unasked, refl, still_stands, sym}
use Rattle.call_ends.proofs.Closing.{locked_again}
use Rattle.call_ends.proofs.freeze_lines.lock_again.Goals as goal

pub returns-then-taken-ne0 : goal.returns-then-taken-ne0
returns-then-taken-ne0 g c =
    led_unasked (led_to (sym c.leave.ensures) c.find-taken.ensures.led) refl

pub close_second-requires : goal.close_second-requires
close_second-requires g c =
    still_stands (led_to (locked_again c.args.freeze.now c.find-taken.result (omega arith)) c.find-taken.ensures.led) c.requires

pub returns : goal.returns
returns g c =
    asking_on (led_unasked (led_to (locked_again c.args.freeze.now c.find-taken.result (omega arith)) c.find-taken.ensures.led) refl)
    c.close_second.ensures
