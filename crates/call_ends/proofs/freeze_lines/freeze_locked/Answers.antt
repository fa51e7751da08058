-- each step goes on from what the one before it left
use Rattle.call_ends.proofs.Prelude.{arith, asking_on, led_on, led_to, led_unasked, refl, still_stands, sym}
use Rattle.call_ends.proofs.Closing.{flag_clear, stage_free}
use Rattle.call_ends.proofs.freeze_lines.freeze_locked.Goals as goal

pub returns-then-stage-ne0 : goal.returns-then-stage-ne0
returns-then-stage-ne0 g c = led_unasked (led_to (sym c.leave.ensures) c.find-stage.ensures.led) refl

pub find-flags-requires-clause-stands : goal.find-flags-requires-clause-stands
find-flags-requires-clause-stands g c =
    still_stands (led_to (stage_free c.args.freeze.now c.find-stage.result (omega arith)) c.find-stage.ensures.led) c.requires

pub returns-then-flags-ne0 : goal.returns-then-flags-ne0
returns-then-flags-ne0 g c =
    led_unasked (led_on (led_to (stage_free c.args.freeze.now c.find-stage.result (omega arith)) c.find-stage.ensures.led)
    (led_to (sym c.leave-then-flags-ne0.ensures) c.find-flags.ensures.led)) refl

pub close_first-requires : goal.close_first-requires
close_first-requires g c =
    still_stands (led_on (led_to (stage_free c.args.freeze.now c.find-stage.result (omega arith)) c.find-stage.ensures.led)
    (led_to (flag_clear c.args.freeze.now c.find-flags.result (omega arith)) c.find-flags.ensures.led)) c.requires

pub returns : goal.returns
returns g c =
    asking_on (led_unasked (led_on (led_to (stage_free c.args.freeze.now c.find-stage.result (omega arith)) c.find-stage.ensures.led)
    (led_to (flag_clear c.args.freeze.now c.find-flags.result (omega arith)) c.find-flags.ensures.led)) refl) c.close_first.ensures
