-- each step goes on from what the one before it left
use Rattle.call_ends.proofs.Prelude.{arith, asking_on, led_on, led_to, led_unasked, refl, still_stands, sym}
use Rattle.call_ends.proofs.Reopening.{flag_clear, held_by_this, stage_frozen}
use Rattle.call_ends.proofs.thaw_lines.thaw_locked.Goals as goal

pub returns-then-stage-ne4 : goal.returns-then-stage-ne4
returns-then-stage-ne4 g c =
    led_unasked (led_to (sym c.leave.ensures) c.find-stage.ensures.led) refl

pub find-word-requires-clause-stands : goal.find-word-requires-clause-stands
find-word-requires-clause-stands g c =
    still_stands (led_to (stage_frozen c.args.thaw c.find-stage.result (omega arith)) c.find-stage.ensures.led) c.requires

pub returns-then-not-is_holder : goal.returns-then-not-is_holder
returns-then-not-is_holder g c =
    led_unasked (led_on (led_to (stage_frozen c.args.thaw c.find-stage.result (omega arith)) c.find-stage.ensures.led)
    (led_to (sym c.leave-then-not-is_holder.ensures) c.find-word.ensures.led)) refl

pub returns-then-not-is_last : goal.returns-then-not-is_last
returns-then-not-is_last g c =
    led_unasked (led_on (led_to (stage_frozen c.args.thaw c.find-stage.result (omega arith)) c.find-stage.ensures.led)
    (led_to (sym c.leave-then-not-is_last.ensures) c.find-word.ensures.led)) refl

pub find-flags-requires-clause-stands : goal.find-flags-requires-clause-stands
find-flags-requires-clause-stands g c =
    still_stands (led_on (led_to (stage_frozen c.args.thaw c.find-stage.result (omega arith)) c.find-stage.ensures.led)
    (led_to (held_by_this c.args.thaw c.find-word.result c.unpack-held.result c.unpack-held.ensures c.has-is_holder.result c.has-is_holder.ensures c.if-not-is_holder.false c.without.result c.without.ensures c.is_none-is_last.result c.is_none-is_last.ensures c.if-not-is_last.false) c.find-word.ensures.led)) c.requires

pub returns-then-flags-ne0 : goal.returns-then-flags-ne0
returns-then-flags-ne0 g c =
    led_unasked (led_on (led_on (led_to (stage_frozen c.args.thaw c.find-stage.result (omega arith)) c.find-stage.ensures.led)
    (led_to (held_by_this c.args.thaw c.find-word.result c.unpack-held.result c.unpack-held.ensures c.has-is_holder.result c.has-is_holder.ensures c.if-not-is_holder.false c.without.result c.without.ensures c.is_none-is_last.result c.is_none-is_last.ensures c.if-not-is_last.false) c.find-word.ensures.led))
    (led_to (sym c.leave-then-flags-ne0.ensures) c.find-flags.ensures.led)) refl

pub thaw_last-requires : goal.thaw_last-requires
thaw_last-requires g c =
    still_stands (led_on (led_on (led_to (stage_frozen c.args.thaw c.find-stage.result (omega arith)) c.find-stage.ensures.led)
    (led_to (held_by_this c.args.thaw c.find-word.result c.unpack-held.result c.unpack-held.ensures c.has-is_holder.result c.has-is_holder.ensures c.if-not-is_holder.false c.without.result c.without.ensures c.is_none-is_last.result c.is_none-is_last.ensures c.if-not-is_last.false) c.find-word.ensures.led))
    (led_to (flag_clear c.args.thaw c.find-flags.result (omega arith)) c.find-flags.ensures.led)) c.requires

pub returns : goal.returns
returns g c =
    asking_on (led_unasked (led_on (led_on (led_to (stage_frozen c.args.thaw c.find-stage.result (omega arith)) c.find-stage.ensures.led)
    (led_to (held_by_this c.args.thaw c.find-word.result c.unpack-held.result c.unpack-held.ensures c.has-is_holder.result c.has-is_holder.ensures c.if-not-is_holder.false c.without.result c.without.ensures c.is_none-is_last.result c.is_none-is_last.ensures c.if-not-is_last.false) c.find-word.ensures.led))
    (led_to (flag_clear c.args.thaw c.find-flags.result (omega arith)) c.find-flags.ensures.led)) refl) c.thaw_last.ensures
