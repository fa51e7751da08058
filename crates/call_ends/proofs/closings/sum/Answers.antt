-- after the last load the level is closed, or the sum begins anew
use Rattle.call_ends.proofs.Prelude.{led_to, sym, ◌∙◌}
use Rattle.call_ends.proofs.Closing.{all_summed, some_summed}
use Rattle.call_ends.proofs.closings.sum.Goals as goal

pub returns-then-sum_counts : goal.returns-then-sum_counts
returns-then-sum_counts c =
    led_to (all_summed c.args.freeze.now c.args.level c.sum_counts.result c.if-sum_counts.true) c.sum_counts.ensures

pub returns : goal.returns
returns c =
    led_to (some_summed c.args.freeze.now c.args.level c.sum_counts.result c.if-sum_counts.false ∙ sym c.leave_to_ask.ensures) c.sum_counts.ensures
