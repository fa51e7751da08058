-- the callback stands in its grace period
use Rattle.call_ends.proofs.Prelude.{AwaitsSections, led_from, led_to, stands_from}
use Rattle.call_ends.proofs.{Beginning.callback_stands, CallingBack.{called_false, called_true}}
use Rattle.call_ends.proofs.operations.callback_in_line.Goals as goal

pub run_callback-requires : goal.run_callback-requires
run_callback-requires c =
    stands_from (callback_stands c.args.callback (AwaitsSections c.in-AwaitsSections.grace) c.in-AwaitsSections.is) c.requires

pub returns-then-run_callback : goal.returns-then-run_callback
returns-then-run_callback c =
    led_from (callback_stands c.args.callback (AwaitsSections c.in-AwaitsSections.grace) c.in-AwaitsSections.is)
    (led_to (called_true c.run_callback.result c.run_callback.new.rest c.if-run_callback.true) c.run_callback.ensures)

pub returns-else-run_callback : goal.returns-else-run_callback
returns-else-run_callback c =
    led_from (callback_stands c.args.callback (AwaitsSections c.in-AwaitsSections.grace) c.in-AwaitsSections.is)
    (led_to (called_false c.run_callback.result c.run_callback.new.rest c.if-run_callback.false) c.run_callback.ensures)
