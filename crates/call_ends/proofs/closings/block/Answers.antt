-- the sum goes on from the exchange
use Rattle.call_ends.proofs.Prelude.{arith, led_on, led_to, still_stands, sym, ◌∙◌}
use Rattle.call_ends.proofs.Closing.{blocked, blocks}
use Rattle.call_ends.proofs.closings.block.Goals as goal

pub sum-requires : goal.sum-requires
sum-requires c =
    still_stands (led_to (blocks c.args.freeze.now c.args.level c.find-found.result (omega arith) c.start.result c.start.ensures) c.find-found.ensures.led)
    c.requires

pub returns : goal.returns
returns c =
    led_on (led_to (blocks c.args.freeze.now c.args.level c.find-found.result (omega arith) c.start.result c.start.ensures) c.find-found.ensures.led)
    c.sum.ensures

pub returns-then-found-ne0 : goal.returns-then-found-ne0
returns-then-found-ne0 c =
    led_to (blocked c.args.freeze.now c.args.level c.find-found.result (λ is. omega arith) ∙ sym c.leave_to_wait.ensures) c.find-found.ensures.led
