-- each part goes on from what the one before it left
use Rattle.call_ends.proofs.Prelude.{Go, ap, closing_at, led_on, led_to, still_stands, sym}
use Rattle.call_ends.proofs.closings.close_level.Goals as goal

pub block-requires : goal.block-requires
block-requires c =
    still_stands (led_to (ap (λ s. Go (closing_at c.args.freeze.now c.args.level s)) c.in-SetsBlock.is) c.enter.ensures) c.requires

pub returns-in-SetsBlock : goal.returns-in-SetsBlock
returns-in-SetsBlock c =
    led_on (led_to (ap (λ s. Go (closing_at c.args.freeze.now c.args.level s)) c.in-SetsBlock.is) c.enter.ensures) c.block.ensures

pub pass-requires : goal.pass-requires
pass-requires c =
    still_stands (led_to (ap (λ s. Go (closing_at c.args.freeze.now c.args.level s)) c.in-AwaitsSections.is) c.enter.ensures) c.requires

pub returns-in-AwaitsSections : goal.returns-in-AwaitsSections
returns-in-AwaitsSections c =
    led_on (led_to (ap (λ s. Go (closing_at c.args.freeze.now c.args.level s)) c.in-AwaitsSections.is) c.enter.ensures) c.pass.ensures

pub returns-in_default : goal.returns-in_default
returns-in_default c = led_to (sym c.leave_to.ensures) c.enter.ensures
