-- each part goes on from what the one before it left
use Rattle.call_ends.proofs.Prelude.{Go, ap, closing_at, led_on, led_to, still_stands, sym}
use Rattle.call_ends.proofs.closings.pass.Goals as goal

pub call_back-requires : goal.call_back-requires
call_back-requires c = still_stands c.in-None.ensures c.requires

pub block-requires : goal.block-requires
block-requires c =
    still_stands (led_on c.in-None.ensures
    (led_to (ap (λ s. Go (closing_at c.args.freeze.now c.args.level s)) c.in-SetsBlock.is) c.call_back.ensures)) c.requires

pub returns-in-SetsBlock : goal.returns-in-SetsBlock
returns-in-SetsBlock c =
    led_on c.in-None.ensures
    (led_on (led_to (ap (λ s. Go (closing_at c.args.freeze.now c.args.level s)) c.in-SetsBlock.is) c.call_back.ensures) c.block.ensures)

pub returns-in-Some : goal.returns-in-Some
returns-in-Some c = led_to (sym c.leave_to_wait.ensures) c.in-Some.ensures

pub returns-in_default : goal.returns-in_default
returns-in_default c = led_on c.in-None.ensures (led_to (sym c.leave_to.ensures) c.call_back.ensures)
