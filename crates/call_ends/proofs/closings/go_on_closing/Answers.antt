-- each part goes on from where the closing stands
use Rattle.call_ends.proofs.Prelude.{Go, closing_at, led_from, led_nowhere, led_to, stands_from, sym}
use Rattle.call_ends.proofs.Closing.{closing_enters, closing_stands}
use Rattle.percpu_rwsem.specs.declared.writers.DownWriteStep.TheVariants.{AwaitsSections, Enters, SetsBlock, Sums}
use Rattle.call_ends.proofs.closings.go_on_closing.Goals as goal

pub close_level-requires : goal.close_level-requires
close_level-requires c =
    stands_from (closing_enters c.args.freeze.now c.args.level c.in-Enters.transition c.args.step c.in-Enters.is c.in-Loads.is) c.requires

pub returns-in-Loads : goal.returns-in-Loads
returns-in-Loads c =
    led_from (closing_enters c.args.freeze.now c.args.level c.in-Enters.transition c.args.step c.in-Enters.is c.in-Loads.is) c.close_level.ensures

pub pass-requires : goal.pass-requires
pass-requires c =
    stands_from (closing_stands c.args.freeze.now c.args.level (AwaitsSections c.in-AwaitsSections.grace) c.args.step c.in-AwaitsSections.is) c.requires

pub returns-in-AwaitsSections : goal.returns-in-AwaitsSections
returns-in-AwaitsSections c =
    led_from (closing_stands c.args.freeze.now c.args.level (AwaitsSections c.in-AwaitsSections.grace) c.args.step c.in-AwaitsSections.is) c.pass.ensures

pub block-requires : goal.block-requires
block-requires c = stands_from (closing_stands c.args.freeze.now c.args.level SetsBlock c.args.step c.in-SetsBlock.is) c.requires

pub returns-in-SetsBlock : goal.returns-in-SetsBlock
returns-in-SetsBlock c = led_from (closing_stands c.args.freeze.now c.args.level SetsBlock c.args.step c.in-SetsBlock.is) c.block.ensures

pub sum-requires : goal.sum-requires
sum-requires c = stands_from (closing_stands c.args.freeze.now c.args.level (Sums c.in-Sums.so_far) c.args.step c.in-Sums.is) c.requires

pub returns-in-Sums : goal.returns-in-Sums
returns-in-Sums c =
    led_from (closing_stands c.args.freeze.now c.args.level (Sums c.in-Sums.so_far) c.args.step c.in-Sums.is) c.sum.ensures

-- or it leads out of the line at once
pub returns-in-Exchanges : goal.returns-in-Exchanges
returns-in-Exchanges c =
    led_from (closing_stands c.args.freeze.now c.args.level (Enters c.in-Enters.transition) c.args.step c.in-Enters.is)
    (led_to (sym c.leave_to.ensures)
    (led_nowhere c.args.gates.now (Go (closing_at c.args.freeze.now c.args.level (Enters c.in-Enters.transition))) c.args.accesses.now c.args.seat.now))

pub returns-in-CallsBack : goal.returns-in-CallsBack
returns-in-CallsBack c =
    led_to (sym c.leave_to-in-CallsBack.ensures)
    (led_nowhere c.args.gates.now (Go (closing_at c.args.freeze.now c.args.level c.args.step)) c.args.accesses.now c.args.seat.now)
