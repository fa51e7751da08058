-- each load goes on from what the one before it left
use Rattle.call_ends.proofs.Prelude.{Go, Sums, closing_at, led_nowhere, led_on, led_to, still_stands}
use Rattle.call_ends.proofs.Closing.{fewer_words, sums_last, sums_on}
use Rattle.call_ends.proofs.closings.sum_counts.Goals as goal

pub loop-further-init : goal.loop-further-init
loop-further-init c = record {
  led = led_nowhere c.args.gates.now (Go (closing_at c.args.freeze.now c.args.level (Sums c.args.sum))) c.args.accesses.now c.args.seat.now;
}

pub find-found-requires-clause-stands : goal.find-found-requires-clause-stands
find-found-requires-clause-stands c = still_stands c.loop-further.invariant.led c.requires

pub loop-further-smaller : goal.loop-further-smaller
loop-further-smaller c = fewer_words c.loop-further.sum c.in-More.further c.find-found.result c.args.freeze.now.processors c.in-More.ensures.step

pub loop-further-preserved : goal.loop-further-preserved
loop-further-preserved c = record {
  led = led_on c.loop-further.invariant.led
      (led_to (sums_on c.args.freeze.now c.args.level c.loop-further.sum c.in-More.further c.find-found.result c.in-More.ensures.step)
      c.find-found.ensures.led);
}

pub returns-in-Total : goal.returns-in-Total
returns-in-Total c =
    led_on c.loop-further.invariant.led
    (led_to (sums_last c.args.freeze.now c.args.level c.loop-further.sum c.in-Total.total c.find-found.result c.in-Total.ensures.step)
    c.find-found.ensures.led)
