-- each load goes on from what the one before it left
use Rattle.call_ends.proofs.Prelude.{AwaitsSections, Go, calling_at, led_nowhere, led_on, led_to, still_stands}
use Rattle.call_ends.proofs.{CallingBack.{looks_in_vain, looks_last, looks_on}, Closing.fewer_tasks}
use Rattle.call_ends.proofs.callbacks.await_sections.Goals as goal

pub loop-further-init : goal.loop-further-init
loop-further-init c = record {
  led = led_nowhere c.args.gates.now (Go (calling_at c.args.level c.args.tasks (AwaitsSections c.args.grace))) c.args.accesses.now c.args.seat.now;
}

pub find-found-requires-clause-stands : goal.find-found-requires-clause-stands
find-found-requires-clause-stands c = still_stands c.loop-further.invariant.led c.requires

pub loop-further-smaller : goal.loop-further-smaller
loop-further-smaller c = fewer_tasks c.loop-further.grace c.in-More.further c.find-found.result c.in-More.ensures

pub loop-further-preserved : goal.loop-further-preserved
loop-further-preserved c = record {
  led = led_on c.loop-further.invariant.led
      (led_to (looks_on c.args.level c.args.tasks c.loop-further.grace c.in-More.further c.find-found.result c.in-More.ensures)
      c.find-found.ensures.led);
}

pub returns-in-Wait : goal.returns-in-Wait
returns-in-Wait c =
    led_on c.loop-further.invariant.led
    (led_to (looks_in_vain c.args.level c.args.tasks c.loop-further.grace c.in-Wait.further c.find-found.result c.in-Wait.ensures)
    c.find-found.ensures.led)

pub returns-in-Ended : goal.returns-in-Ended
returns-in-Ended c =
    led_on c.loop-further.invariant.led
    (led_to (looks_last c.args.level c.args.tasks c.loop-further.grace c.find-found.result c.in-Ended.ensures)
    c.find-found.ensures.led)
