-- each load goes on from what the one before it left
use Rattle.call_ends.proofs.Prelude.{Go, ap, arith, led_nowhere, led_on, led_to, remounting_at, still_stands, sym}
use Rattle.call_ends.{proofs.{Closing.fewer_words, Remounting.{sums_none, sums_on}}, specs.Remounting.first_count}
use Rattle.mount_counts.specs.declared.remounts.RemountStep.TheVariants.{Sums}
use Rattle.call_ends.proofs.remount_lines.sum_mount.Goals as goal

pub loop-further-init : goal.loop-further-init
loop-further-init c = record {
  led = led_to (ap (λ s. Go (remounting_at c.args.remount (Sums c.args.mount c.args.held s))) (sym c.start-sum.ensures))
      (led_nowhere c.args.gates.now (Go (remounting_at c.args.remount (first_count c.args.mount c.args.held))) c.args.accesses.now c.args.seat.now);
}

pub find-found-requires-clause-stands : goal.find-found-requires-clause-stands
find-found-requires-clause-stands c = still_stands c.loop-further.invariant.led c.requires

pub loop-further-smaller : goal.loop-further-smaller
loop-further-smaller c = fewer_words c.loop-further.sum c.in-More.further c.find-found.result c.args.remount.processors c.in-More.ensures.step

pub loop-further-preserved : goal.loop-further-preserved
loop-further-preserved c = record {
  led = led_on c.loop-further.invariant.led
      (led_to (sums_on c.args.remount c.args.mount c.args.held c.loop-further.sum c.in-More.further c.find-found.result c.in-More.ensures.step)
      c.find-found.ensures.led);
}

pub returns-then-total-eq0 : goal.returns-then-total-eq0
returns-then-total-eq0 c =
    led_on c.loop-further.invariant.led
    (led_to (sums_none c.args.remount c.args.mount c.args.held c.loop-further.sum c.find-found.result c.in-Total.total c.in-Total.ensures.step
    (omega arith)) c.find-found.ensures.led)

pub returns-in-Total : goal.returns-in-Total
returns-in-Total c = led_on c.loop-further.invariant.led (led_to (sym c.leave.ensures) c.find-found.ensures.led)
