-- each step goes on from what the one before it left
use Rattle.call_ends.proofs.Prelude.{led_on, led_to, still_stands}
use Rattle.call_ends.proofs.Remounting.{cleans_last, cleans_leave, cleans_on}
use Rattle.call_ends.proofs.remount_lines.clean.Goals as goal

pub find-cleaned-requires-clause-leaves : goal.find-cleaned-requires-clause-leaves
find-cleaned-requires-clause-leaves c found = cleans_leave c.args.remount c.args.accesses.now c.loop-next.node found

pub find-cleaned-requires-clause-stands : goal.find-cleaned-requires-clause-stands
find-cleaned-requires-clause-stands c = still_stands c.loop-next.invariant.led c.requires

pub loop-next-preserved : goal.loop-next-preserved
loop-next-preserved c = record {
  led = led_on c.loop-next.invariant.led
      (led_to (cleans_on c.args.remount c.loop-next.node c.in-Some.next c.find-cleaned.result c.in-Some.ensures) c.find-cleaned.ensures.led);
}

pub returns-in-None : goal.returns-in-None
returns-in-None c =
    led_on c.loop-next.invariant.led
    (led_to (cleans_last c.args.remount c.loop-next.node c.find-cleaned.result c.in-None.ensures) c.find-cleaned.ensures.led)
