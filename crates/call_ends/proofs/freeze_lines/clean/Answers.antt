-- each step goes on from what the one before it left
use Rattle.call_ends.proofs.Prelude.{Cleans, Go, led_nowhere, led_on, led_to, standing, still_stands}
use Rattle.call_ends.proofs.Closing.{cleans_last, cleans_leave, cleans_on, fewer_nodes}
use Rattle.call_ends.proofs.freeze_lines.clean.Goals as goal

pub loop-node-init : goal.loop-node-init
loop-node-init c = record {
  led = led_nowhere c.args.gates.now (Go (standing c.args.freeze.now (Cleans c.args.clearing))) c.args.accesses.now c.args.seat.now;
}

pub find-cleaned-requires-clause-leaves : goal.find-cleaned-requires-clause-leaves
find-cleaned-requires-clause-leaves c found = cleans_leave c.args.freeze.now c.args.accesses.now c.loop-node.clearing found

pub find-cleaned-requires-clause-stands : goal.find-cleaned-requires-clause-stands
find-cleaned-requires-clause-stands c = still_stands c.loop-node.invariant.led c.requires

pub loop-node-smaller : goal.loop-node-smaller
loop-node-smaller c = fewer_nodes c.loop-node.clearing.node c.loop-node.clearing.nodes c.in-Some.node c.in-Some.ensures

pub loop-node-preserved : goal.loop-node-preserved
loop-node-preserved c = record {
  led = led_on c.loop-node.invariant.led
      (led_to (cleans_on c.args.freeze.now c.loop-node.clearing c.in-Some.node c.find-cleaned.result c.in-Some.ensures) c.find-cleaned.ensures.led);
}

pub returns-in-None : goal.returns-in-None
returns-in-None c =
    led_on c.loop-node.invariant.led
    (led_to (cleans_last c.args.freeze.now c.loop-node.clearing c.find-cleaned.result c.in-None.ensures) c.find-cleaned.ensures.led)
