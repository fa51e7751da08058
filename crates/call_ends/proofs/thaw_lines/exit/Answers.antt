-- the exchange goes on from the load
use Rattle.call_ends.proofs.Prelude.{led_on, led_to, still_stands}
use Rattle.call_ends.proofs.Reopening.{exits_last, exits_on}
use Rattle.call_ends.proofs.thaw_lines.exit.Goals as goal

pub find-found-requires-clause-stands : goal.find-found-requires-clause-stands
find-found-requires-clause-stands c = still_stands (led_to (exits_on c.args.thaw c.args.level c.find-expect.result c.in-Some.from c.in-Some-on_exit.to c.in-Some.ensures.word
    c.in-Some-on_exit.ensures.word) c.find-expect.ensures.led) c.requires

pub returns : goal.returns
returns c =
    led_on (led_to (exits_on c.args.thaw c.args.level c.find-expect.result c.in-Some.from c.in-Some-on_exit.to c.in-Some.ensures.word
    c.in-Some-on_exit.ensures.word) c.find-expect.ensures.led)
    (led_to (exits_last c.args.thaw c.args.level c.find-found.result c.find-expect.result c.in-Some.from c.in-Some-on_exit.to c.in-Some.ensures.same)
    c.find-found.ensures.led)
