-- the exchange goes on from the load
use Rattle.call_ends.proofs.Prelude.{led_on, led_to, still_stands, sym, ◌∙◌}
use Rattle.call_ends.proofs.CallingBack.{called_not, called_so, calls_on}
use Rattle.call_ends.proofs.callbacks.call_back.Goals as goal

pub find-found-requires-clause-stands : goal.find-found-requires-clause-stands
find-found-requires-clause-stands c =
    still_stands (led_to (calls_on c.args.level c.args.tasks c.find-expect.result c.in-Some.from c.in-Some-on_callback.to c.in-Some.ensures.word
    c.in-Some-on_callback.ensures.word) c.find-expect.ensures.led) c.requires

pub returns-then-found-expect : goal.returns-then-found-expect
returns-then-found-expect c =
    led_on (led_to (calls_on c.args.level c.args.tasks c.find-expect.result c.in-Some.from c.in-Some-on_callback.to c.in-Some.ensures.word
    c.in-Some-on_callback.ensures.word) c.find-expect.ensures.led)
    (led_to (called_not c.args.level c.args.tasks c.find-found.result c.in-Some.from c.in-Some-on_callback.to
    (λ same. c.if-found-expect.true (same ∙ c.in-Some.ensures.same))) c.find-found.ensures.led)

pub returns : goal.returns
returns c =
    led_on (led_to (calls_on c.args.level c.args.tasks c.find-expect.result c.in-Some.from c.in-Some-on_callback.to c.in-Some.ensures.word
    c.in-Some-on_callback.ensures.word) c.find-expect.ensures.led)
    (led_to (called_so c.args.level c.args.tasks c.find-found.result c.in-Some.from c.in-Some-on_callback.to
    (c.if-found-expect.false ∙ sym c.in-Some.ensures.same)) c.find-found.ensures.led)
