-- the exchange goes on from the load
use Rattle.call_ends.proofs.Prelude.{Go, ap, closing_at, led_on, led_to, still_stands, sym, ◌∙◌}
use Rattle.call_ends.proofs.Closing.{entered_not, entered_so, enters_on}
use Rattle.call_ends.proofs.closings.enter.Goals as goal

pub find-found-requires-clause-stands : goal.find-found-requires-clause-stands
find-found-requires-clause-stands c =
    still_stands (led_to (enters_on c.args.freeze.now c.args.level c.find-expect.result c.in-Some.from c.in-Some-on_enter.to c.in-Some.ensures.word
    c.in-Some-on_enter.ensures.word) c.find-expect.ensures.led) c.requires

pub returns-then-found-expect : goal.returns-then-found-expect
returns-then-found-expect c =
    led_on (led_to (enters_on c.args.freeze.now c.args.level c.find-expect.result c.in-Some.from c.in-Some-on_enter.to c.in-Some.ensures.word
    c.in-Some-on_enter.ensures.word) c.find-expect.ensures.led)
    (led_to (entered_so c.args.freeze.now c.args.level c.find-found.result c.in-Some.from c.in-Some-on_enter.to
    (c.if-found-expect.true ∙ sym c.in-Some.ensures.same)
    ∙ ap (λ s. Go (closing_at c.args.freeze.now c.args.level s)) (sym c.entered.ensures)) c.find-found.ensures.led)

pub returns-else-found-expect : goal.returns-else-found-expect
returns-else-found-expect c =
    led_on (led_to (enters_on c.args.freeze.now c.args.level c.find-expect.result c.in-Some.from c.in-Some-on_enter.to c.in-Some.ensures.word
    c.in-Some-on_enter.ensures.word) c.find-expect.ensures.led)
    (led_to (entered_not c.args.freeze.now c.args.level c.find-found.result c.in-Some.from c.in-Some-on_enter.to
    (λ same. c.if-found-expect.false (same ∙ c.in-Some.ensures.same))) c.find-found.ensures.led)
