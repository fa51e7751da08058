-- each step goes on from what the one before it left
use Rattle.call_ends.proofs.Prelude.{led_on, led_to, still_stands, sym, ◌∙◌}
use Rattle.call_ends.proofs.CallingBack.{called_false, called_true, claimed_not, claimed_so, claims_on}
use Rattle.call_ends.proofs.callbacks.callback_first.Goals as goal

pub find-found-requires-clause-stands : goal.find-found-requires-clause-stands
find-found-requires-clause-stands c =
    still_stands (led_to (claims_on c.args.level c.args.tasks c.find_first-expect.result c.in-Some.from c.in-Some-on_claim.to c.in-Some.ensures.word
    c.in-Some-on_claim.ensures.word) c.find_first-expect.ensures.led) c.requires

pub returns-then-found-expect : goal.returns-then-found-expect
returns-then-found-expect c =
    led_on (led_to (claims_on c.args.level c.args.tasks c.find_first-expect.result c.in-Some.from c.in-Some-on_claim.to c.in-Some.ensures.word
    c.in-Some-on_claim.ensures.word) c.find_first-expect.ensures.led)
    (led_to (claimed_not c.args.level c.args.tasks c.find-found.result c.in-Some.from c.in-Some-on_claim.to
    (λ same. c.if-found-expect.true (same ∙ c.in-Some.ensures.same))) c.find-found.ensures.led)

pub run_callback-requires : goal.run_callback-requires
run_callback-requires c =
    still_stands (led_on (led_to (claims_on c.args.level c.args.tasks c.find_first-expect.result c.in-Some.from c.in-Some-on_claim.to c.in-Some.ensures.word
    c.in-Some-on_claim.ensures.word) c.find_first-expect.ensures.led)
    (led_to (claimed_so c.args.level c.args.tasks c.find-found.result c.in-Some.from c.in-Some-on_claim.to c.start-grace.result
    (c.if-found-expect.false ∙ sym c.in-Some.ensures.same) c.start-grace.ensures) c.find-found.ensures.led)) c.requires

pub returns-then-run_callback : goal.returns-then-run_callback
returns-then-run_callback c =
    led_on (led_on (led_to (claims_on c.args.level c.args.tasks c.find_first-expect.result c.in-Some.from c.in-Some-on_claim.to c.in-Some.ensures.word
    c.in-Some-on_claim.ensures.word) c.find_first-expect.ensures.led)
    (led_to (claimed_so c.args.level c.args.tasks c.find-found.result c.in-Some.from c.in-Some-on_claim.to c.start-grace.result
    (c.if-found-expect.false ∙ sym c.in-Some.ensures.same) c.start-grace.ensures) c.find-found.ensures.led))
    (led_to (called_true c.run_callback.result c.run_callback.new.rest c.if-run_callback.true) c.run_callback.ensures)

pub returns : goal.returns
returns c =
    led_on (led_on (led_to (claims_on c.args.level c.args.tasks c.find_first-expect.result c.in-Some.from c.in-Some-on_claim.to c.in-Some.ensures.word
    c.in-Some-on_claim.ensures.word) c.find_first-expect.ensures.led)
    (led_to (claimed_so c.args.level c.args.tasks c.find-found.result c.in-Some.from c.in-Some-on_claim.to c.start-grace.result
    (c.if-found-expect.false ∙ sym c.in-Some.ensures.same) c.start-grace.ensures) c.find-found.ensures.led))
    (led_to (called_false c.run_callback.result c.run_callback.new.rest c.if-run_callback.false) c.run_callback.ensures)
