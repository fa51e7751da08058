-- the closing goes on from the store
use Rattle.call_ends.proofs.Prelude.{asking_on, led_on, led_to, led_unasked, refl, still_stands}
use Rattle.call_ends.proofs.Closing.{closed_so, not_closed}
use Rattle.call_ends.proofs.freeze_lines.close_first.Goals as goal

pub find-freed-requires-clause-stands : goal.find-freed-requires-clause-stands
find-freed-requires-clause-stands g c =
    still_stands c.find-stored.ensures.led c.requires

pub close_level-requires : goal.close_level-requires
close_level-requires g c =
    still_stands (led_on c.find-stored.ensures.led c.find-freed.ensures.led) c.requires

pub lock_again-requires : goal.lock_again-requires
lock_again-requires g c =
    still_stands (led_on (led_on c.find-stored.ensures.led c.find-freed.ensures.led) (led_to (closed_so c.args.freeze.now 1 c.close_level.result c.close_level.new.rest c.if-close_level.true) c.close_level.ensures)) c.requires

pub returns-then-close_level : goal.returns-then-close_level
returns-then-close_level g c =
    asking_on (led_unasked (led_on (led_on c.find-stored.ensures.led c.find-freed.ensures.led) (led_to (closed_so c.args.freeze.now 1 c.close_level.result c.close_level.new.rest c.if-close_level.true) c.close_level.ensures)) refl) c.lock_again.ensures

pub returns : goal.returns
returns g c =
    led_unasked (led_on (led_on c.find-stored.ensures.led c.find-freed.ensures.led) (led_to (not_closed c.args.freeze.now 1 c.close_level.result c.close_level.new.rest c.if-close_level.false) c.close_level.ensures)) refl
