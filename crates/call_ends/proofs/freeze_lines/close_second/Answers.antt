-- the closing goes on from the store
use Rattle.call_ends.proofs.Prelude.{asking_on, led_on, led_to, led_unasked, refl, still_stands}
use Rattle.call_ends.proofs.Closing.{closed_so, not_closed}
use Rattle.call_ends.proofs.freeze_lines.close_second.Goals as goal

pub close_level-requires : goal.close_level-requires
close_level-requires g c =
    still_stands c.find-stored.ensures.led c.requires

pub sync-requires : goal.sync-requires
sync-requires g c =
    still_stands (led_on c.find-stored.ensures.led (led_to (closed_so c.args.freeze.now 2 c.close_level.result c.close_level.new.rest c.if-close_level.true) c.close_level.ensures)) c.requires

pub returns-then-close_level : goal.returns-then-close_level
returns-then-close_level g c =
    asking_on (led_unasked (led_on c.find-stored.ensures.led (led_to (closed_so c.args.freeze.now 2 c.close_level.result c.close_level.new.rest c.if-close_level.true) c.close_level.ensures)) refl) c.sync.ensures

pub returns : goal.returns
returns g c =
    led_unasked (led_on c.find-stored.ensures.led (led_to (not_closed c.args.freeze.now 2 c.close_level.result c.close_level.new.rest c.if-close_level.false) c.close_level.ensures)) refl
