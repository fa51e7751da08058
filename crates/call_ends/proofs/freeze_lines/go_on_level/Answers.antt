-- what comes goes on from the closing
use Rattle.call_ends.proofs.Prelude.{asking_on, led_from, led_to, led_unasked, refl, stands_from, still_stands}
use Rattle.call_ends.proofs.Closing.{closed_so, closing_of, not_closed}
use Rattle.call_ends.proofs.freeze_lines.go_on_level.Goals as goal

pub go_on_closing-requires : goal.go_on_closing-requires
go_on_closing-requires g c =
    stands_from (closing_of c.args.freeze.now c.args.write.level c.args.write refl c.if-write-freeze.false c.if-write-freeze-2.false) c.requires

pub go_on_closed-requires : goal.go_on_closed-requires
go_on_closed-requires g c =
    still_stands (led_from (closing_of c.args.freeze.now c.args.write.level c.args.write refl c.if-write-freeze.false c.if-write-freeze-2.false) (led_to (closed_so c.args.freeze.now c.args.write.level c.go_on_closing.result c.go_on_closing.new.rest c.if-go_on_closing.true) c.go_on_closing.ensures)) c.requires

pub returns-then-go_on_closing : goal.returns-then-go_on_closing
returns-then-go_on_closing g c =
    asking_on (led_unasked (led_from (closing_of c.args.freeze.now c.args.write.level c.args.write refl c.if-write-freeze.false c.if-write-freeze-2.false) (led_to (closed_so c.args.freeze.now c.args.write.level c.go_on_closing.result c.go_on_closing.new.rest c.if-go_on_closing.true) c.go_on_closing.ensures)) refl) c.go_on_closed.ensures

pub returns : goal.returns
returns g c =
    led_unasked (led_from (closing_of c.args.freeze.now c.args.write.level c.args.write refl c.if-write-freeze.false c.if-write-freeze-2.false) (led_to (not_closed c.args.freeze.now c.args.write.level c.go_on_closing.result c.go_on_closing.new.rest c.if-go_on_closing.false) c.go_on_closing.ensures)) refl
