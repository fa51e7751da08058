-- each level goes on from what the one above it left
use Rattle.call_ends.proofs.Prelude.{led_on, led_to, still_stands, sym}
use Rattle.call_ends.proofs.thaw_lines.reopen_all.Goals as goal

pub reopen-requires : goal.reopen-requires
reopen-requires c = still_stands c.find-stored.ensures.led c.requires

pub returns-then-not-reopen : goal.returns-then-not-reopen
returns-then-not-reopen c = led_to (sym c.exit_again.ensures) (led_on c.find-stored.ensures.led c.if-not-reopen.ensures)

pub reopen-requires-2 : goal.reopen-requires-2
reopen-requires-2 c = still_stands (led_on c.find-stored.ensures.led c.if-not-reopen.ensures) c.requires

pub returns-then-not-reopen-2 : goal.returns-then-not-reopen-2
returns-then-not-reopen-2 c = led_to (sym c.exit_again-then-not-reopen-2.ensures) (led_on (led_on c.find-stored.ensures.led c.if-not-reopen.ensures) c.if-not-reopen-2.ensures)

pub reopen-requires-3 : goal.reopen-requires-3
reopen-requires-3 c = still_stands (led_on (led_on c.find-stored.ensures.led c.if-not-reopen.ensures) c.if-not-reopen-2.ensures) c.requires

pub returns-then-not-reopen-3 : goal.returns-then-not-reopen-3
returns-then-not-reopen-3 c = led_to (sym c.exit_again-then-not-reopen-3.ensures) (led_on (led_on (led_on c.find-stored.ensures.led c.if-not-reopen.ensures) c.if-not-reopen-2.ensures) c.if-not-reopen-3.ensures)

pub find-freed-requires-clause-stands : goal.find-freed-requires-clause-stands
find-freed-requires-clause-stands c = still_stands (led_on (led_on (led_on c.find-stored.ensures.led c.if-not-reopen.ensures) c.if-not-reopen-2.ensures) c.if-not-reopen-3.ensures) c.requires

pub returns : goal.returns
returns c = led_on (led_on (led_on (led_on c.find-stored.ensures.led c.if-not-reopen.ensures) c.if-not-reopen-2.ensures) c.if-not-reopen-3.ensures) c.find-freed.ensures.led
