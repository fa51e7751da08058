-- each step goes on from what the one before it left
use Rattle.call_ends.proofs.Prelude.{arith, asking_on, led_on, led_to, led_unasked, refl, still_stands, sym}
use Rattle.call_ends.proofs.Remounting.{none_removed}
use Rattle.call_ends.proofs.remount_lines.make_read_only.Goals as goal

pub returns-then-removed-ne0 : goal.returns-then-removed-ne0
returns-then-removed-ne0 g c = led_unasked (led_to (sym c.leave.ensures) c.find-removed.ensures.led) refl

pub hold_mounts-requires : goal.hold_mounts-requires
hold_mounts-requires g c = still_stands (led_to (none_removed c.args.remount c.find-removed.result (omega arith)) c.find-removed.ensures.led) c.requires

pub returns-in_default : goal.returns-in_default
returns-in_default g c = led_unasked (led_on (led_to (none_removed c.args.remount c.find-removed.result (omega arith)) c.find-removed.ensures.led) c.in_default.ensures) refl

pub bar_writers-requires : goal.bar_writers-requires
bar_writers-requires g c = still_stands (led_on (led_to (none_removed c.args.remount c.find-removed.result (omega arith)) c.find-removed.ensures.led) c.in-Some.ensures) c.requires

pub returns : goal.returns
returns g c = asking_on (led_unasked (led_on (led_to (none_removed c.args.remount c.find-removed.result (omega arith)) c.find-removed.ensures.led) c.in-Some.ensures) refl) c.bar_writers.ensures
