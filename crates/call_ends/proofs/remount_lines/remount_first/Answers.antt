-- the steps under `umount` go on from its taking
use Rattle.call_ends.proofs.Prelude.{arith, asking_on, led_to, led_unasked, refl, still_stands, sym}
use Rattle.call_ends.proofs.Remounting.{locked}
use Rattle.call_ends.proofs.remount_lines.remount_first.Goals as goal

pub returns-then-taken-ne0 : goal.returns-then-taken-ne0
returns-then-taken-ne0 g c =
    led_unasked (led_to (sym c.leave.ensures) c.find_first-taken.ensures.led) refl

pub remount_locked-requires : goal.remount_locked-requires
remount_locked-requires g c = still_stands (led_to (locked c.args.remount c.find_first-taken.result (omega arith)) c.find_first-taken.ensures.led) c.requires

pub returns : goal.returns
returns g c = asking_on (led_unasked (led_to (locked c.args.remount c.find_first-taken.result (omega arith)) c.find_first-taken.ensures.led) refl) c.remount_locked.ensures
