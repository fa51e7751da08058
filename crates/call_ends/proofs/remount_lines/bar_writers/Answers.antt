-- each step goes on from what the one before it left
use Rattle.call_ends.proofs.Prelude.{arith, asking_on, led_on, led_to, led_unasked, refl, still_stands, sym}
use Rattle.call_ends.proofs.Remounting.{none_removed_again}
use Rattle.call_ends.proofs.remount_lines.bar_writers.Goals as goal

pub returns-then-removed-ne0 : goal.returns-then-removed-ne0
returns-then-removed-ne0 g c = led_unasked (led_to (sym c.leave.ensures) c.find-removed.ensures.led) refl

pub find-stored-requires-clause-stands : goal.find-stored-requires-clause-stands
find-stored-requires-clause-stands g c = still_stands (led_to (none_removed_again c.args.remount c.args.held c.find-removed.result (omega arith)) c.find-removed.ensures.led) c.requires

pub let_mounts_go-requires : goal.let_mounts_go-requires
let_mounts_go-requires g c = still_stands (led_on (led_to (none_removed_again c.args.remount c.args.held c.find-removed.result (omega arith)) c.find-removed.ensures.led) (c.find-stored.ensures.led)) c.requires

pub clean-requires : goal.clean-requires
clean-requires g c = still_stands (led_on (led_on (led_to (none_removed_again c.args.remount c.args.held c.find-removed.result (omega arith)) c.find-removed.ensures.led) (c.find-stored.ensures.led)) (c.let_mounts_go.ensures)) c.requires

pub end_read_only-requires : goal.end_read_only-requires
end_read_only-requires g c = still_stands (led_on (led_on (led_on (led_to (none_removed_again c.args.remount c.args.held c.find-removed.result (omega arith)) c.find-removed.ensures.led) (c.find-stored.ensures.led)) (c.let_mounts_go.ensures)) (c.clean.ensures)) c.requires

pub returns : goal.returns
returns g c = asking_on (led_unasked (led_on (led_on (led_on (led_to (none_removed_again c.args.remount c.args.held c.find-removed.result (omega arith)) c.find-removed.ensures.led) (c.find-stored.ensures.led)) (c.let_mounts_go.ensures)) (c.clean.ensures)) refl) c.end_read_only.ensures
