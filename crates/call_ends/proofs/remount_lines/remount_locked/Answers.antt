-- each step goes on from what the one before it left
use Rattle.call_ends.proofs.Prelude.{ap, arith, asking_on, false, led_on, led_to, led_unasked, refl, still_stands, sym, true}
use Rattle.call_ends.proofs.{Closing.{other_number, same_number}, Remounting.{stage_free, state_found}}
use Rattle.std.specs.Prelude.{not}
use Rattle.call_ends.proofs.remount_lines.remount_locked.Goals as goal

pub returns-then-stage-ne0 : goal.returns-then-stage-ne0
returns-then-stage-ne0 g c = led_unasked (led_to (sym c.leave.ensures) c.find-stage.ensures.led) refl

pub find-flags-requires-clause-stands : goal.find-flags-requires-clause-stands
find-flags-requires-clause-stands g c = still_stands (led_to (stage_free c.args.remount c.find-stage.result (omega arith)) c.find-stage.ensures.led) c.requires

pub release-requires : goal.release-requires
release-requires g c = still_stands (led_on (led_to (stage_free c.args.remount c.find-stage.result (omega arith)) c.find-stage.ensures.led)
    (led_to (state_found c.args.remount c.find-flags.result true true c.if-remount.true (ap not (other_number c.find-flags.result 0 (λ is. omega arith)))) c.find-flags.ensures.led)) c.requires

pub make_read_only-requires : goal.make_read_only-requires
make_read_only-requires g c = still_stands (led_on (led_to (stage_free c.args.remount c.find-stage.result (omega arith)) c.find-stage.ensures.led)
    (led_to (state_found c.args.remount c.find-flags.result true false c.if-remount.true (ap not (same_number c.find-flags.result 0 (omega arith)))) c.find-flags.ensures.led)) c.requires

pub release-requires-then-flags-eq0 : goal.release-requires-then-flags-eq0
release-requires-then-flags-eq0 g c = still_stands (led_on (led_to (stage_free c.args.remount c.find-stage.result (omega arith)) c.find-stage.ensures.led)
    (led_to (state_found c.args.remount c.find-flags.result false false c.if-remount.false (ap not (same_number c.find-flags.result 0 (omega arith)))) c.find-flags.ensures.led)) c.requires

pub make_writable-requires : goal.make_writable-requires
make_writable-requires g c = still_stands (led_on (led_to (stage_free c.args.remount c.find-stage.result (omega arith)) c.find-stage.ensures.led)
    (led_to (state_found c.args.remount c.find-flags.result false true c.if-remount.false (ap not (other_number c.find-flags.result 0 (λ is. omega arith)))) c.find-flags.ensures.led)) c.requires

pub returns-then-flags-ne0 : goal.returns-then-flags-ne0
returns-then-flags-ne0 g c = led_unasked (led_on (led_on (led_to (stage_free c.args.remount c.find-stage.result (omega arith)) c.find-stage.ensures.led)
    (led_to (state_found c.args.remount c.find-flags.result true true c.if-remount.true (ap not (other_number c.find-flags.result 0 (λ is. omega arith)))) c.find-flags.ensures.led)) c.release.ensures) refl

pub returns-then-remount : goal.returns-then-remount
returns-then-remount g c = asking_on (led_unasked (led_on (led_to (stage_free c.args.remount c.find-stage.result (omega arith)) c.find-stage.ensures.led)
    (led_to (state_found c.args.remount c.find-flags.result true false c.if-remount.true (ap not (same_number c.find-flags.result 0 (omega arith)))) c.find-flags.ensures.led)) refl) c.make_read_only.ensures

pub returns-then-flags-eq0 : goal.returns-then-flags-eq0
returns-then-flags-eq0 g c = led_unasked (led_on (led_on (led_to (stage_free c.args.remount c.find-stage.result (omega arith)) c.find-stage.ensures.led)
    (led_to (state_found c.args.remount c.find-flags.result false false c.if-remount.false (ap not (same_number c.find-flags.result 0 (omega arith)))) c.find-flags.ensures.led)) c.release-then-flags-eq0.ensures) refl

pub returns : goal.returns
returns g c = asking_on (led_unasked (led_on (led_to (stage_free c.args.remount c.find-stage.result (omega arith)) c.find-stage.ensures.led)
    (led_to (state_found c.args.remount c.find-flags.result false true c.if-remount.false (ap not (other_number c.find-flags.result 0 (λ is. omega arith)))) c.find-flags.ensures.led)) refl) c.make_writable.ensures
