-- the closing goes on from what `sync` has answered
use Rattle.call_ends.proofs.Prelude.{ap, asking_on, asking_stands, led_to, led_unasked, refl, still_stands, sym}
use Rattle.call_ends.{proofs.Closing.{closed_so, not_closed, syncs_leave}, specs.Closings.of_freeze}
use Rattle.gate_steps.proofs.call_events.Leading.{asking_to}
use Rattle.call_ends.proofs.freeze_lines.close_third.Goals as goal

pub find_asking-answer-requires-clause-leaves : goal.find_asking-answer-requires-clause-leaves
find_asking-answer-requires-clause-leaves g c =
    λ found hook. syncs_leave c.args.freeze.now c.args.accesses.now found hook

pub returns-in-Err : goal.returns-in-Err
returns-in-Err g c =
    asking_to (ap of_freeze (sym c.fail.ensures)) c.in-Err.ensures.1

pub close_level-requires : goal.close_level-requires
close_level-requires g c =
    asking_stands c.in_default.ensures.1 c.requires

pub complete-requires : goal.complete-requires
complete-requires g c =
    still_stands (led_to (closed_so c.args.freeze.now 3 c.close_level.result c.close_level.new.rest c.if-close_level.true) c.close_level.ensures) (asking_stands c.in_default.ensures.1 c.requires)

pub returns-then-close_level : goal.returns-then-close_level
returns-then-close_level g c =
    asking_on c.in_default.ensures.1 (asking_on (led_unasked (led_to (closed_so c.args.freeze.now 3 c.close_level.result c.close_level.new.rest c.if-close_level.true) c.close_level.ensures) refl) c.complete.ensures)

pub returns : goal.returns
returns g c =
    asking_on c.in_default.ensures.1 (led_unasked (led_to (not_closed c.args.freeze.now 3 c.close_level.result c.close_level.new.rest c.if-close_level.false) c.close_level.ensures) refl)
