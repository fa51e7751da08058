-- the end goes on from what `freeze_fs` has answered
use Rattle.call_ends.proofs.Prelude.{Go, ap, asking_on, asking_stands, led_unasked, refl, standing, sym}
use Rattle.{freeze_levels.specs.declared.freezes.FreezeStep.TheVariants.Holds, gate_steps.proofs.call_events.Leading.asking_to}
use Rattle.call_ends.{proofs.Closing.completes_leave, specs.Closings.of_freeze}
use Rattle.call_ends.proofs.freeze_lines.complete.Goals as goal

pub find_asking-answer-requires-clause-leaves : goal.find_asking-answer-requires-clause-leaves
find_asking-answer-requires-clause-leaves g c =
    λ found hook. completes_leave c.args.freeze.now c.args.accesses.now found hook

pub returns-in-Err : goal.returns-in-Err
returns-in-Err g c =
    asking_to (ap of_freeze (sym c.fail.ensures)) c.in-Err.ensures.1

pub end_freeze-requires : goal.end_freeze-requires
end_freeze-requires g c =
    asking_stands (asking_to (ap (λ h. Go (standing c.args.freeze.now (Holds h))) (sym c.none.ensures)) c.in_default.ensures.1) c.requires

pub returns : goal.returns
returns g c =
    asking_on (asking_to (ap (λ h. Go (standing c.args.freeze.now (Holds h))) (sym c.none.ensures)) c.in_default.ensures.1)
    (led_unasked c.end_freeze.ensures refl)
