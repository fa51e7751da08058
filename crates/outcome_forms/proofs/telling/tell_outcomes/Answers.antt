use Rattle.std.proofs.{Common.{ap, arith, length, ◌<◌}, lemmas.Result.on_ok_weaker}
use Rattle.{race_outcomes.specs.Briefly.line_of, schedule_lines.proofs.Printed.{prints_both, prints_same}}
use Rattle.outcome_forms.{proofs.Parts.{none_told, one_told}, specs.Told.{AsksNone, margin_of, mark_of}}
use Rattle.outcome_forms.proofs.telling.tell_outcomes.Goals as goal

pub loop-outcome-init : goal.loop-outcome-init
loop-outcome-init c = none_told _ _ _ _ _

pub loop-outcome-preserved : goal.loop-outcome-preserved
loop-outcome-preserved c =
    let within : c.loop-outcome.outcome-index < length c.deref-outcome-items.result.now = omega arith in
    one_told (mark_of c.args.details.schedules) (margin_of c.args.details.schedules) (AsksNone c.args.details) c.deref-outcome-items.result.now
    c.loop-outcome.outcome-index c.outcome-item.result c.args.out.now c.loop-outcome.out c.line.new.self c.tell_under.new.out within c.outcome-item.is
    c.loop-outcome.invariant
    (prints_both (prints_same c.text.ensures.printed c.mark.ensures) (prints_same c.line.ensures (ap line_of c.as_slice.ensures.value)))
    c.in_ok-tell_under.ensures

pub returns-clause-whole : goal.returns-clause-whole
returns-clause-whole c = on_ok_weaker c.settled.result (λ h. c.loop-outcome.invariant.printed.whole h) c.settled.ensures.whole
