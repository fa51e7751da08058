use Rattle.std.proofs.Common.{ap, arith, length, ◌<◌, ◌≤◌}
use Rattle.schedule_lines.proofs.Printed.{prints_nothing, prints_same}
use Rattle.race_outcomes.{proofs.OutcomeLines.{all_lines, one_more}, specs.Briefly.line_of}
use Rattle.race_outcomes.proofs.briefly.print_lines.Goals as goal

pub loop-outcome-init : goal.loop-outcome-init
loop-outcome-init c = prints_nothing _

pub loop-outcome-preserved : goal.loop-outcome-preserved
loop-outcome-preserved c =
    let within : c.loop-outcome.outcome-index < length c.args.outcomes.now = omega arith in
    one_more c.args.outcomes.now c.loop-outcome.outcome-index c.outcome-item.result c.args.out.now c.loop-outcome.out c.line.new.self within
    c.outcome-item.is c.loop-outcome.invariant (prints_same c.line.ensures (ap line_of c.as_slice.ensures.value))

pub returns : goal.returns
returns c =
    let all : length c.args.outcomes.now ≤ c.loop-outcome.outcome-index = omega arith in
    all_lines c.args.outcomes.now c.loop-outcome.outcome-index c.args.out.now c.loop-outcome.out all c.loop-outcome.invariant
