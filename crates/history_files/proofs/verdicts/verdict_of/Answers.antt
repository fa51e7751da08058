use Rattle.std.proofs.Common.{◌≡◌, ◌∙◌, ap, ◌<◌, List, length, arith}
use Rattle.gate_world.specs.declared.config.Config.{Config}
use Rattle.histories.specs.declared.markers.Marker.{Marker}
use Rattle.history_files.proofs.Judged.{is_impossible, is_possible, too_many}
use Rattle.history_files.proofs.verdicts.verdict_of.Goals as goal

pub returns-then-is_known-clause-possible : goal.returns-then-is_known-clause-possible
returns-then-is_known-clause-possible g c =
    is_possible c.args.core.now c.in-Ok.history.markers.items c.args.markers.items c.in-Ok.ensures.markers c.in-Ok-judge_history.judged.passed
    c.in-Ok-judge_history.ensures.has

pub returns-then-is_known-clause-impossible : goal.returns-then-is_known-clause-impossible
returns-then-is_known-clause-impossible g c = λ some.
    let same : length c.in-Ok.history.markers.items ≡ length c.args.markers.items = ap (λ (m : List Marker). length m) c.in-Ok.ensures.markers in
    let less : c.in-Ok-judge_history.judged.passed < length c.in-Ok.history.markers.items = omega (arith, some, same) in
    is_impossible c.args.core.now c.in-Ok.history.markers.items c.args.markers.items c.in-Ok.ensures.markers c.in-Ok-judge_history.judged.passed
    (c.in-Ok-judge_history.ensures.most (c.is_known.ensures.known c.if-is_known.true less)) some

pub returns-in-Err-judge_history-clause-too_many : goal.returns-in-Err-judge_history-clause-too_many
returns-in-Err-judge_history-clause-too_many g c = λ recent many. absurd (c.in-Err-judge_history.ensures.not_recent (c.of-in-Err-judge_history.ensures many) recent)

pub returns-else-is_known-clause-too_many : goal.returns-else-is_known-clause-too_many
returns-else-is_known-clause-too_many g c = λ recent many.
    too_many c.args.core.now c.in-Ok.history.markers.items c.args.markers.items c.in-Ok.ensures.markers c.in-Ok.history.tasks c.args.limit
    (c.in-Ok.ensures.tasks ∙ ap (λ (d : Config). d.tasks) c.config.ensures.is) (c.in-Ok-judge_history.ensures.too_many (c.is_known.ensures.unknown c.if-is_known.false))
