use Rattle.std.proofs.{Common.{List, None, Option, [], ap, arith, get_or, length, subst, sym, take, ◌<◌, ◌∙◌}, lemmas.List.Elements.All-push}
use Rattle.std.{proofs.lemmas.List.{flat_map_more, take_more}, specs.List.{All, flat_map}}
use Rattle.{races.specs.Courses.Answer, schedule_lines.proofs.Printed.{prints_both, prints_same}}
use Rattle.race_outcomes.specs.Texts.{NumberFits, answer_part}
use Rattle.race_outcomes.proofs.texts.print_course.Goals as goal

pub loop-turn-preserved : goal.loop-turn-preserved
loop-turn-preserved c =
    let answers = c.args.course.answers in
    let turn = c.loop-turn.turn in
    let within : turn < length answers = omega arith in
    let one_more = sym (take_more answers turn None within) in
    let here = get_or answers turn None in
    record {
      printed = prints_same (prints_both c.loop-turn.invariant.printed c.print_answer.ensures.printed)
          (flat_map_more (answer_part c.args.task) [] (take turn answers) here
          ∙ ap (λ (xs : List (Option Answer)). flat_map (answer_part c.args.task) xs) one_more);
      numbers = subst (All NumberFits) one_more
          (All-push NumberFits (take turn answers) here c.loop-turn.invariant.numbers c.print_answer.ensures.numbers);
    }
