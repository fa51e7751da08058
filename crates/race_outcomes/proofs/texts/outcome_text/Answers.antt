use Rattle.std.{proofs.{Common.{Some, ap, arith, inl, inr, subst, sym, take, ◌∙◌, ◌≡◌}, lemmas.Bool.Decides.eqb_tells}, specs.List.{All, slice_get}}
use Rattle.races.specs.declared.courses.CallAnswers.{CallAnswers}
use Rattle.schedule_lines.{proofs.Printed.{prints_nothing, prints_same}, specs.{Printed.Prints, declared.output.Output.Output}}
use Rattle.transcripts.proofs.Texts.{one_more}
use Rattle.race_outcomes.proofs.{Fitting.some_same, texts.outcome_text.Goals.{in-Some, in_default}}
use Rattle.race_outcomes.specs.Texts.{NumberFits, course_part, task_part}
use Rattle.race_outcomes.proofs.texts.outcome_text.Goals as goal

pub loop-task-preserved : goal.loop-task-preserved
loop-task-preserved c =
    let calls = c.args.race.now.calls.items in
    let courses = c.args.courses.now in
    let task = c.loop-task.task in
    let before = c.loop-task.out in
    let after = c.match-course_of.out in
    let there = sym c.course_of.ensures in
    let more : Prints before after (task_part calls courses task) = elim c.match-course_of.branch [
      | in-Some w ↦
          subst (λ (o : Output). Prints before o (task_part calls courses task)) (sym w.out-is)
          (prints_same w.print_course.ensures.printed (sym (ap (course_part calls task) (there ∙ w.in-Some.is))))
      | in_default w ↦
          subst (λ (o : Output). Prints before o (task_part calls courses task)) (sym w.out-is)
          (prints_same (prints_nothing before) (sym (ap (course_part calls task) (there ∙ w.in_default.is))))
    ] in
    let numbers : (course : CallAnswers) → slice_get courses task ≡ Some course → All NumberFits (take course.turn course.answers) =
    elim c.match-course_of.branch [
      | in-Some w ↦ λ course e.
          subst (λ (x : CallAnswers). All NumberFits (take x.turn x.answers)) (some_same (sym (there ∙ w.in-Some.is) ∙ e)) w.print_course.ensures.numbers
      | in_default w ↦ λ course e. let none = sym (there ∙ w.in_default.is) ∙ e in cc
    ] in
    record {
      printed = one_more (task_part calls courses) task c.loop-task.invariant.printed more;
      numbers = λ t below. elim (eqb_tells t task) [
        | inl same ↦ subst (λ u. (course : CallAnswers) → slice_get courses u ≡ Some course → All NumberFits (take course.turn course.answers))
            (sym same.1) numbers
        | inr apart ↦ c.loop-task.invariant.numbers t (omega (arith, below, apart.1))
      ];
    }
