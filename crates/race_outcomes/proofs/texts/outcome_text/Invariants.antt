use Rattle.std.specs.List.{flat_map}
use Rattle.{schedule_lines.specs.Printed.Prints, transcripts.specs.Transcript.count_up}
use Rattle.race_outcomes.specs.Texts.{NumbersFit, task_part}
use Rattle.race_outcomes.proofs.texts.outcome_text.Given as goal

-- what the tasks so far print, and that their numbers fit
abbrev pub invariant-loop-task : goal.invariant-loop-task
invariant-loop-task l = record {
  printed : Prints l.initial.out l.out (flat_map (task_part l.race.calls.items l.courses) (count_up l.task));
  numbers : NumbersFit l.task l.courses;
}
