use Rattle.std.{proofs.Common.take, specs.List.{All, flat_map}}
use Rattle.schedule_lines.specs.Printed.{Prints}
use Rattle.race_outcomes.specs.Texts.{NumberFits, answer_part}
use Rattle.race_outcomes.proofs.texts.print_course.Given as goal

-- what the answers so far print, and that their numbers fit
abbrev pub invariant-loop-turn : goal.invariant-loop-turn
invariant-loop-turn l = record {
  printed : Prints l.initial.out l.out (flat_map (answer_part l.task) (take l.turn l.course.answers));
  numbers : All NumberFits (take l.turn l.course.answers);
}
