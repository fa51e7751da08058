use Rattle.std.specs.List.{flat_map}
use Rattle.access_model.specs.Histories.{end_of}
use Rattle.schedule_lines.specs.Printed.{Prints}
use Rattle.transcripts.specs.{Sessions.{ShowsPlay}, Transcript.{ReplayState, count_up, task_text}}
use Rattle.transcripts.proofs.session.Session.print_holders.Given as goal

-- what the tasks so far print
abbrev pub invariant-loop-task : goal.invariant-loop-task
invariant-loop-task g l = (p : ReplayState) → ShowsPlay g.D.Driver.shows l.self p →
    Prints l.initial.out l.out (flat_map (task_text p.config (end_of p.done)) (count_up l.task))
