use Rattle.std.specs.List.{flat_map}
use Rattle.access_model.specs.Histories.{end_of}
use Rattle.schedule_lines.specs.Printed.{Prints}
use Rattle.transcripts.specs.{Sessions.{ShowsPlay}, Transcript.{ReplayState, count_up, closed_line}}
use Rattle.transcripts.proofs.session.Session.print_closed_mounts.Given as goal

-- what the mounts so far print
abbrev pub invariant-loop-mount : goal.invariant-loop-mount
invariant-loop-mount g l = (p : ReplayState) → ShowsPlay g.D.Driver.shows l.self p →
    Prints l.initial.out l.out (flat_map (closed_line (end_of p.done)) (count_up l.mount))
