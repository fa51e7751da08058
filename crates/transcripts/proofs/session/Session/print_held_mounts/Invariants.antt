use Rattle.std.proofs.Common.{◌<◌}
use Rattle.std.specs.List.{flat_map}
use Rattle.access_model.specs.Histories.{end_of}
use Rattle.schedule_lines.specs.Printed.{Prints}
use Rattle.transcripts.specs.{Sessions.{ShowsPlay}, Transcript.{ReplayState, count_up, held_line}}
use Rattle.transcripts.proofs.session.Session.print_held_mounts.Given as goal

-- what the mounts so far print
abbrev pub invariant-loop-mount : goal.invariant-loop-mount
invariant-loop-mount g l = (p : ReplayState) → ShowsPlay g.D.Driver.shows l.self p → l.task < p.config.tasks →
    Prints l.initial.out l.out (flat_map (held_line (end_of p.done) l.task) (count_up l.mount))
