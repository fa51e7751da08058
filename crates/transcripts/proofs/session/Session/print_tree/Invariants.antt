use Rattle.std.specs.List.{flat_map}
use Rattle.access_model.specs.Histories.{end_of}
use Rattle.schedule_lines.specs.Printed.{Prints}
use Rattle.transcripts.specs.{Sessions.{ShowsPlay}, Transcript.{ReplayState, count_up, tree_line}}
use Rattle.transcripts.proofs.session.Session.print_tree.Given as goal

-- what the nodes so far print
abbrev pub invariant-loop-node : goal.invariant-loop-node
invariant-loop-node g l = (p : ReplayState) → ShowsPlay g.D.Driver.shows l.self p →
    Prints l.initial.out l.out (flat_map (tree_line (end_of p.done)) (count_up l.node))
