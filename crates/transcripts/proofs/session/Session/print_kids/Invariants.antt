use Rattle.std.specs.List.{flat_map}
use Rattle.cpu_words.specs.declared.names.WordName.TheVariants.{Kids}
use Rattle.schedule_lines.specs.Printed.{Prints}
use Rattle.transcripts.specs.Transcript.{count_up, word_text}
use Rattle.transcripts.proofs.session.Session.print_kids.Given as goal

-- what the nodes so far print
abbrev pub invariant-loop-node : goal.invariant-loop-node
invariant-loop-node g l =
    Prints l.initial.out l.out (flat_map (λ n. word_text (Kids n) (g.D.Driver.word_of l.self.driver (Kids n))) (count_up l.node))
