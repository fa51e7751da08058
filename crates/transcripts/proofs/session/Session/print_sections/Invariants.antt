use Rattle.std.specs.List.{flat_map}
use Rattle.cpu_words.specs.declared.names.WordName.TheVariants.{Section}
use Rattle.schedule_lines.specs.Printed.{Prints}
use Rattle.transcripts.specs.Transcript.{count_up, word_text}
use Rattle.transcripts.proofs.session.Session.print_sections.Given as goal

-- what the sections so far print
abbrev pub invariant-loop-task : goal.invariant-loop-task
invariant-loop-task g l =
    Prints l.initial.out l.out (flat_map (λ t. word_text (Section t) (g.D.Driver.word_of l.self.driver (Section t))) (count_up l.task))
