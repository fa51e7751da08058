use Rattle.std.specs.List.{flat_map}
use Rattle.cpu_words.specs.declared.names.WordName.TheVariants.{LevelCount}
use Rattle.schedule_lines.specs.Printed.{Prints}
use Rattle.transcripts.specs.Transcript.{count_up, word_text}
use Rattle.transcripts.proofs.session.Session.print_level_words.Given as goal

-- what the counts so far print
abbrev pub invariant-loop-cpu : goal.invariant-loop-cpu
invariant-loop-cpu g l =
    Prints l.initial.out l.out (flat_map (λ i. word_text (LevelCount l.level i) (g.D.Driver.word_of l.self.driver (LevelCount l.level i))) (count_up l.cpu))
