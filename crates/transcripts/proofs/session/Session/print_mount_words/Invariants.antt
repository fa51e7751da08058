use Rattle.std.specs.List.{flat_map}
use Rattle.cpu_words.specs.declared.names.WordName.TheVariants.{MountCount}
use Rattle.schedule_lines.specs.Printed.{Prints}
use Rattle.transcripts.specs.Transcript.{count_up, word_text}
use Rattle.transcripts.proofs.session.Session.print_mount_words.Given as goal

-- what the counts so far print
abbrev pub invariant-loop-cpu : goal.invariant-loop-cpu
invariant-loop-cpu g l =
    Prints l.initial.out l.out (flat_map (λ i. word_text (MountCount l.mount i) (g.D.Driver.word_of l.self.driver (MountCount l.mount i))) (count_up l.cpu))
