use Rattle.std.specs.List.{flat_map}
use Rattle.schedule_lines.specs.Printed.{Prints}
use Rattle.transcripts.specs.Transcript.{count_up, mount_words, texts_of}
use Rattle.transcripts.proofs.session.Session.print_words_of_mounts.Given as goal

-- what the mounts so far print
abbrev pub invariant-loop-mount : goal.invariant-loop-mount
invariant-loop-mount g l =
    Prints l.initial.out l.out (flat_map (λ m. texts_of (g.D.Driver.word_of l.self.driver) (mount_words l.self.config m)) (count_up l.mount))
