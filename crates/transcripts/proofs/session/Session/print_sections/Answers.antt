use Rattle.cpu_words.specs.declared.names.WordName.TheVariants.{Section}
use Rattle.transcripts.specs.Transcript.{word_text}
use Rattle.transcripts.proofs.Texts.{one_more}
use Rattle.transcripts.proofs.session.Session.print_sections.Goals as goal

pub loop-task-preserved : goal.loop-task-preserved
loop-task-preserved g c =
    one_more (λ i. word_text (Section i) (g.D.Driver.word_of c.args.self.now.driver (Section i))) c.loop-task.task c.loop-task.invariant
    c.print_word.ensures
