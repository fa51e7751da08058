use Rattle.cpu_words.specs.declared.names.WordName.TheVariants.{Kids}
use Rattle.transcripts.specs.Transcript.{word_text}
use Rattle.transcripts.proofs.Texts.{one_more}
use Rattle.transcripts.proofs.session.Session.print_kids.Goals as goal

pub loop-node-preserved : goal.loop-node-preserved
loop-node-preserved g c =
    one_more (λ i. word_text (Kids i) (g.D.Driver.word_of c.args.self.now.driver (Kids i))) c.loop-node.node c.loop-node.invariant
    c.print_word.ensures
