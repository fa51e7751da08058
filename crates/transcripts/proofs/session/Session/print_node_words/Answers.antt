use Rattle.cpu_words.specs.declared.names.WordName.TheVariants.{Node}
use Rattle.transcripts.specs.Transcript.{word_text}
use Rattle.transcripts.proofs.Texts.{one_more}
use Rattle.transcripts.proofs.session.Session.print_node_words.Goals as goal

pub loop-node-preserved : goal.loop-node-preserved
loop-node-preserved g c =
    one_more (λ i. word_text (Node i) (g.D.Driver.word_of c.args.self.now.driver (Node i))) c.loop-node.node c.loop-node.invariant
    c.print_word.ensures
