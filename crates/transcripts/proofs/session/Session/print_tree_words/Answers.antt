use Rattle.std.proofs.Common.{◌∙◌, ap}
use Rattle.gate_world.specs.declared.config.Config.{Config}
use Rattle.schedule_lines.proofs.Printed.{prints_same}
use Rattle.transcripts.specs.Transcript.{texts_of, printed_tree_words}
use Rattle.transcripts.proofs.Texts.{all_tree_words, shown_tree_words}
use Rattle.transcripts.proofs.session.Session.print_tree_words.Goals as goal

pub returns-clause-own : goal.returns-clause-own
returns-clause-own g c =
    let s = c.args.self.now in
    all_tree_words (g.D.Driver.word_of s.driver) s.config c.print_word.ensures c.print_node_words.ensures c.print_kids.ensures

pub returns-clause-shown : goal.returns-clause-shown
returns-clause-shown g c p h =
    let s = c.args.self.now in
    let value = g.D.Driver.word_of s.driver in
    prints_same (returns-clause-own g c)
    (ap (λ (x : Config). texts_of value (printed_tree_words x)) h.config
    ∙ shown_tree_words value p (λ name there. g.met.D.Driver.tells s.driver p.config p.world name h.driver there))
