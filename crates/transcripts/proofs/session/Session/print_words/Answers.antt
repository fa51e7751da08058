use Rattle.std.proofs.Common.{◌∙◌, ap}
use Rattle.gate_world.specs.declared.config.Config.{Config}
use Rattle.schedule_lines.proofs.Printed.{prints_same}
use Rattle.transcripts.specs.Transcript.{texts_of, printed_words}
use Rattle.transcripts.proofs.Texts.{all_words, shown_words}
use Rattle.transcripts.proofs.session.Session.print_words.Goals as goal

pub returns-clause-own : goal.returns-clause-own
returns-clause-own g c =
    let s = c.args.self.now in
    all_words (g.D.Driver.word_of s.driver) s.config c.print_words_of_all.ensures c.print_words_of_mounts.ensures
    c.print_level_words.ensures c.print_level_words-2.ensures c.print_level_words-3.ensures c.print_sections.ensures

pub returns-clause-shown : goal.returns-clause-shown
returns-clause-shown g c p h =
    let s = c.args.self.now in
    let value = g.D.Driver.word_of s.driver in
    prints_same (returns-clause-own g c)
    (ap (λ (x : Config). texts_of value (printed_words x)) h.config
    ∙ shown_words value p (λ name there. g.met.D.Driver.tells s.driver p.config p.world name h.driver there))
