use Rattle.std.proofs.Common.{ap, ◌∙◌}
use Rattle.std.specs.Prelude.{unwrap_or}
use Rattle.cpu_words.specs.declared.names.WordName.TheVariants.{Used}
use Rattle.transcripts.proofs.session.Session.used.Goals as goal

pub returns : goal.returns
returns g c p h =
    c.unwrap_or.ensures
    ∙ ap (λ o. unwrap_or o 0) (c.word.ensures ∙ g.met.D.Driver.tells c.args.self.now.driver p.config p.world Used h.driver tt)
