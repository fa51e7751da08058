use Rattle.std.proofs.Common.{refl}
use Rattle.transcripts.proofs.Showing.{after_begin}
use Rattle.transcripts.proofs.session.Session.try_begin.Goals as goal

pub returns-clause-answer : goal.returns-clause-answer
returns-clause-answer g c p h = c.begin.ensures.answer p.config p.world h.driver

pub returns-clause-shows : goal.returns-clause-shows
returns-clause-shows g c p h = after_begin _ _ p _ c.args.op h refl refl c.begin.ensures.shows
