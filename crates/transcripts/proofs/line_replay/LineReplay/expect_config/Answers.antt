use Rattle.std.proofs.Common.{refl, ◌∙◌, sym}
use Rattle.transcripts.proofs.Replaying.{has_play, no_play}
use Rattle.transcripts.proofs.line_replay.LineReplay.expect_config.Goals as goal

pub returns-in-Some-clause-begun : goal.returns-in-Some-clause-begun
returns-in-Some-clause-begun g c play plays = has_play play _ (sym c.in-Some.is ∙ c.tasks.ensures play plays)

pub returns-in-None-clause-fault : goal.returns-in-None-clause-fault
returns-in-None-clause-fault g c play plays = (refl, no_play play (sym c.in-None.is ∙ c.tasks.ensures play plays))
