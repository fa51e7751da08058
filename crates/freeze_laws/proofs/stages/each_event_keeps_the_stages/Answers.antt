use Rattle.freeze_laws.proofs.stages.CitedLaws.{events_keep, opening_is_right}
use Rattle.freeze_laws.proofs.stages.each_event_keeps_the_stages.Goals as goal

pub returns : goal.returns
returns c = record { begins = opening_is_right; keeps = events_keep }
