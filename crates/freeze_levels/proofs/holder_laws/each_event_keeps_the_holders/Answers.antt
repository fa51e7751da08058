use Rattle.freeze_levels.proofs.holder_laws.HolderLaws.{events_keep, opens}
use Rattle.freeze_levels.proofs.holder_laws.each_event_keeps_the_holders.Goals as goal

pub returns : goal.returns
returns c = record { begins = opens; keeps = events_keep }
