use Rattle.freeze_laws.proofs.levels.CitedLaws.{enters_alone, events_keep, opening_is_right, writers_find}
use Rattle.freeze_laws.proofs.levels.events_keep_the_level.Goals as goal

pub returns : goal.returns
returns c = record { opens = opening_is_right; keeps = events_keep; alone = enters_alone; finds = writers_find }
