use Rattle.freeze_levels.proofs.holder_laws.HolderLaws.{held_exactly, roles_tell}
use Rattle.freeze_levels.proofs.holder_laws.the_holders_tell.Goals as goal

pub returns : goal.returns
returns c = record { exactly = held_exactly; roles = roles_tell }
