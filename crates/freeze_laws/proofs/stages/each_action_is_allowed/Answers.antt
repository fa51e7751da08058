use Rattle.freeze_laws.proofs.stages.CitedLaws.{actions_are_allowed, actions_have_their_effect}
use Rattle.freeze_laws.proofs.stages.each_action_is_allowed.Goals as goal

pub returns : goal.returns
returns c = record { allowed = actions_are_allowed; effects = actions_have_their_effect }
