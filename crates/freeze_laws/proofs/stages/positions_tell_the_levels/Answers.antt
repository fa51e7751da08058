use Rattle.freeze_laws.proofs.stages.CitedLaws.{frozen_as_a_whole, levels_pass_in_order, nobody_at_stage_four, open_elsewhere}
use Rattle.freeze_laws.proofs.stages.CitedLaws.{positions_tell_the_levels}
use Rattle.freeze_laws.proofs.stages.positions_tell_the_levels.Goals as goal

pub returns : goal.returns
returns c = record {
  positions = positions_tell_the_levels;
  frozen = frozen_as_a_whole;
  at_four = nobody_at_stage_four;
  elsewhere = open_elsewhere;
  order = levels_pass_in_order;
}
