use Rattle.freeze_laws.proofs.stages.CitedLaws.{freeze_is_under_way, freeze_keeps_others_out, only_the_freeze_moves_the_stage, positions_are_alone}
use Rattle.freeze_laws.proofs.stages.one_freeze_is_under_way.Goals as goal

pub returns : goal.returns
returns c = record {
  freezes = freeze_is_under_way;
  keeps_out = freeze_keeps_others_out;
  alone = positions_are_alone;
  moves = only_the_freeze_moves_the_stage;
}
