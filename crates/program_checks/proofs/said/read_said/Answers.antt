use Rattle.program_checks.proofs.SaidSoFar.{left_after, one_more}
use Rattle.race_files.specs.Left.{left_in}
use Rattle.program_checks.proofs.said.read_said.Goals as goal

pub loop-taken-preserved : goal.loop-taken-preserved
loop-taken-preserved c = record {
  said = one_more (left_in c.args.lines.now).lines _ _ _ c.loop-taken.taken c.loop-taken.invariant.said c.loop-taken.invariant.left c.take_said.ensures.says;
  left = left_after (left_in c.args.lines.now).lines _ _ c.loop-taken.taken c.loop-taken.invariant.left c.take_said.ensures.left;
}
