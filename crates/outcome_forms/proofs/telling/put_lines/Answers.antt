use Rattle.outcome_forms.proofs.Parts.{no_details, one_line}
use Rattle.outcome_forms.proofs.telling.put_lines.Goals as goal

pub loop-line-init : goal.loop-line-init
loop-line-init c = no_details _ _ _

pub loop-line-preserved : goal.loop-line-preserved
loop-line-preserved c = c.loop-line.invariant

pub loop-line-preserved-then-not-is_empty : goal.loop-line-preserved-then-not-is_empty
loop-line-preserved-then-not-is_empty c = one_line _ _ _ _ _ c.loop-line.invariant c.put_line.ensures
