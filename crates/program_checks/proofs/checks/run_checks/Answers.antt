use Rattle.std.proofs.Common.{ap, ℕ, ◌+◌, ◌∙◌}
use Rattle.program_checks.proofs.Written.{writes_both}
use Rattle.program_checks.proofs.checks.run_checks.Goals as goal

pub loop-number-preserved : goal.loop-number-preserved
loop-number-preserved g c = (
  c.add_read.ensures.counted ∙ ap (λ (n : ℕ). n + 1) c.loop-number.invariant.0,
  λ written. writes_both _ _ _ (c.loop-number.invariant.1 (c.add_read.ensures.before written)) (c.add_read.ensures.written written),
)
