-- by computing
use Rattle.std.proofs.Common.{refl}
use Rattle.test_schedules.proofs.a_count_wraps_below_zero.Goals as goal

pub returns : goal.returns
returns c = refl
