use Rattle.std.proofs.Common.{length}
use Rattle.program_checks.proofs.said.put_said.Given as goal

abbrev pub decreases-loop-rest : goal.decreases-loop-rest
decreases-loop-rest l = length l.rest
