use Rattle.std.proofs.Common.{◌<◌, ◌≤◌}
use Rattle.program_checks.proofs.said.cut_place.Given as goal

-- some bytes, and no more than fit
abbrev pub invariant-loop-place : goal.invariant-loop-place
invariant-loop-place l = record { some : 0 < l.end; fits : l.end ≤ 253 }
