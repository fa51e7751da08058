-- No gate so far has anything left.
use Rattle.gate_runs.proofs.Prelude.{◌≡◌}
use Rattle.gate_runs.proofs.runs.held_in.Given as goal

abbrev pub invariant-loop-gate : goal.invariant-loop-gate
invariant-loop-gate l = l.held ≡ 0
