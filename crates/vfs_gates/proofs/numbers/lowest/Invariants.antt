use Rattle.vfs_gates.proofs.Prelude.{false, get_or, ℕ, ◌<◌, ◌≡◌}
use Rattle.vfs_gates.proofs.numbers.lowest.Given as goal

abbrev pub invariant-loop-i : goal.invariant-loop-i
invariant-loop-i l = (k : ℕ) → k < l.i → get_or l.numbers k false ≡ false
