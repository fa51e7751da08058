use Rattle.vfs_gates.proofs.Prelude.{false, get_or, true, ℕ, ◌<◌, ◌≡◌, ◌⊎◌}
use Rattle.vfs_gates.proofs.numbers.are_all.Given as goal

abbrev pub invariant-loop-i : goal.invariant-loop-i
invariant-loop-i l = (k : ℕ) → k < l.i → (k ≡ l.number) ⊎ (get_or l.numbers k false ≡ true)
