use Rattle.vfs_gates.proofs.Prelude.{false, get_or, ℕ, ◌<◌, ◌≡◌}
use Rattle.vfs_gates.proofs.task.has_none_open.Given as goal

abbrev pub invariant-loop-file : goal.invariant-loop-file
invariant-loop-file l = (n : ℕ) → n < l.file → get_or l.files n false ≡ false
