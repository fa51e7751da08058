use Rattle.vfs_gates.proofs.Prelude.{length, ◌≡◌}
use Rattle.vfs_gates.proofs.FlagSteps.{SetFromOne}
use Rattle.vfs_gates.proofs.numbers.others_of.Given as goal

abbrev pub invariant-loop-i : goal.invariant-loop-i
invariant-loop-i l = (length l.numbers ≡ 64) × SetFromOne l.numbers l.i
