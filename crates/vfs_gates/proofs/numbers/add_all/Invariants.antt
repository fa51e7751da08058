use Rattle.vfs_gates.proofs.FlagSteps.{SetBelow}
use Rattle.vfs_gates.proofs.numbers.add_all.Given as goal

abbrev pub invariant-loop-i : goal.invariant-loop-i
invariant-loop-i l = SetBelow l.numbers l.fn.numbers l.others l.i
