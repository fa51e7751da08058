use Rattle.vfs_gates.proofs.FlagSteps.{unset}
use Rattle.vfs_gates.proofs.numbers.none.Goals as goal

pub returns-clause-unset : goal.returns-clause-unset
returns-clause-unset c = unset
