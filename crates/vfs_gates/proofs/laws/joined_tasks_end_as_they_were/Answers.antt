-- the law is a lemma
use Rattle.vfs_gates.proofs.Resting.{both_end}
use Rattle.vfs_gates.proofs.laws.joined_tasks_end_as_they_were.Goals as goal

pub returns : goal.returns
returns c = both_end
