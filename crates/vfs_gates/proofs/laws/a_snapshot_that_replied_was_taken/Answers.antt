-- the law is a lemma
use Rattle.vfs_gates.proofs.Taking.{has_taken}
use Rattle.vfs_gates.proofs.laws.a_snapshot_that_replied_was_taken.Goals as goal

pub returns : goal.returns
returns c = has_taken
