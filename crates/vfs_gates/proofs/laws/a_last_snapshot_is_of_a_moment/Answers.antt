-- the law is a lemma
use Rattle.vfs_gates.proofs.Seeing.{call_saw}
use Rattle.vfs_gates.proofs.laws.a_last_snapshot_is_of_a_moment.Goals as goal

pub returns : goal.returns
returns c = call_saw
