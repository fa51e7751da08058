-- the law is a lemma
use Rattle.vfs_gates.proofs.Seeing.{call_took}
use Rattle.vfs_gates.proofs.laws.a_call_sees_a_moment.Goals as goal

pub returns : goal.returns
returns c = call_took
