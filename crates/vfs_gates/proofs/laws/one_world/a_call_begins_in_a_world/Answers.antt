-- the law is a lemma
use Rattle.vfs_gates.proofs.several_tasks.Begun.{call_begins}
use Rattle.vfs_gates.proofs.laws.one_world.a_call_begins_in_a_world.Goals as goal

pub returns : goal.returns
returns c = call_begins
