-- the law is a lemma
use Rattle.vfs_gates.proofs.closed_gates.Ending.{sound_tree}
use Rattle.vfs_gates.proofs.laws.closed_gates_leave_a_sound_tree.Goals as goal

pub returns : goal.returns
returns c = sound_tree
