-- the law is a lemma
use Rattle.vfs_gates.proofs.closed_gates.Closing.{left_by_schedule}
use Rattle.vfs_gates.proofs.laws.closed_gates_are_left_by_a_schedule.Goals as goal

pub returns : goal.returns
returns c = left_by_schedule
