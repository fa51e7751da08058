-- the law is a lemma
use Rattle.vfs_gates.proofs.closed_gates.Closing.{left_after}
use Rattle.vfs_gates.proofs.laws.in_time.closed_gates_are_left_after_all_that_was_seen.Goals as goal

pub returns : goal.returns
returns c = left_after
