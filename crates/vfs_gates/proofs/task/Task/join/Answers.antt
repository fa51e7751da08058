-- both rest, and the other gives its numbers
use Rattle.vfs_gates.proofs.Prelude.{refl}
use Rattle.vfs_gates.proofs.task.Task.join.Goals as goal

pub returns-clause-joined : goal.returns-clause-joined
returns-clause-joined c =
    let mine = c.if-not-rests.ensures.0 refl in
    let others = c.if-not-rests-2.ensures.0 refl in (mine.0, mine.1, others.0, others.1, c.leave_to.ensures)
