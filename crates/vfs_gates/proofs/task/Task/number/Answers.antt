-- a task has a number of its own
use Rattle.vfs_gates.proofs.Prelude.{SeatedTask, length, subst, ◌≤◌}
use Rattle.vfs_gates.proofs.Waiting.{has_number}
use Rattle.vfs_gates.proofs.task.Task.number.Goals as goal

pub returns-clause-there : goal.returns-clause-there
returns-clause-there c =
    let t = c.self.inside in
    subst (λ (s : SeatedTask). 1 ≤ length s.items) c.self.view_is
    (has_number t.number t.config t.begins t.state t.spare t.seat.me.0.items c.self.invariant.0)
