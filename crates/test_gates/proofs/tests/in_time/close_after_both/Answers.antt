-- the last task has seen what both had
use Rattle.std.proofs.Common.{subst}
use Rattle.{gate_world.specs.Worlds.World, vfs_gates.{proofs.closed_gates.Closing.left_after, specs.{Ended.IsLeftAfter, TaskStates.SeatedTask}}}
use Rattle.test_gates.proofs.tests.in_time.close_after_both.Goals as goal

pub returns-in-Ok : goal.returns-in-Ok
returns-in-Ok c =
    let closed = c.in-Ok.closed in
    let e = c.in-Ok.ensures.closed.2 in
    subst (λ (s : SeatedTask). (w : World) × IsLeftAfter closed.config closed.words w s.items s.seen) c.in_default.ensures.joined.4
    (e.ended.world, left_after closed.config closed.words _ _ e)
