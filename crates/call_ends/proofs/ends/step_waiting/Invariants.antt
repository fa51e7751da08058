-- Each step goes on from what the one before it left.
use Rattle.call_ends.proofs.Prelude.{None, Op, map_next, ℕ, ◌≡◌}
use Rattle.gate_steps.specs.call_events.{Asking.OpAfterStepAsking, Led.{StaysSeated, seated_at}, SeatedTasks.SeatedTask, Waited.counted}
use Rattle.call_ends.proofs.ends.step_waiting.Given as goal

abbrev pub invariant-loop : goal.invariant-loop
invariant-loop g l = record {
  next : (goal.iterator-loop g).can_next l.iterator';
  finite : (goal.iterator-loop g).is_finite l.iterator';
  seated : StaysSeated l.fn.gates None (map_next g.P.PendingOp.as_phase l.fn.begun) l.fn.accesses l.fn.seat (map_next g.P.PendingOp.as_phase l.next)
      l.accesses l.seat;
  went : (of : Op) (start : SeatedTask) (before : _) →
      OpAfterStepAsking g.H.TimedHooks.answers 0 of start before (map_next g.P.PendingOp.as_phase l.fn.begun)
      (seated_at l.fn.gates None (map_next g.P.PendingOp.as_phase l.fn.begun) l.fn.seat) l.fn.hooks →
      (waits : ℕ) × (l.waited ≡ counted waits) × OpAfterStepAsking g.H.TimedHooks.answers waits of start before (map_next g.P.PendingOp.as_phase l.next)
      (seated_at l.fn.gates None (map_next g.P.PendingOp.as_phase l.next) l.seat) l.hooks;
}
