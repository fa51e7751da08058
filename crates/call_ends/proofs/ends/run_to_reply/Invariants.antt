-- Each step goes on from what the one before it left, and fewer are left.
use Rattle.call_ends.proofs.Prelude.{Bool, Op, SeatedTask, Some, ℕ, ◌≡◌}
use Rattle.std.proofs.Common.{List}
use Rattle.gate_steps.{proofs.call_events.Running.events_left, specs.call_events.{GhostAgrees.GhostAgrees, Runs.{IsTrying, OpUnderWay}}}
use Rattle.gate_steps.specs.call_events.{SeatedTasks.task_state, Turns.{StateAgrees, state_at}}
use Rattle.call_ends.proofs.ends.run_to_reply.Given as goal

abbrev pub invariant-loop-answer : goal.invariant-loop-answer
invariant-loop-answer g l = record {
  table : l.seat.table_id ≡ l.fn.seat.table_id;
  slots : l.seat.me.1 ≡ l.fn.seat.me.1;
  agrees : StateAgrees l.fn.gates.config l.begins (Some (g.P.PendingOp.as_phase l.under_way)) l.accesses l.seat.me.0.items;
  trying : IsTrying (task_state l.seat.table_id l.fn.gates.config l.begins (Some (g.P.PendingOp.as_phase l.under_way)) l.seat.me.0);
  stay : (number : ℕ) (flags : List Bool) →
      GhostAgrees number l.fn.gates.config (Some l.fn.op) (state_at (Some (g.P.PendingOp.as_phase l.fn.first)) l.fn.accesses) flags l.fn.seat.me.0.items →
      GhostAgrees number l.fn.gates.config l.begins (state_at (Some (g.P.PendingOp.as_phase l.under_way)) l.accesses) flags l.seat.me.0.items;
  goes : (of : Op) (start : SeatedTask) →
      OpUnderWay of start (task_state l.fn.seat.table_id l.fn.gates.config (Some l.fn.op) (Some (g.P.PendingOp.as_phase l.fn.first)) l.fn.seat.me.0) →
      OpUnderWay of start (task_state l.seat.table_id l.fn.gates.config l.begins (Some (g.P.PendingOp.as_phase l.under_way)) l.seat.me.0);
}

abbrev pub decreases-loop-answer : goal.decreases-loop-answer
decreases-loop-answer g l =
    events_left (task_state l.seat.table_id l.fn.gates.config l.begins (Some (g.P.PendingOp.as_phase l.under_way)) l.seat.me.0)
