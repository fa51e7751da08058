use Rattle.vfs_gates.proofs.Prelude.{Op, OpUnderWay, SeatedTask, ◌≡◌}
use Rattle.gate_steps.{proofs.call_events.Running.events_left, specs.call_events.Runs.IsTrying}
use Rattle.vfs_gates.proofs.task.Task.finish.Given as goal

abbrev pub invariant-loop-answer : goal.invariant-loop-answer
invariant-loop-answer l = record {
  table : l.self.table ≡ l.fn.self.table;
  config : l.self.config ≡ l.fn.self.config;
  trying : IsTrying l.self;
  goes : (op : Op) (start : SeatedTask) → OpUnderWay op start l.fn.self → OpUnderWay op start l.self;
}

abbrev pub decreases-loop-answer : goal.decreases-loop-answer
decreases-loop-answer l = events_left l.self
