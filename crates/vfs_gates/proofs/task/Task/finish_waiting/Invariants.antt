use Rattle.vfs_gates.proofs.Prelude.{Op, OpUnderWay, SeatedTask, ◌≡◌}
use Rattle.vfs_gates.proofs.task.Task.finish_waiting.Given as goal

abbrev pub invariant-loop : goal.invariant-loop
invariant-loop g l = record {
  next : (goal.iterator-loop g).can_next l.iterator';
  finite : (goal.iterator-loop g).is_finite l.iterator';
  table : l.self.table ≡ l.fn.self.table;
  config : l.self.config ≡ l.fn.self.config;
  goes : (op : Op) (start : SeatedTask) → OpUnderWay op start l.fn.self → OpUnderWay op start l.self;
}
