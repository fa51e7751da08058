-- So many steps more than the first were done, and the last told how the operation stands.
use Rattle.std.proofs.Common.{Some, ◌≡◌}
use Rattle.{gate_steps.specs.call_events.Runs.{OpUnderWay, ProgressMatches}, gate_transitions.specs.declared.steps.Progress.TheVariants.Idle}
use Rattle.{gate_world.specs.declared.{operations.Op.Op, work.Phase.Phase}, vfs_gates.specs.TaskStates.{IsIdle, SeatedTask}}
use Rattle.mntgate_c.proofs.Running.{Ran}
use Rattle.mntgate_c.proofs.runs.run.Given as goal

abbrev pub invariant-loop-more : goal.invariant-loop-more
invariant-loop-more l = record {
  table : l.task.table ≡ l.fn.task.table;
  config : l.task.config ≡ l.fn.task.config;
  told : (op : Op) (start : SeatedTask) → OpUnderWay op start l.fn.task → ProgressMatches op start l.progress l.task;
  idle : IsIdle l.fn.task → (l.task ≡ l.fn.task) × (l.progress ≡ Idle);
  ran : (phase : Phase) → l.fn.task.phase ≡ Some phase → Ran phase l.fn.hook l.fn.task l._more l.task l.progress;
}
