-- the loads have led to the grace period as far as it has come
use Rattle.call_ends.proofs.Prelude.{Go, Led, None, closing_at, ◌-◌}
use Rattle.percpu_rwsem.specs.declared.writers.DownWriteStep.TheVariants.{AwaitsSections}
use Rattle.call_ends.proofs.closings.await_sections.Given as goal

abbrev pub invariant-loop-further : goal.invariant-loop-further
invariant-loop-further l = record {
  led : Led l.fn.gates None (Go (closing_at l.fn.freeze l.fn.level (AwaitsSections l.fn.grace))) l.fn.accesses l.fn.seat (Go (closing_at l.fn.freeze l.fn.level (AwaitsSections l.grace))) l.fn.accesses l.seat;
}

abbrev pub decreases-loop-further : goal.decreases-loop-further
decreases-loop-further l = l.grace.tasks - l.grace.task
