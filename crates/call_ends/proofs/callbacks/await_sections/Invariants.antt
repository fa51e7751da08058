-- the loads have led to the grace period as far as it has come
use Rattle.call_ends.proofs.Prelude.{AwaitsSections, Go, Led, None, calling_at, ◌-◌}
use Rattle.call_ends.proofs.callbacks.await_sections.Given as goal

abbrev pub invariant-loop-further : goal.invariant-loop-further
invariant-loop-further l = record {
  led : Led l.fn.gates None (Go (calling_at l.fn.level l.fn.tasks (AwaitsSections l.fn.grace))) l.fn.accesses l.fn.seat (Go (calling_at l.fn.level l.fn.tasks (AwaitsSections l.grace))) l.fn.accesses l.seat;
}

abbrev pub decreases-loop-further : goal.decreases-loop-further
decreases-loop-further l = l.grace.tasks - l.grace.task
