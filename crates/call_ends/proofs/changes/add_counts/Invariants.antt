-- Each step of the line goes on from what the one before it left.
use Rattle.call_ends.proofs.Prelude.{Led, None}
use Rattle.call_ends.specs.Paths.{of_change}
use Rattle.call_ends.proofs.changes.add_counts.Given as goal

abbrev pub invariant-loop-cpu : goal.invariant-loop-cpu
invariant-loop-cpu l = record {
  led : Led l.fn.gates None (of_change l.fn.next) l.fn.accesses l.fn.seat (of_change l.next) l.accesses l.seat;
}
