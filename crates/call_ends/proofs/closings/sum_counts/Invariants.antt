-- the loads have led to the sum as far as it has come
use Rattle.call_ends.proofs.Prelude.{Go, Led, None, Sums, closing_at, ◌-◌}
use Rattle.call_ends.proofs.closings.sum_counts.Given as goal

abbrev pub invariant-loop-further : goal.invariant-loop-further
invariant-loop-further l = record {
  led : Led l.fn.gates None (Go (closing_at l.fn.freeze l.fn.level (Sums l.fn.sum))) l.fn.accesses l.fn.seat (Go (closing_at l.fn.freeze l.fn.level (Sums l.sum))) l.fn.accesses l.seat;
}

abbrev pub decreases-loop-further : goal.decreases-loop-further
decreases-loop-further l = l.fn.freeze.processors - l.sum.words
