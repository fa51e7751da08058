-- the loads have led to the sum as far as it has come
use Rattle.call_ends.proofs.Prelude.{Go, Led, None, remounting_at, ◌-◌}
use Rattle.call_ends.specs.Remounting.{first_count}
use Rattle.mount_counts.specs.declared.remounts.RemountStep.TheVariants.{Sums}
use Rattle.call_ends.proofs.remount_lines.sum_mount.Given as goal

abbrev pub invariant-loop-further : goal.invariant-loop-further
invariant-loop-further l = record {
  led : Led l.fn.gates None (Go (remounting_at l.fn.remount (first_count l.fn.mount l.fn.held))) l.fn.accesses l.fn.seat (Go (remounting_at l.fn.remount (Sums l.fn.mount l.fn.held l.sum))) l.fn.accesses l.seat;
}

abbrev pub decreases-loop-further : goal.decreases-loop-further
decreases-loop-further l = l.fn.remount.processors - l.sum.words
