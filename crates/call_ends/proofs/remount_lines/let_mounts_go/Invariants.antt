-- the steps have led to the holds that are still to be cleared
use Rattle.call_ends.proofs.Prelude.{Go, Led, None, remounting_at}
use Rattle.mount_counts.specs.Remounts.{let_go}
use Rattle.call_ends.proofs.remount_lines.let_mounts_go.Given as goal

abbrev pub invariant-loop-held : goal.invariant-loop-held
invariant-loop-held l = record {
  led : Led l.fn.gates None (Go (remounting_at l.fn.remount (let_go l.fn.held))) l.fn.accesses l.fn.seat (Go (remounting_at l.fn.remount (let_go l.held))) l.fn.accesses l.seat;
}

abbrev pub decreases-loop-held : goal.decreases-loop-held
decreases-loop-held l = l.held.bits
