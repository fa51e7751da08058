-- the steps have led to the node that is next
use Rattle.call_ends.proofs.Prelude.{Go, Led, None, remounting_at, ◌-◌}
use Rattle.mount_counts.specs.declared.remounts.RemountStep.TheVariants.{ClearsMark}
use Rattle.call_ends.proofs.remount_lines.clean.Given as goal

abbrev pub invariant-loop-next : goal.invariant-loop-next
invariant-loop-next l = record {
  led : Led l.fn.gates None (Go (remounting_at l.fn.remount (ClearsMark 1))) l.fn.accesses l.fn.seat (Go (remounting_at l.fn.remount (ClearsMark l.node))) l.fn.accesses l.seat;
}

abbrev pub decreases-loop-next : goal.decreases-loop-next
decreases-loop-next l = l.fn.remount.nodes - l.node
