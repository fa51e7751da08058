-- the steps have led to the node that is next
use Rattle.call_ends.proofs.Prelude.{Cleans, Go, Led, None, standing, ◌-◌}
use Rattle.call_ends.proofs.freeze_lines.clean.Given as goal

abbrev pub invariant-loop-node : goal.invariant-loop-node
invariant-loop-node l = record {
  led : Led l.fn.gates None (Go (standing l.fn.freeze (Cleans l.fn.clearing))) l.fn.accesses l.fn.seat (Go (standing l.fn.freeze (Cleans l.clearing))) l.fn.accesses l.seat;
}

abbrev pub decreases-loop-node : goal.decreases-loop-node
decreases-loop-node l = l.clearing.nodes - l.clearing.node
