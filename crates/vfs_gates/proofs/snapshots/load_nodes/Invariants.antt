-- the loads have led to the node that is next, and are noted
use Rattle.vfs_gates.proofs.Prelude.{Go, LoadsNode, None, snapshot_at, ◌-◌, ◌<◌, ◌≡◌}
use Rattle.vfs_gates.specs.Noted.{Noted, with_nodes}
use Rattle.vfs_gates.proofs.snapshots.load_nodes.Given as goal

abbrev pub invariant-loop-snapshot : goal.invariant-loop-snapshot
invariant-loop-snapshot l = record {
  there : l.node < l.fn.snapshot.nodes;
  noted : Noted l.fn.gates None (Go (snapshot_at l.fn.snapshot (LoadsNode 0))) l.fn.accesses l.fn.seat (λ r. r.next.nodes ≡ l.fn.nodes)
      (Go (snapshot_at l.fn.snapshot (LoadsNode l.node))) l.seat (with_nodes l.nodes);
}

abbrev pub decreases-loop-snapshot : goal.decreases-loop-snapshot
decreases-loop-snapshot l = l.fn.snapshot.nodes - l.node
