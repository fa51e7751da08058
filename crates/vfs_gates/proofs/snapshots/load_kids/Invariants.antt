-- the loads have led to the children of the node that is next, and are noted
use Rattle.vfs_gates.proofs.Prelude.{Go, LoadsKids, None, snapshot_at, ◌-◌, ◌<◌, ◌≡◌}
use Rattle.vfs_gates.specs.Noted.{Noted, with_kids}
use Rattle.vfs_gates.proofs.snapshots.load_kids.Given as goal

abbrev pub invariant-loop-next : goal.invariant-loop-next
invariant-loop-next l = record {
  there : l.node < l.fn.snapshot.nodes;
  noted : Noted l.fn.gates None (Go (snapshot_at l.fn.snapshot (LoadsKids 0))) l.fn.accesses l.fn.seat (λ r. r.next.kids ≡ l.fn.kids)
      (Go (snapshot_at l.fn.snapshot (LoadsKids l.node))) l.seat (with_kids l.kids);
}

abbrev pub decreases-loop-next : goal.decreases-loop-next
decreases-loop-next l = l.fn.snapshot.nodes - l.node
