-- each load goes on from what the one before it left
use Rattle.vfs_gates.proofs.Prelude.{BufferWords, Go, LoadsNode, arith, at_snapshot, refl, snapshot_at, still_stands, sym, ◌∙◌}
use Rattle.vfs_gates.proofs.Loading.{next_node, node_last, node_none, node_noted, node_on, noted_nowhere, noted_on, noted_to, taking_leaves}
use Rattle.vfs_gates.specs.Noted.{with_nodes}
use Rattle.vfs_gates.proofs.snapshots.load_nodes.Goals as goal

pub loop-snapshot-init : goal.loop-snapshot-init
loop-snapshot-init c = record {
  there = omega arith;
  noted = noted_nowhere c.args.gates.now (Go (snapshot_at c.args.snapshot (LoadsNode 0))) c.args.accesses.now c.args.seat.now (λ (r : BufferWords) were i. with_nodes (were i) r);
}

pub find-found-requires-clause-leaves : goal.find-found-requires-clause-leaves
find-found-requires-clause-leaves c found = taking_leaves c.args.accesses.now (at_snapshot c.args.snapshot (LoadsNode c.loop-snapshot.node)) found

pub find-found-requires-clause-stands : goal.find-found-requires-clause-stands
find-found-requires-clause-stands c = still_stands c.loop-snapshot.invariant.noted.led c.requires.stands

pub loop-snapshot-preserved : goal.loop-snapshot-preserved
loop-snapshot-preserved c =
    let before = c.loop-snapshot.invariant.noted in record {
      there = next_node c.loop-snapshot.node c.in_ok-node.node c.args.snapshot.nodes c.in_ok-node.ensures;
      noted = noted_on before (λ r were. refl)
          (noted_to (node_on c.args.snapshot c.loop-snapshot.node c.in_ok-node.node c.find-found.result
          (sym c.if-not-is_there.false ∙ c.is_node-is_there.ensures) c.in_ok-node.ensures)
          (node_noted c.args.snapshot c.loop-snapshot.node c.find-found.result c.loop-snapshot.nodes c.find-found.ensures.led
          c.find-found.ensures.items (still_stands before.led c.requires.stands)));
    }

pub returns-in_err-node : goal.returns-in_err-node
returns-in_err-node c =
    let before = c.loop-snapshot.invariant.noted in
    rw c.from_residual.ensures (noted_on before (λ r were. refl)
    (noted_to (node_last c.args.snapshot c.loop-snapshot.node c.find-found.result
    (sym c.if-not-is_there.false ∙ c.is_node-is_there.ensures) c.in_err-node.ensures)
    (node_noted c.args.snapshot c.loop-snapshot.node c.find-found.result c.loop-snapshot.nodes c.find-found.ensures.led
    c.find-found.ensures.items (still_stands before.led c.requires.stands))))

pub returns-then-not-is_there : goal.returns-then-not-is_there
returns-then-not-is_there c =
    let before = c.loop-snapshot.invariant.noted in
    noted_on before (λ r were. refl)
    (noted_to (node_none c.args.snapshot c.loop-snapshot.node c.find-found.result (sym c.if-not-is_there.true ∙ c.is_node-is_there.ensures))
    (node_noted c.args.snapshot c.loop-snapshot.node c.find-found.result c.loop-snapshot.nodes c.find-found.ensures.led
    c.find-found.ensures.items (still_stands before.led c.requires.stands)))
