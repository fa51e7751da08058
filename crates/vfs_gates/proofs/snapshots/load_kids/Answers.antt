-- each load goes on from what the one before it left
use Rattle.vfs_gates.proofs.Prelude.{BufferWords, Go, LoadsKids, None, Some, arith, at_snapshot, refl, snapshot_at, still_stands}
use Rattle.call_ends.proofs.Closing.{fewer_nodes}
use Rattle.vfs_gates.proofs.Loading.{kids_last, kids_noted, kids_on, next_node, noted_nowhere, noted_on, noted_to, taking_leaves}
use Rattle.vfs_gates.specs.Noted.{with_kids}
use Rattle.vfs_gates.proofs.snapshots.load_kids.Goals as goal

pub loop-next-init : goal.loop-next-init
loop-next-init c = record {
  there = omega arith;
  noted = noted_nowhere c.args.gates.now (Go (snapshot_at c.args.snapshot (LoadsKids 0))) c.args.accesses.now c.args.seat.now (λ (r : BufferWords) were i. with_kids (were i) r);
}

pub find-found-requires-clause-leaves : goal.find-found-requires-clause-leaves
find-found-requires-clause-leaves c found = taking_leaves c.args.accesses.now (at_snapshot c.args.snapshot (LoadsKids c.loop-next.node)) found

pub find-found-requires-clause-stands : goal.find-found-requires-clause-stands
find-found-requires-clause-stands c = still_stands c.loop-next.invariant.noted.led c.requires.stands

pub loop-next-smaller : goal.loop-next-smaller
loop-next-smaller c = fewer_nodes c.loop-next.node c.args.snapshot.nodes c.in-Some.next c.in-Some.ensures

pub loop-next-preserved : goal.loop-next-preserved
loop-next-preserved c =
    let before = c.loop-next.invariant.noted in record {
      there = next_node c.loop-next.node c.in-Some.next c.args.snapshot.nodes c.in-Some.ensures;
      noted = noted_on before (λ r were. refl)
          (noted_to (kids_on c.args.snapshot c.loop-next.node c.in-Some.next c.find-found.result c.in-Some.ensures)
          (kids_noted c.args.snapshot c.loop-next.node c.find-found.result c.loop-next.kids (Some c.in-Some.next) c.in-Some.ensures
          c.find-found.ensures.led c.find-found.ensures.items (still_stands before.led c.requires.stands)));
    }

pub returns-in-None : goal.returns-in-None
returns-in-None c =
    let before = c.loop-next.invariant.noted in
    noted_on before (λ r were. refl)
    (noted_to (kids_last c.args.snapshot c.loop-next.node c.find-found.result c.in-None.ensures)
    (kids_noted c.args.snapshot c.loop-next.node c.find-found.result c.loop-next.kids None c.in-None.ensures c.find-found.ensures.led
    c.find-found.ensures.items (still_stands before.led c.requires.stands)))
