-- a snapshot that was taken is sound and clean
use Rattle.gate_runs.proofs.Prelude.{Called, Err, Performs, Some, ap, err_from_is_err_and, refl, subst, sym, true, ◌∙◌}
use Rattle.{gate_world.specs.declared.operations.Op.TheVariants.Snapshot as SnapshotOp, vfs_gates.proofs.Taking.took_whole}
use Rattle.gate_runs.proofs.{Answering.{rests_by, snapshot_begins, snapshot_list, snapshot_refused, was_whole}, Keeping.stays}
use Rattle.gate_runs.specs.Counts.{blocks_in}
use Rattle.gate_runs.proofs.workers.take_snapshot.Goals as goal

pub returns-clause-whole : goal.returns-clause-whole
returns-clause-whole g c =
    let did = subst (Performs (SnapshotOp true) c.args.task.now c.snapshot.new.self) c.in_ok-snapshot.was c.snapshot.ensures in
    let took = took_whole true c.args.task.now c.snapshot.new.self c.whole_blocks.ensures.there did in
    c.whole_blocks.ensures.whole took.0 took.1 took.2 took.3 ∙ ap Some (sym (ap blocks_in took.1))

pub returns-clause-rests : goal.returns-clause-rests
returns-clause-rests g c = rests_by _ (SnapshotOp true) c.args.task.now c.snapshot.new.self _ refl c.requires.rests c.snapshot.ensures

pub returns-in_err-snapshot-clause-rests : goal.returns-in_err-snapshot-clause-rests
returns-in_err-snapshot-clause-rests g c = rests_by _ (SnapshotOp true) c.args.task.now c.snapshot.new.self _ refl c.requires.rests c.snapshot.ensures

pub returns-in_err-snapshot-clause-refused : goal.returns-in_err-snapshot-clause-refused
returns-in_err-snapshot-clause-refused g c =
    let p = err_from_is_err_and c.from_residual.result c.from_residual.ensures.1 in
    let was = was_whole _ (SnapshotOp true) c.args.task.now c.snapshot.new.self c.in_err-snapshot.field-0.0
    (snapshot_begins c.args.task.now c.requires.rests) c.in_err-snapshot.ensures in
    let is = snapshot_refused c.args.task.now c.snapshot.new.self c.in_err-snapshot.field-0.0 was in
    rw (p.1, p.2) (is, subst (λ e. Called (SnapshotOp true) c.args.task.now c.snapshot.new.self (Err e)) is was)

-- whatever it answers it leaves the task's numbers and its list
pub returns-clause-stays : goal.returns-clause-stays
returns-clause-stays g c = stays _ (SnapshotOp true) c.args.task.now c.snapshot.new.self _ c.snapshot.ensures

pub returns-in_err-snapshot-clause-stays : goal.returns-in_err-snapshot-clause-stays
returns-in_err-snapshot-clause-stays g c = stays _ (SnapshotOp true) c.args.task.now c.snapshot.new.self _ c.snapshot.ensures

pub returns-clause-list : goal.returns-clause-list
returns-clause-list g c = snapshot_list _ c.args.task.now c.snapshot.new.self _ c.snapshot.ensures

pub returns-in_err-snapshot-clause-list : goal.returns-in_err-snapshot-clause-list
returns-in_err-snapshot-clause-list g c = snapshot_list _ c.args.task.now c.snapshot.new.self _ c.snapshot.ensures
