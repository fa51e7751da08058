-- its line, and what is left of it
use Rattle.vfs_gates.proofs.Prelude.{false}
use Rattle.gate_world.specs.declared.operations.Op.TheVariants.{Snapshot as SnapshotOp}
use Rattle.vfs_gates.proofs.task.Task.try_snapshot.Goals as goal

pub returns : goal.returns
returns c = c.finish_begun.ensures (SnapshotOp false) c.args.self.now c.load_at_once-begun.ensures
