-- its line, and what is left of it
use Rattle.vfs_gates.proofs.Prelude.{true}
use Rattle.gate_world.specs.declared.operations.Op.TheVariants.{Snapshot as SnapshotOp}
use Rattle.vfs_gates.proofs.task.Task.snapshot.Goals as goal

pub returns : goal.returns
returns g c = c.finish_begun_waiting.ensures (SnapshotOp true) c.args.self.now c.load_at_once-begun.ensures
