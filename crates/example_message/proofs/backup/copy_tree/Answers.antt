-- a snapshot that was taken is the task's last one
use Rattle.std.proofs.Common.{subst, true}
use Rattle.vfs_gates.{proofs.Taking.took_whole, specs.{Op.TheVariants.Snapshot as SnapshotOp, Runs.Performs}}
use Rattle.example_message.proofs.backup.copy_tree.Goals as goal

pub returns-clause-copied : goal.returns-clause-copied
returns-clause-copied g c =
    let did = subst (Performs (SnapshotOp true) c.args.task.now c.snapshot.new.self) c.in_ok-snapshot.was c.snapshot.ensures in
    let took = took_whole true c.args.task.now c.snapshot.new.self c.copied_blocks.ensures.there did in
    (did, took.0, took.1, c.copied_blocks.ensures.blocks took.0 took.1)
