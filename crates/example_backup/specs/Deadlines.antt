-- What a backup with a deadline has done.
use Rattle.std.specs.Prelude.{Ok, true, ℕ}
use Rattle.access_model.specs.declared.actions.Holder.TheVariants.{User}
use Rattle.vfs_gates.specs.Op.TheVariants.{Freeze as FreezeOp, Snapshot as SnapshotOp, Thaw as ThawOp}
use Rattle.vfs_gates.specs.Rounds.{BothDone, Performs, Rounds, SeatedTask}

-- A snapshot was taken, and then all was thawed.
abbrev pub CopiesAndThaws : SeatedTask → SeatedTask → Type 0
CopiesAndThaws old left = BothDone (SnapshotOp true) (ThawOp User) old left

-- Everything was frozen before that.
pub record CopiesTree (old left : SeatedTask) : Type 0 where
  pub frozen : SeatedTask
  pub froze : Performs (FreezeOp User) old frozen (Ok tt)
  pub copied : CopiesAndThaws frozen left

-- so many copies of the frozen tree, with freezes between them that were refused
abbrev pub TreeCopies : ℕ → SeatedTask → SeatedTask → Type 0
TreeCopies = Rounds CopiesTree
