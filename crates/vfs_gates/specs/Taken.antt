-- A snapshot's call that answers with its tree.
use Rattle.std.specs.{Borrow.{Bor, Fml, MutBor, follows_so}, Prelude.{Err, Ok, Result, Some, true, ⊤, ◌≡◌}}
use Rattle.{access_model.specs.declared.errors.GateError.GateError, gate_steps.specs.call_events.Runs.Performs}
use Rattle.gate_world.specs.declared.{operations.Op.TheVariants.Snapshot as SnapshotOp, views.Snapshot.Snapshot}
use Rattle.gated_tree.specs.{Trees.words_of, declared.trees.Tree.Tree}
use Rattle.vfs_gates.specs.{TaskStates.{SeatedTask, own_view}, contracts.task.Task.the_row}
use mathlib.Core.Option.{none}

-- the call was done, and the tree is its task's last snapshot; or it was refused so
abbrev pub TakesTree : SeatedTask → Result (Bor Tree) GateError → SeatedTask → Type 0
TakesTree old (Ok tree) left = Performs (SnapshotOp true) old left (Ok tt) ×
    ((s : Snapshot) × ((own_view left.items).snapshot ≡ Some s) × (words_of tree.now ≡ s.loaded))
TakesTree old (Err refusal) left = Performs (SnapshotOp true) old left (Err refusal)

-- so the task ends that has lent its tree
abbrev pub EndsWithTree : MutBor SeatedTask → Result (Bor Tree) GateError → Fml
EndsWithTree task outcome = follows_so the_row the_row task.ghost_name none (λ _ _. ⊤) (TakesTree task.now outcome)
