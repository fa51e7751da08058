-- those of the tasks below this one that have the file open
use Rattle.std.proofs.Common.{◌≡◌, ◌≤◌}
use Rattle.{access_model.specs.States.one_if, finite_sums.specs.Sums.total}
use Rattle.model_state.specs.Shown.{opens_of}
use Rattle.model_state.proofs.model.Model.openers.Given as goal

abbrev pub invariant-loop-held : goal.invariant-loop-held
invariant-loop-held l = record {
  sums : l.openers ≡ total l.held-index (λ t. one_if (opens_of l.self.accesses.items t l.node));
  small : l.openers ≤ l.held-index;
}
