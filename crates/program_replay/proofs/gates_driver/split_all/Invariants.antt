-- The first task and those that were split off come from the gates, which have the numbers so far in their order; the first has the others to give.
use Rattle.std.proofs.Common.{All, vec_len, ◌+◌, ◌≡◌}
use Rattle.vfs_gates.specs.{Splitting.{AreNumbered, Gives}, TaskStates.IsFrom}
use Rattle.program_replay.specs.Shown.{IsNew}
use Rattle.program_replay.proofs.gates_driver.split_all.Given as goal

abbrev pub invariant-loop-number : goal.invariant-loop-number
invariant-loop-number l = record {
  first : IsFrom l.first l.gates;
  new : IsNew l.first;
  others : All (λ task. IsFrom task l.gates) l.others.items;
  news : All IsNew l.others.items;
  gives : Gives l.first l._number l.fn.count;
  numbers : AreNumbered 1 l.others.items;
  count : vec_len l.others + 1 ≡ l._number;
}
