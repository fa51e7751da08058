-- Each callback so far ran, an idle task is as it was, and one that isn't idle is unchanged.
use Rattle.vfs_gates.proofs.Prelude.{IsAsBefore, ℕ, ◌≡◌}
use Rattle.vfs_gates.specs.{Settled.CallsBack, TaskStates.{IsFrom, IsIdle}}
use Rattle.vfs_gates.proofs.task.Task.settle_level.Given as goal

abbrev pub invariant-loop : goal.invariant-loop
invariant-loop g l = record {
  next : (goal.iterator-loop g).can_next l.iterator';
  finite : (goal.iterator-loop g).is_finite l.iterator';
  from : IsFrom l.self l.gates;
  ran : (times : ℕ) × CallsBack l.level times l.fn.self l.self;
  as_before : IsIdle l.fn.self → IsAsBefore l.fn.self l.self;
  busy : ¬ IsIdle l.fn.self → l.self ≡ l.fn.self;
}
