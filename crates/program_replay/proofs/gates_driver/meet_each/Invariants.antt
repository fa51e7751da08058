-- The first task has seen what it had seen; those that it has met have met it, and the others are as they were.
use Rattle.std.proofs.Common.{All, List, get_or, ℕ, ◌<◌, ◌≡◌, ◌≤◌}
use Rattle.{gate_steps.specs.call_events.Grown.HasSeen, gate_world.specs.declared.entries.Entry.Entry}
use Rattle.vfs_gates.specs.TaskStates.{IsFrom, SeatedTask}
use Rattle.program_replay.specs.Standing.{HasMet, HasOnlySeen}
use Rattle.program_replay.proofs.gates_driver.meet_each.Given as goal

abbrev pub invariant-loop-other : goal.invariant-loop-other
invariant-loop-other l = record {
  from : IsFrom l.first l.gates;
  others : All (λ task. IsFrom task l.gates) l.others;
  same : HasOnlySeen l.fn.first l.first;
  seen : (entries : List Entry) → HasSeen entries l.fn.first.seen → HasSeen entries l.first.seen;
  met : (k : ℕ) (t : SeatedTask) → k < l.other-index → HasMet l.fn.first (get_or l.fn.others k t) (get_or l.others k t);
  rest : (k : ℕ) (t : SeatedTask) → l.other-index ≤ k → get_or l.others k t ≡ get_or l.fn.others k t;
}
