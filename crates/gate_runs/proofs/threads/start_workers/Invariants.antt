-- All threads so far were started, each for the next task, and the first task has the numbers behind theirs to give.
use Rattle.gate_runs.proofs.Prelude.{Gives, IsFrom, Rests, own_view, vec_len, ◌+◌, ◌≡◌}
use Rattle.gate_runs.specs.Parts.{EachFrom}
use Rattle.gate_runs.proofs.threads.start_workers.Given as goal

abbrev pub invariant-loop-number : goal.invariant-loop-number
invariant-loop-number g l = record {
  from : IsFrom l.task l.fn.gates;
  rests : Rests l.task;
  same : own_view l.task.items ≡ own_view l.fn.task.items;
  gives : Gives l.task l.number l.fn.plan.tasks;
  all : vec_len l.workers + 1 ≡ l.number;
  homes : EachFrom
      (λ place w. (w.promise.gates.now ≡ l.fn.gates) × (w.promise.plan ≡ l.fn.plan) × (w.promise.watch.now ≡ l.fn.watch)
      × (w.promise.number ≡ place + 1)) 0 l.workers.items;
}
