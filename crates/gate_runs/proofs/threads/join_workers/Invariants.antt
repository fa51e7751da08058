-- All threads that were joined are those of the last tasks. Each of these has done its part, with what they met together, or a call was refused.
use Rattle.gate_runs.proofs.Prelude.{Among, IfErr, IfOk, IsFrom, Rests, SeatedTask, WriterRefused, length, vec_len, ◌+◌, ◌-◌, ◌≡◌, ◌≤◌}
use Rattle.gate_runs.{proofs.Homes.Joined, specs.{Homes.HasBack, Parts.EachFrom}}
use Rattle.gate_runs.proofs.threads.join_workers.Given as goal

abbrev pub invariant-loop-worker : goal.invariant-loop-worker
invariant-loop-worker g l = record {
  from : IsFrom l.task l.fn.gates;
  rests : Rests l.task;
  there : 1 ≤ length l.task.items;
  homes : EachFrom
      (λ place w. (w.promise.gates.now ≡ l.fn.gates) × (w.promise.plan ≡ l.fn._plan) × (w.promise.watch.now ≡ l.fn._watch)
      × (w.promise.number ≡ place + 1)) 0 l.workers.items;
  others : (s : SeatedTask) → Among l.fn.task.items s → Among l.task.items s;
  back : HasBack (vec_len l.workers + 1) (vec_len l.fn.workers + 1) l.fn.task l.task;
  parts : IfOk l.met (λ m. Joined (Among l.task.items) (g.W.RunObserver.held l.fn._watch) l.fn._plan.processors l.fn._plan.rounds
      (vec_len l.workers) (vec_len l.fn.workers - 1) m.0 m.1);
  refused : IfErr l.met (WriterRefused l.fn.gates l.fn._plan.tasks l.fn._plan.processors l.fn._plan.rounds);
}

abbrev pub decreases-loop-worker : goal.decreases-loop-worker
decreases-loop-worker g l = vec_len l.workers
