-- The task comes from the gates, at rest, and has done all rounds so far, with what they met.
use Rattle.gate_runs.proofs.Prelude.{IsFrom, Repeats, Rests, WriterRound}
use Rattle.gate_runs.specs.Counts.{no_writes}
use Rattle.gate_runs.proofs.workers.write.Given as goal

abbrev pub invariant-loop-round : goal.invariant-loop-round
invariant-loop-round g l = IsFrom l.task l.fn.gates × Rests l.task × Repeats (WriterRound (g.W.NotedObserver.meets l.fn.watch) l.fn.plan.processors l.fn.writer)
    l.round (l.fn.task, l.fn.notes, no_writes) (l.task, l.notes, l.writes)
