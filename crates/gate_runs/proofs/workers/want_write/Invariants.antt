-- The task comes from the gates, at rest, and was refused again and again, as often as was counted, with the waits of each call.
use Rattle.gate_runs.proofs.Prelude.{IsFrom, IsRefused, ReadOnly, Repeats, Rests, Waits, WantWrite, counted, ℕ, ◌≡◌}
use Rattle.gate_runs.proofs.workers.want_write.Given as goal

abbrev pub invariant-loop : goal.invariant-loop
invariant-loop g l = IsFrom l.task l.fn.gates × Rests l.task × (tries : ℕ)
    × Repeats (λ k. Waits (IsRefused (WantWrite 0 l.fn.cpu) ReadOnly)) tries (l.fn.task, l.fn.so_far) (l.task, l.waits) × (l.denied ≡ counted tries)
