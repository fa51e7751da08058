-- The task comes from the gates, is inside its write access, and was refused again and again, as often as was counted.
use Rattle.gate_runs.proofs.Prelude.{Again, Grow, HasWriteAccess, IsFrom, IsRefused, Repeats, counted, ℕ, ◌≡◌}
use Rattle.gate_runs.proofs.workers.grow.Given as goal

abbrev pub invariant-loop : goal.invariant-loop
invariant-loop g l = IsFrom l.task l.fn.gates × HasWriteAccess l.task × (tries : ℕ)
    × Repeats (λ k. IsRefused (Grow l.fn.file 1) Again) tries l.fn.task l.task × (l.raced ≡ counted tries)
