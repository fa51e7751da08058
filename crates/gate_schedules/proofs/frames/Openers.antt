-- How many tasks may have a file open, and how much one of them counts.
use Rattle.gate_schedules.proofs.Prelude.{Bool, arith, false, one_if, refl, true, ◌≡◌, ◌≤◌}
use Rattle.access_model.specs.States.{most_tasks}

-- a model has at most 64 tasks
pub most_tasks_is : most_tasks ≡ 64
unfolding most_tasks
most_tasks_is = refl

-- a task counts at most once
pub one_le : (b : Bool) → one_if b ≤ 1
one_le true = omega arith
one_le false = omega arith
