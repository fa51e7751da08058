-- The numbers of tasks, mounts and nodes that a model may have.
use Rattle.std.specs.Prelude.{ℕ, ◌≤◌}

-- 1 to 64 tasks, 1 to 8 mounts, and 2 to 64 nodes, the root counted
abbrev pub AreLimits : ℕ → ℕ → ℕ → Type 0
AreLimits tasks mounts nodes = (1 ≤ tasks) × (tasks ≤ 64) × (1 ≤ mounts) × (mounts ≤ 8) × (2 ≤ nodes) × (nodes ≤ 64)
