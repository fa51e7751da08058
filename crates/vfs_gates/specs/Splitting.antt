-- What the first task of some gates has to give while tasks are split off, one after the other.
use Rattle.std.specs.Prelude.{List, [], length, ℕ, ◌+◌, ◌<◌, ◌∷◌, ◌≡◌, ◌≤◌}
use Rattle.gate_steps.specs.Seating.{DealtNumbers, times}
use Rattle.vfs_gates.specs.TaskStates.{IsIdle, SeatedTask, own_number, own_view, spare_of}

-- these have the numbers from this one on, each the next
abbrev pub AreNumbered : ℕ → List SeatedTask → Type 0
AreNumbered from [] = Unit {0}
AreNumbered from (t ∷ ts) = (own_number t.items ≡ from) × AreNumbered (from + 1) ts

-- none of these numbers has done anything
abbrev pub HaveDoneNothing : DealtNumbers → Type 0
HaveDoneNothing [] = Unit {0}
HaveDoneNothing (x ∷ xs) = (x.view.actions ≡ []) × HaveDoneNothing xs

-- a task with this number that has done nothing
pub record HasBegun (number : ℕ) (s : SeatedTask) : Type 0 where
  pub there : 1 ≤ length s.items
  pub own : own_number s.items ≡ number
  pub nothing : (own_view s.items).actions ≡ []

-- it has number 0 and is idle, and has to give each number from this one on, below so many in all, and none below it; none of these has
-- done anything
pub record Gives (first : SeatedTask) (from count : ℕ) : Type 0 where
  pub there : 1 ≤ length first.items
  pub own : own_number first.items ≡ 0
  pub idle : IsIdle first
  pub later : (k : ℕ) → from ≤ k → k < count → times k (spare_of first.items) ≡ 1
  pub earlier : (k : ℕ) → k < from → times k (spare_of first.items) ≡ 0
  pub nothing : HaveDoneNothing (spare_of first.items)
