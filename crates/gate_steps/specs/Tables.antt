-- The table as it is closed.
use Rattle.std.specs.Prelude.{List, ℕ, ◌<◌, ◌≤◌}
use Rattle.gate_world.specs.{Worlds.World, declared.config.Config.Config}
use Rattle.gate_steps.specs.{Histories.HasHistory, Rules.Ruled, Seating.{HaveSeen, HaveViews, times}, declared.seating.Knowledge.Knowledge}

-- The words are those of some state that the invariant holds of, with one history, and the schedule that makes it, and in which the numbers of
-- the seat are tasks with these views.
pub record IsClosing (c : Config) (ws : List ℕ) (k : Knowledge) : Type 0 where
  pub world : World
  pub ruled : Ruled c ws world
  pub history : HasHistory c world
  pub mine : HaveViews world.views k.items
  pub seen : HaveSeen history.reached.entries k.items k.seen
  pub tasks : (n : ℕ) → 1 ≤ times n k.items → n < c.tasks
