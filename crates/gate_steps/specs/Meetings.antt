-- What a seat learns of the table when it looks at it.
use Rattle.std.specs.Prelude.{List, ℕ, ◌<◌, ◌≡◌, ◌≤◌}
use Rattle.gate_world.specs.declared.{config.Config.Config, entries.Entry.Entry}
use Rattle.gate_steps.specs.{Seating.{DealtNumbers, HaveHistory, HaveSeen, times}, declared.seating.Knowledge.Knowledge}

-- These numbers stand in one state. The execution that leads to it goes on from each that was seen, and is what is seen from now on. Each of
-- these numbers is a task's, and is here once.
pub record StandsNow (c : Config) (items : DealtNumbers) (seen now : List (List Entry)) : Type 0 where
  pub all : HaveHistory c items now
  pub from : HaveSeen all.history.reached.entries items seen
  pub tasks : (n : ℕ) → 1 ≤ times n items → n < c.tasks
  pub once : (n : ℕ) → times n items ≤ 1

-- what a look at the table says: nothing of the seat changed but what it has seen
abbrev pub looked : Config → Knowledge × List (ℕ × Unit {0}) → Knowledge × List (ℕ × Unit {0}) → Type 0
looked c me after = (after.0.items ≡ me.0.items) × (after.1 ≡ me.1) × StandsNow c me.0.items me.0.seen after.0.seen
