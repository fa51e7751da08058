-- One freeze level as a gate: the roles of tasks there, and what holds of its counts.
use Rattle.std.specs.Prelude.{◌≡◌, ℕ, suc, ◌≤◌}
use Rattle.cpu_words.specs.gate_counts.Gates.{Barring, Apart, Reading, ReadZero, GateView, GateHolds}

-- What a task is doing at one level. A reader on the fast path has added nothing until it is granted, and is `Out`.
pub data LevelRole : Type 0 where
  Out : LevelRole
  -- added on this processor on the slow path, and has not found `block` 0
  Seeking : (cpu : ℕ) → LevelRole
  -- is to subtract what it added
  BackingOff : (cpu : ℕ) → LevelRole
  -- set `block`, and read this many words, with this sum
  Summing : (read : ℕ) (sum : ℕ) → LevelRole
  -- set `block` and found a sum of 0, or thaws the level: it is to store 0
  Passed : LevelRole

-- what a level's predicate reads of a task's view
pub record LevelView : Type 0 where
  pub held : ℕ
  pub added : ℕ → ℕ
  pub taken : ℕ → ℕ
  pub role : LevelRole

-- one more than the processor on which an access is sought that is not admitted; else 0
abbrev pub processor_of : LevelRole → ℕ
processor_of (Seeking p) = suc p
processor_of (BackingOff p) = suc p
processor_of _ = 0

-- what a role has to do with `block`
abbrev pub barring_of : LevelRole → Barring
barring_of (Summing k sum) = Reading k sum
barring_of Passed = ReadZero
barring_of _ = Apart

-- 1 while the task sums the level's words
abbrev pub sums_up : LevelRole → ℕ
sums_up (Summing k sum) = 1
sums_up _ = 0

-- A level asks one question, and the load that answers it is the grant: no access is admitted before it is held.
abbrev pub level_as_gate : LevelView → GateView
level_as_gate v = record {
  held = v.held;
  added = v.added;
  taken = v.taken;
  questions = 0;
  sought_on = processor_of v.role;
  barring = barring_of v.role;
}

-- What holds of one level's counts between any two steps. `full` is 1 while the level is frozen, where `block` is no task's own.
pub record LevelHolds (tasks processors block full : ℕ) (count : ℕ → ℕ) (at : ℕ → LevelView) : Type 0 where
  pub known : block ≤ 1
  pub gate : GateHolds tasks processors block full (λ i. full ≡ 1) count (λ t. level_as_gate (at t))
