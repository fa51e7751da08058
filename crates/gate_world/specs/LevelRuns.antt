-- A freeze level of a state as the laws of a level have it, and what an execution makes of it, moment by moment.
use Rattle.std.specs.Prelude.{◌≡◌, ℕ, suc, ◌<◌, ◌≤◌, Some, List, length, take}
use Rattle.percpu_rwsem.specs.{Graces.started, declared.sync_word.GpState.TheVariants.{Idle, Exit}}
use Rattle.freeze_laws.specs.levels.{Changes.state_found, Events.{SyncLevel, SyncRun}, Laws.{NoneFast, WholeGrace}}
use Rattle.freeze_laws.specs.levels.Roles.{Out, Waiting, Past, Claimed, Ready, entering, claimed}
use Rattle.gate_world.specs.{Levels.{sync_role_of, inside, is_frozen_whole}, Worlds.{World, run, opening}, declared.config.Config.Config}
use Rattle.gate_world.specs.declared.entries.Entry.{Entry}

-- one level of a state
abbrev pub level_in : World → ℕ → SyncLevel
level_in w i = record {
  sync = w.words.sync i;
  block = w.words.block i;
  full = is_frozen_whole w.words;
  section = w.words.section;
  inside = λ x. inside (w.views x).phase;
  at = λ x. sync_role_of i (w.views x).phase;
}

-- the level after the first transitions of an execution, so many of them
abbrev pub level_after : Config → List Entry → ℕ → ℕ → SyncLevel
level_after c entries i k = level_in (run c opening (take k entries)) i

-- What an execution makes of a level is a run of it, at whose beginning everybody is out.
pub record IsLevelRun (c : Config) (entries : List Entry) (i : ℕ) : Type 0 where
  pub steps : SyncRun c.tasks (length entries) (level_after c entries i)
  pub begins : (t : ℕ) → t < c.tasks → (level_after c entries i 0).at t ≡ Out

-- The grace periods of a level along an execution.
pub record GracesAreKept (c : Config) (entries : List Entry) (i : ℕ) : Type 0 where
  -- a writer that is past its grace period had a whole one: each section that was under way when it entered has ended since
  pub whole : (k t : ℕ) → k ≤ length entries → t < c.tasks → (level_after c entries i k).at t ≡ Past →
      WholeGrace c.tasks (level_after c entries i) t k (Waiting (started c.tasks)) entering
  -- from there on nobody is on the fast path, until the state has been GP_IDLE again
  pub slow : (j k t : ℕ) → t < c.tasks → j ≤ k → k ≤ length entries → (level_after c entries i j).at t ≡ Past →
      ((n : ℕ) → j ≤ n → n < k → state_found (level_after c entries i n).sync ≡ Some Idle → ⊥) →
      NoneFast c.tasks (level_after c entries i k)
  -- which it becomes only from GP_EXIT, by the transition of a callback, with a whole grace period after its claim
  pub idle : (k : ℕ) → k < length entries → (state_found (level_after c entries i k).sync ≡ Some Idle → ⊥) →
      state_found (level_after c entries i (suc k)).sync ≡ Some Idle →
      (t : ℕ) × (t < c.tasks) × ((level_after c entries i k).at t ≡ Ready) ×
      (state_found (level_after c entries i k).sync ≡ Some Exit) ×
      WholeGrace c.tasks (level_after c entries i) t k (Claimed (started c.tasks)) claimed

-- so it is of each level
abbrev pub LevelsAreRuns : Config → List Entry → Type 0
LevelsAreRuns c entries = (i : ℕ) → 1 ≤ i → i ≤ 3 → IsLevelRun c entries i × GracesAreKept c entries i
