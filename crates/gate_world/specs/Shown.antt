-- The shown state: what words and views show of the access model.
use Rattle.std.specs.Prelude.{Option, Some, if◌then◌else◌, ℕ, ◌&&◌, ◌+◌, ◌==◌, ◌||◌}
use Rattle.{access_model.specs.States.State, finite_sums.specs.Sums.total}
use Rattle.{freeze_levels.specs.{Holders.holders_in, declared.freezes.FreezeStep.FreezeStep}, mount_counts.specs.Roles.ro_bit}
use Rattle.{node_words.specs.Nodes.node_shown, percpu_rwsem.specs.declared.writers.DownWriteStep.DownWriteStep}
use Rattle.gate_world.specs.{Views.{has_open, held_at, holds_level}, Worlds.World, declared.{config.Config.Config, work.Phase.Phase}}

-- 1 where a down-write of its own level sums the words of this one: its `block` is set, and no sum was 0 yet
abbrev pub is_summing : ℕ → ℕ → DownWriteStep → ℕ
is_summing i level (DownWriteStep.Sums sum) = if i == level then 1 else 0
is_summing i level step = 0

-- the same of a freeze
abbrev pub freeze_closing : ℕ → FreezeStep → ℕ
freeze_closing i (FreezeStep.Closes d) = is_summing i d.level d.step
freeze_closing i (FreezeStep.Waits d) = is_summing i d.level d.step
freeze_closing i step = 0

-- and of what a task is at: 1 while it is closing this level
abbrev pub closing : ℕ → Option Phase → ℕ
closing i (Some (Phase.Freezes x)) = freeze_closing i x.step
closing i p = 0

-- 1 where a level's `block` is set and no task is still closing it
abbrev pub is_passed : Config → World → ℕ → ℕ
is_passed c w i = if w.words.block i == 1 && total c.tasks (λ t. closing i (w.views t).phase) == 0 then 1 else 0

-- the model that words and views show
abbrev pub shown : Config → World → State
shown c w = record {
  mounts = λ t. held_at (w.views t);
  levels = λ t. holds_level (w.views t);
  opens = λ t. has_open (w.views t);
  mount_ro = λ m. ro_bit (w.words.flags m) == 1;
  sb_ro = w.words.remount == 1 || w.words.sb == 1;
  stage = w.words.stage;
  holders = holders_in w.words.holders;
  passed = is_passed c w 1 + (is_passed c w 2 + is_passed c w 3);
  tree = λ n. node_shown (w.words.node n);
}
