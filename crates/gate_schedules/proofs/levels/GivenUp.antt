-- What the store leaves of the levels by which a freeze gives one up, whose counts it sums.
use Rattle.gate_schedules.proofs.Prelude.{AtLevel, Config, Holds, IsGood, IsWithin, LevelPosition, Some, SyncStep, Touch, UpWriteStep, View, WordName}
use Rattle.gate_schedules.proofs.Prelude.{Words, World, arith, is_frozen_whole, left_by, level_in, position_sync, put, refl, subst, sym, update_at, ℕ}
use Rattle.gate_schedules.proofs.Prelude.{◌<◌, ◌∙◌, ◌≤◌}
use Rattle.cpu_words.{proofs.gate_counts.LevelLaws.gives_up, specs.gate_counts.Levels.{Out as CountsNot, Summing}}
use Rattle.freeze_laws.{proofs.levels.Operations.up_writes_are_there, specs.levels.Roles.{Closed, Entered}}
use Rattle.gate_schedules.proofs.{frames.Frames.SameLevelCounts, levels.LevelPositions.{HasPosition, LevelsHold, left_world}}
use Rattle.gate_schedules.proofs.levels.{PositionRoles.{SayBeside, count_at, counts_become, levels_move, sync_at}, UpWrite.up_write_event}

-- who sums the words of this level, before its first load
abbrev pub summing_at : ℕ → LevelPosition
summing_at level = record { level = level; count = Summing 0 0; sync = Closed }

-- who has given it up, and is still to leave its rcu_sync
abbrev pub leaving_at : ℕ → LevelPosition
leaving_at level = record { level = level; count = CountsNot; sync = Entered }

pub leaving_beside : (level : ℕ) → SayBeside level (Some (summing_at level)) (Some (leaving_at level))
leaving_beside level = grind arith

-- its step is one of the rcu_sync of its level
pub unblocked_there : (c : Config) (w : World) (t : ℕ) → t < c.tasks → (level : ℕ) → HasPosition (w.views t).phase (Some (summing_at level)) →
    1 ≤ level → level ≤ 3 → SyncStep c.tasks (level_in w level)
    (left_by (level_in w level) t (WordName.Block level, Touch.Store 0) (w.words.block level) (position_sync level (Some (leaving_at level))))
unblocked_there c w t lt level was low high =
    let there = up_writes_are_there c.tasks t (w.words.block level) (level_in w level) (record { level = level; step = UpWriteStep.ClearsBlock }) lt
    (was.syncs level low high ∙ sync_at level (summing_at level) refl) tt in
    subst (λ k. SyncStep c.tasks (level_in w level) (left_by (level_in w level) t (WordName.Block level, Touch.Store 0) (w.words.block level) k))
    (sym (sync_at level (leaving_at level) refl)) there.0

module _ (c : Config) (lim : IsWithin c) (w : World) (good : IsGood c w) (t : ℕ) (lt : t < c.tasks) (level : ℕ) (v : View)
    (counts : SameLevelCounts (w.views t) v) (was : HasPosition (w.views t).phase (Some (summing_at level)))
    (now : HasPosition v.phase (Some (leaving_at level))) where
  -- the words after it
  abbrev unblocked : Words
  unblocked = put w.words (WordName.Block level) 0

  -- the counts of the level
  unblocked_here : Holds c (left_world w t unblocked v) (AtLevel level)
  unblocked_here =
      counts_become c w good t lt v (Some (summing_at level)) (Some (leaving_at level)) was now counts unblocked level 0
      (is_frozen_whole w.words) CountsNot (update_at w.words.block level 0) refl refl
      (λ low high. count_at level (leaving_at level) refl)
      (λ low high. gives_up (good (AtLevel level) low high) t lt lim.tasks lim.processors 0 0
      (was.counts level low high ∙ count_at level (summing_at level) refl))

  -- so all levels are as the invariant has them
  pub unblocked_levels : LevelsHold c (left_world w t unblocked v)
  unblocked_levels =
      levels_move c w good t lt v (Some (summing_at level)) (Some (leaving_at level)) was now counts level (WordName.Block level) (Touch.Store 0)
      (up_write_event (record { level = level; step = UpWriteStep.ClearsBlock }) UpWriteStep.ClearsBlock) refl (leaving_beside level) unblocked_here
      (unblocked_there c w t lt level was)
