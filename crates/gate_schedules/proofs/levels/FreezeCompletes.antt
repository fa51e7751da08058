-- The store of stage 4 that leaves all levels closed and no task's own, and the store of stage 0 that takes them over.
use Rattle.gate_schedules.proofs.Prelude.{AtLevel, Config, IsGood, IsWithin, None, Some, SyncRole, SyncStep, View, Words, World, ap, arith, closed_to}
use Rattle.gate_schedules.proofs.Prelude.{common_steps, inside, is_frozen_whole, level_in, refl, subst, sym, sync_role_of, update, ℕ, ◌<◌, ◌∙◌, ◌≡◌}
use Rattle.cpu_words.{proofs.gate_counts.LevelLaws.{is_left_frozen, thaws}, specs.gate_counts.Levels.{Out as CountsNot, Passed as CountsPassed}}
use Rattle.freeze_laws.specs.levels.{Events.{Freezes, Thaws}, Roles.{Closed, Out as IsApart}}
use Rattle.gate_schedules.proofs.{frames.Frames.SameLevelCounts, levels.LevelPositions.{HasPosition, LevelsHold, LevelsRun, left_world}}
use Rattle.gate_schedules.proofs.levels.{PositionRoles.{count_closed, counts_become, sections_left, sync_closed}, Worlds.level_steps}

-- the words of the levels are as they were, but for whether the file system is frozen as a whole
pub record SameWordsOfLevels (old new : Words) : Type 0 where
  pub block_same : new.block ≡ old.block
  pub level_same : new.level ≡ old.level
  pub sync_same : new.sync ≡ old.sync
  pub section_same : new.section ≡ old.section

module _ (c : Config) (lim : IsWithin c) (w : World) (good : IsGood c w) (t : ℕ) (lt : t < c.tasks) (ws : Words) (v : View)
    (words : SameWordsOfLevels w.words ws) where
  -- one level after such a step, by which its task takes this role there
  whole_after : (i full : ℕ) (r : SyncRole) → is_frozen_whole ws ≡ full → inside v.phase ≡ inside (w.views t).phase →
      sync_role_of i v.phase ≡ r →
      record (level_in w i) { full = full; at = update (level_in w i).at t r } ≡ level_in (left_world w t ws v) i
  whole_after i full r whole outside now = grind (arith, common_steps)

  -- where the task has all levels closed, and the file system is frozen as a whole from here on, each level is left to no task
  pub freezes_runs : HasPosition (w.views t).phase (Some (closed_to 3)) → HasPosition v.phase None → is_frozen_whole ws ≡ 1 →
      LevelsRun c w (left_world w t ws v)
  freezes_runs was now whole i one three =
      subst (SyncStep c.tasks (level_in w i))
      (whole_after i 1 IsApart whole (now.outside ∙ sym was.outside) (now.syncs i one three))
      record { task = t; there = lt; kind = Freezes; happens = (was.syncs i one three ∙ sync_closed i 3 three, refl) }

  -- where it is frozen as a whole until here, the task takes each level over
  pub thaws_runs : HasPosition (w.views t).phase None → HasPosition v.phase (Some (closed_to 3)) → is_frozen_whole w.words ≡ 1 →
      is_frozen_whole ws ≡ 0 → LevelsRun c w (left_world w t ws v)
  thaws_runs was now frozen whole i one three =
      subst (SyncStep c.tasks (level_in w i))
      (whole_after i 0 Closed whole (now.outside ∙ sym was.outside) (now.syncs i one three ∙ sync_closed i 3 three))
      record { task = t; there = lt; kind = Thaws; happens = (was.syncs i one three, frozen, refl) }

  module _ (counts : SameLevelCounts (w.views t) v) where
    -- where all levels are closed by the task, and the file system is frozen as a whole from here on, they are left to no task
    pub freezes_all : HasPosition (w.views t).phase (Some (closed_to 3)) → HasPosition v.phase None → is_frozen_whole ws ≡ 1 →
        LevelsHold c (left_world w t ws v)
    freezes_all was now whole = (
      λ i. counts_become c w good t lt v (Some (closed_to 3)) None was now counts ws i (w.words.block i) 1 CountsNot
          (ap (λ f. f i) words.block_same) whole (ap (λ f. f i) words.level_same) (λ one three. refl)
          (λ one three. is_left_frozen (good (AtLevel i) one three) t lt lim.tasks lim.processors
          (was.counts i one three ∙ count_closed i 3 three)),
      λ i one three. (level_steps c w good t lt ws v i one three (freezes_runs was now whole i one three)).level,
      sections_left c w good t lt v (Some (closed_to 3)) None was now counts ws words.section_same,
    )

    -- where the file system is frozen as a whole until here, the task has all levels closed from here on
    pub thaws_all : HasPosition (w.views t).phase None → HasPosition v.phase (Some (closed_to 3)) → is_frozen_whole w.words ≡ 1 →
        is_frozen_whole ws ≡ 0 → LevelsHold c (left_world w t ws v)
    thaws_all was now frozen whole = (
      λ i. counts_become c w good t lt v None (Some (closed_to 3)) was now counts ws i (w.words.block i) 0 CountsPassed
          (ap (λ f. f i) words.block_same) whole (ap (λ f. f i) words.level_same) (λ one three. count_closed i 3 three)
          (λ one three. thaws (good (AtLevel i) one three) t lt lim.tasks lim.processors (was.counts i one three) frozen),
      λ i one three. (level_steps c w good t lt ws v i one three (thaws_runs was now frozen whole i one three)).level,
      sections_left c w good t lt v None (Some (closed_to 3)) was now counts ws words.section_same,
    )
