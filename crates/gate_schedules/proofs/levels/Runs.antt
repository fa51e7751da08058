-- What each step of a freeze or a thaw is of each level: one of the level's own kinds of step, or one that leaves it.
use Rattle.gate_schedules.proofs.Prelude.{Config, DownWrite, IsGood, IsWithin, LevelPosition, Option, Some, SyncStep, Touch, UpWrite, UpWriteStep}
use Rattle.gate_schedules.proofs.Prelude.{View, WordName, Words, World, ap, arith, common_steps, down_write_after, down_write_next, eqb_tells}
use Rattle.gate_schedules.proofs.Prelude.{found_by, inl, inr, is_frozen_whole, left, left_by, level_in, position_sync, put, read, subst, sym}
use Rattle.gate_schedules.proofs.Prelude.{sync_role_of, total, up_write_after, up_write_next, ℕ, ◌+◌, ◌<◌, ◌∙◌, ◌≡◌, ◌≤◌}
use Rattle.{freeze_laws.specs.levels.Roles.{Out as IsApart, entered}, gate_world.specs.Fits.{DownWriteFits, UpWriteFits}}
use Rattle.gate_schedules.proofs.{frames.Frames.SameLevelWords, levels.DownWrite.{closing_others, closing_there, down_write_event, next_closing}}
use Rattle.gate_schedules.proofs.levels.{GivenUp.{leaving_at, leaving_beside, summing_at, unblocked_there}, LevelPositions.{HasPosition, LevelsRun}}
use Rattle.gate_schedules.proofs.levels.LevelPositions.{closing_position, left_world, opening_position, position_after_closing}
use Rattle.gate_schedules.proofs.levels.{LevelPositions.position_after_opening, PositionRoles.SayBeside, Steps.{level_kept, level_stays}}
use Rattle.gate_schedules.proofs.levels.{UpWrite.{next_opening, opening_others, opening_there, up_write_event}, Worlds.IsEventAt}

-- a step that leaves what the levels read of the words, and how its task stands with them, leaves each level
pub levels_stay_runs : (c : Config) (w : World) (t : ℕ) → t < c.tasks → (ws : Words) (v : View) (s : Option LevelPosition) →
    SameLevelWords w.words ws → HasPosition (w.views t).phase s → HasPosition v.phase s → LevelsRun c w (left_world w t ws v)
levels_stay_runs c w t lt ws v s words was now i one three =
    level_stays c.tasks t lt (level_in w i) (level_in (left_world w t ws v) i)
    (level_kept w t i ws v (ap (λ f. f i) words.sync_same) (ap (λ f. f i) words.block_same) words.whole_same words.section_same
    (now.outside ∙ sym was.outside) (now.syncs i one three ∙ sym (was.syncs i one three)))

module _ (c : Config) (w : World) (t : ℕ) (lt : t < c.tasks) (v : View) (s z : Option LevelPosition) (was : HasPosition (w.views t).phase s)
    (now : HasPosition v.phase z) (i : ℕ) (name : WordName) (touch : Touch) (is : IsEventAt i name touch) where
  -- the words after a step of one level's words
  abbrev words_touched : Words
  words_touched = put w.words name (left touch (read w.words name))

  -- what the level's own step leaves of it is the level then
  own_level : 1 ≤ i → i ≤ 3 →
      left_by (level_in w i) t (name, touch) (read w.words name) (position_sync i z) ≡ level_in (left_world w t words_touched v) i
  own_level one three = grind (arith, common_steps)

  -- another level is left, where what the task says of it is
  other_level : (j : ℕ) → (j ≡ i → ⊥) → position_sync j z ≡ position_sync j s → 1 ≤ j → j ≤ 3 →
      level_in (left_world w t words_touched v) j ≡ level_in w j
  other_level j ne same one three = grind (arith, common_steps)

  -- so it is a step of each level, where it is one of its own
  pub levels_move_runs : SayBeside i s z → (1 ≤ i → i ≤ 3 → SyncStep c.tasks (level_in w i)
      (left_by (level_in w i) t (name, touch) (read w.words name) (position_sync i z))) → LevelsRun c w (left_world w t words_touched v)
  levels_move_runs beside step j one three = elim (eqb_tells j i) [
    | inl q ↦ subst (λ k. SyncStep c.tasks (level_in w k) (level_in (left_world w t words_touched v) k)) (sym q.1)
        (subst (SyncStep c.tasks (level_in w i)) (own_level (omega (arith, one, q.1)) (omega (arith, three, q.1)))
        (step (omega (arith, one, q.1)) (omega (arith, three, q.1))))
    | inr q ↦ level_stays c.tasks t lt (level_in w j) (level_in (left_world w t words_touched v) j)
        (other_level j q.1 (beside.syncs j one three q.1) one three)
  ]

pub down_write_runs : (c : Config) → IsWithin c → (w : World) → IsGood c w → (t : ℕ) → t < c.tasks → (d : DownWrite) (v : View) →
    DownWriteFits c d → HasPosition (w.views t).phase (Some (closing_position d)) →
    HasPosition v.phase (position_after_closing d.level
    (down_write_after d d.step (found_by (down_write_next d d.step).1 (read w.words (down_write_next d d.step).0))).0) →
    (sync_role_of d.level (w.views t).phase ≡ IsApart →
    total c.tasks (λ x. entered (sync_role_of d.level (w.views x).phase)) + is_frozen_whole w.words ≡ 0) →
    LevelsRun c w (left_world w t (put w.words (down_write_next d d.step).0
    (left (down_write_next d d.step).1 (read w.words (down_write_next d d.step).0))) v)
down_write_runs c lim w good t lt d v fits was now alone =
    levels_move_runs c w t lt v (Some (closing_position d)) (position_after_closing d.level (next_closing c lim w good t lt d d.step)) was now
    d.level (down_write_next d d.step).0 (down_write_next d d.step).1 (down_write_event d d.step)
    (closing_others c lim w good t lt d d.step) (λ low high. closing_there c lim w good t lt d d.step fits was alone)

pub up_write_runs : (c : Config) → IsWithin c → (w : World) → IsGood c w → (t : ℕ) → t < c.tasks → (u : UpWrite) (v : View) →
    UpWriteFits u → HasPosition (w.views t).phase (Some (opening_position u)) →
    HasPosition v.phase (position_after_opening u.level
    (up_write_after u u.step (found_by (up_write_next u u.step).1 (read w.words (up_write_next u u.step).0))).0) →
    LevelsRun c w (left_world w t (put w.words (up_write_next u u.step).0
    (left (up_write_next u u.step).1 (read w.words (up_write_next u u.step).0))) v)
up_write_runs c lim w good t lt u v fits was now =
    levels_move_runs c w t lt v (Some (opening_position u)) (position_after_opening u.level (next_opening c lim w good t lt u u.step)) was now
    u.level (up_write_next u u.step).0 (up_write_next u u.step).1 (up_write_event u u.step)
    (opening_others c lim w good t lt u u.step fits) (opening_there c lim w good t lt u u.step fits was)

-- a freeze's store that opens a level whose counts it sums
pub unblocked_runs : (c : Config) → IsWithin c → (w : World) → IsGood c w → (t : ℕ) → t < c.tasks → (level : ℕ) (v : View) →
    HasPosition (w.views t).phase (Some (summing_at level)) → HasPosition v.phase (Some (leaving_at level)) →
    LevelsRun c w (left_world w t (put w.words (WordName.Block level) 0) v)
unblocked_runs c lim w good t lt level v was now =
    levels_move_runs c w t lt v (Some (summing_at level)) (Some (leaving_at level)) was now level (WordName.Block level) (Touch.Store 0)
    (up_write_event (record { level = level; step = UpWriteStep.ClearsBlock }) UpWriteStep.ClearsBlock) (leaving_beside level)
    (unblocked_there c w t lt level was)
