-- What each step of an up-write leaves of the levels: its store opens its level, and its exchange leaves the rcu_sync.
use Rattle.gate_schedules.proofs.Prelude.{AtLevel, Config, Holds, IsGood, IsWithin, Next, Some, SyncStep, Touch, Transition, TransitionNext, UpWrite}
use Rattle.gate_schedules.proofs.Prelude.{UpWriteStep, View, WordName, Words, World, arith, exit_made, found_by, is_frozen_whole, left, left_by}
use Rattle.gate_schedules.proofs.Prelude.{level_in, on_exit, position_sync, put, read, refl, subst, sym, transition_after, up_write_after}
use Rattle.gate_schedules.proofs.Prelude.{up_write_next, update_at, ℕ, ◌<◌, ◌∙◌, ◌≡◌, ◌≤◌}
use Rattle.cpu_words.{proofs.gate_counts.LevelLaws.reopens, specs.gate_counts.Levels.Out as CountsNot}
use Rattle.freeze_laws.{proofs.levels.Operations.up_writes_are_there, specs.levels.Operations.{HoldsOfNext, by_next, up_write_role}}
use Rattle.freeze_laws.specs.levels.Roles.{Out as IsApart}
use Rattle.{gate_world.specs.{Fits.UpWriteFits, Roles.position_count}, percpu_rwsem.specs.Writers.at_up_write}
use Rattle.gate_schedules.proofs.{frames.Frames.SameLevelCounts, levels.LevelPositions.{HasPosition, LevelsHold, left_world, opening_position}}
use Rattle.gate_schedules.proofs.levels.{LevelPositions.position_after_opening, PositionRoles.{SayBeside, count_at, counts_become, counts_left}}
use Rattle.gate_schedules.proofs.levels.{PositionRoles.{levels_move, sync_at}, Worlds.{IsEventAt, event_word, found_level}}

-- the same up-write at this step
abbrev pub opening_at : UpWrite → UpWriteStep → UpWrite
opening_at u s = record u { step = s }

pub up_write_event : (u : UpWrite) (s : UpWriteStep) → IsEventAt u.level (up_write_next u s).0 (up_write_next u s).1
up_write_event u s = grind arith

up_write_counts : (w : Words) (u : UpWrite) (s : UpWriteStep) (n : ℕ) → (put w (up_write_next u s).0 n).level ≡ w.level
up_write_counts w u s n = grind arith

-- after each of its steps
pub up_write_level : (u : UpWrite) (s : UpWriteStep) (found : ℕ) →
    HoldsOfNext (λ (x : UpWrite). x.level ≡ u.level) (up_write_after u s found).0
up_write_level u s found = grind arith

-- and of its own what its step is doing there
opening_sync : (level : ℕ) → 1 ≤ level → (n : Next UpWrite) → HoldsOfNext (λ (x : UpWrite). x.level ≡ level) n →
    by_next (λ (x : UpWrite). up_write_role x.step) IsApart n ≡ position_sync level (position_after_opening level n)
opening_sync level one n h = grind arith

-- with its store made, it has no part in the counts
exit_counts : (u : UpWrite) → 1 ≤ u.level → (n : TransitionNext) →
    position_count u.level (position_after_opening u.level (exit_made u n)) ≡ CountsNot
exit_counts u one n = grind arith

module _ (c : Config) (lim : IsWithin c) (w : World) (good : IsGood c w) (t : ℕ) (lt : t < c.tasks) (u : UpWrite) where
  -- the words after its step at this program point
  abbrev pub words_opening : UpWriteStep → Words
  words_opening s = put w.words (up_write_next u s).0 (left (up_write_next u s).1 (read w.words (up_write_next u s).0))

  -- what comes after it
  abbrev pub next_opening : UpWriteStep → Next UpWrite
  next_opening s = (up_write_after u s (found_by (up_write_next u s).1 (read w.words (up_write_next u s).0))).0

  -- its step is one of the rcu_sync of its level
  pub opening_there : (s : UpWriteStep) → UpWriteFits (opening_at u s) →
      HasPosition (w.views t).phase (Some (opening_position (opening_at u s))) → 1 ≤ u.level → u.level ≤ 3 →
      SyncStep c.tasks (level_in w u.level) (left_by (level_in w u.level) t (up_write_next u s) (read w.words (up_write_next u s).0)
      (position_sync u.level (position_after_opening u.level (next_opening s))))
  opening_there s fits was low high =
      let name : WordName = (up_write_next u s).0 in
      let touch : Touch = (up_write_next u s).1 in
      let stays = up_write_level u s (found_by touch (read w.words name)) in
      let found = found_level w u.level name (event_word u.level name touch (up_write_event u s)) in
      let there = up_writes_are_there c.tasks t (read w.words name) (level_in w u.level) (opening_at u s) lt
      (was.syncs u.level low high ∙ sync_at u.level (opening_position (opening_at u s)) refl) fits.2 in
      subst (λ k. SyncStep c.tasks (level_in w u.level) (left_by (level_in w u.level) t (name, touch) (read w.words name) k))
      (opening_sync u.level fits.0 (next_opening s) stays)
      (subst (λ value. SyncStep c.tasks (level_in w u.level) (left_by (level_in w u.level) t (name, touch) value
      (by_next (λ (x : UpWrite). up_write_role x.step) IsApart (up_write_after u s (found_by touch value)).0))) found there.0)

  -- what comes after it says what it said of the other levels
  pub opening_others : (s : UpWriteStep) → UpWriteFits (opening_at u s) →
      SayBeside u.level (Some (opening_position (opening_at u s))) (position_after_opening u.level (next_opening s))
  opening_others s fits = grind arith

  module _ (v : View) (counts : SameLevelCounts (w.views t) v) where
    -- the counts of its level after its step: its store opens the level
    opening_here : (s : UpWriteStep) → 1 ≤ u.level → HasPosition (w.views t).phase (Some (opening_position (opening_at u s))) →
        HasPosition v.phase (position_after_opening u.level (next_opening s)) → Holds c (left_world w t (words_opening s) v) (AtLevel u.level)
    opening_here UpWriteStep.ClearsBlock one was now =
        counts_become c w good t lt v (Some (opening_position (opening_at u UpWriteStep.ClearsBlock)))
        (position_after_opening u.level (next_opening UpWriteStep.ClearsBlock)) was now counts (words_opening UpWriteStep.ClearsBlock) u.level 0
        (is_frozen_whole w.words) CountsNot (update_at w.words.block u.level 0) refl refl
        (λ low high. count_at u.level (opening_position (at_up_write u Transition.Loads)) refl)
        (λ low high. reopens (good (AtLevel u.level) low high) t lt lim.tasks lim.processors
        (was.counts u.level low high ∙ count_at u.level (opening_position (opening_at u UpWriteStep.ClearsBlock)) refl))
    opening_here (UpWriteStep.Exits Transition.Loads) one was now =
        counts_left c w good t lt v (Some (opening_position (opening_at u (UpWriteStep.Exits Transition.Loads))))
        (position_after_opening u.level (next_opening (UpWriteStep.Exits Transition.Loads))) was now counts
        (words_opening (UpWriteStep.Exits Transition.Loads)) u.level refl refl refl
        (λ low high. exit_counts u one (transition_after on_exit Transition.Loads (w.words.sync u.level)) ∙
        sym (count_at u.level (opening_position (opening_at u (UpWriteStep.Exits Transition.Loads))) refl))
    opening_here (UpWriteStep.Exits (Transition.Exchanges from to)) one was now =
        counts_left c w good t lt v (Some (opening_position (opening_at u (UpWriteStep.Exits (Transition.Exchanges from to)))))
        (position_after_opening u.level (next_opening (UpWriteStep.Exits (Transition.Exchanges from to)))) was now counts
        (words_opening (UpWriteStep.Exits (Transition.Exchanges from to)))
        u.level refl refl refl
        (λ low high. exit_counts u one (transition_after on_exit (Transition.Exchanges from to) (w.words.sync u.level)) ∙
        sym (count_at u.level (opening_position (opening_at u (UpWriteStep.Exits (Transition.Exchanges from to)))) refl))

    -- each step of an up-write leaves the levels as the invariant has them
    pub up_write_levels_at : (s : UpWriteStep) → UpWriteFits (opening_at u s) →
        HasPosition (w.views t).phase (Some (opening_position (opening_at u s))) →
        HasPosition v.phase (position_after_opening u.level (next_opening s)) → LevelsHold c (left_world w t (words_opening s) v)
    up_write_levels_at s fits was now =
        let name : WordName = (up_write_next u s).0 in
        let touch : Touch = (up_write_next u s).1 in
        levels_move c w good t lt v (Some (opening_position (opening_at u s))) (position_after_opening u.level (next_opening s)) was now counts
        u.level name touch (up_write_event u s) (up_write_counts w.words u s (left touch (read w.words name)))
        (opening_others s fits) (opening_here s fits.0 was now) (opening_there s fits was)

pub up_write_levels : (c : Config) → IsWithin c → (w : World) → IsGood c w → (t : ℕ) → t < c.tasks → (u : UpWrite) (v : View) →
    SameLevelCounts (w.views t) v → UpWriteFits u → HasPosition (w.views t).phase (Some (opening_position u)) →
    HasPosition v.phase (position_after_opening u.level
    (up_write_after u u.step (found_by (up_write_next u u.step).1 (read w.words (up_write_next u u.step).0))).0) →
    LevelsHold c (left_world w t (put w.words (up_write_next u u.step).0
    (left (up_write_next u u.step).1 (read w.words (up_write_next u u.step).0))) v)
up_write_levels c lim w good t lt u v counts fits was now = up_write_levels_at c lim w good t lt u v counts u.step fits was now
