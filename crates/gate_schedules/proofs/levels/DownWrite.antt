-- What each step of a down-write leaves of the levels: it enters the rcu_sync of its level, sets `block`, and sums the counts until nobody
-- is counted.
use Rattle.gate_schedules.proofs.Prelude.{Action, AtLevel, Bool, Config, DownWrite, DownWriteStep, Holds, IsGood, IsWithin, LevelPosition, LevelRole}
use Rattle.gate_schedules.proofs.Prelude.{Next, Option, Phase, Some, Stages, Sum, SyncLevelHolds, SyncStep, SyncWord, Touch, Transition}
use Rattle.gate_schedules.proofs.Prelude.{TransitionNext, View, WordName, Words, World, ap, arith, at_down_write, at_level, common_steps}
use Rattle.gate_schedules.proofs.Prelude.{down_write_after, down_write_next, down_write_role, eq-eqb, eqb_tells, false, found_by, holds_level}
use Rattle.gate_schedules.proofs.Prelude.{if◌then◌else◌, inl, inr, is_frozen_whole, left, left_by, level_in, level_role_of, on_callback, on_enter}
use Rattle.gate_schedules.proofs.Prelude.{position_sync, put, read, refl, stage_role_of, stage_roles, subst, suc, sym, sync_role_of, total}
use Rattle.gate_schedules.proofs.Prelude.{transition_after, true, true≢false, unpack, update, update_at, update_map, update_same, wrap_add, ℕ, ◌+◌}
use Rattle.gate_schedules.proofs.Prelude.{◌<◌, ◌==◌, ◌∙◌, ◌≡◌, ◌≤◌}
use Rattle.std.proofs.lemmas.Option.{none-some}
use Rattle.cpu_words.{proofs.gate_counts.LevelLaws.{none_passed, passes, sums_anew, sums_on, swaps}, specs.Sums.sum_taking}
use Rattle.cpu_words.specs.{declared.sums.Taken.Taken, gate_counts.Levels.{LevelHolds, LevelView, Out as CountsNot, Passed as CountsPassed, Summing}}
use Rattle.freeze_laws.proofs.{levels.{EventLaws.swap_keeps, Operations.down_writes_are_there}, stages.Facts.total_alone}
use Rattle.freeze_laws.{proofs.stages.Positions.{not_full, other_position}, specs.levels.Operations.{HoldsOfNext, by_next, value_at}}
use Rattle.freeze_laws.specs.{levels.Roles.{Closed, Out as IsApart, entered}, stages.Roles.has_position}
use Rattle.gate_world.specs.{Fits.DownWriteFits, Roles.{down_count_role, position_count}}
use Rattle.percpu_rwsem.specs.{Graces.looked, SyncWords.{is_passed, is_queued}, Writers.{callback_step, down_write_summed, enter_step}}
use Rattle.percpu_rwsem.specs.{Writers.{passed_awaited, sections_awaited, sum_begun}, declared.{grace.GraceNext.GraceNext, sync_word.GpState.GpState}}
use Rattle.gate_schedules.proofs.{frames.Frames.SameLevelCounts, levels.LevelPositions.{HasPosition, LevelsHold, closing_position, left_world}}
use Rattle.gate_schedules.proofs.levels.{LevelPositions.position_after_closing, PositionRoles.{SayBeside, count_at, counts_become, counts_left}}
use Rattle.gate_schedules.proofs.levels.{PositionRoles.{levels_move, sync_at}, Worlds.{IsEventAt, event_word, found_level, level_right}}

-- each step of a down-write is one of its level, and changes no section word
pub down_write_event : (d : DownWrite) (s : DownWriteStep) → IsEventAt d.level (down_write_next d s).0 (down_write_next d s).1
down_write_event d s = grind arith

-- it leaves the counts
pub down_write_counts : (w : Words) (d : DownWrite) (s : DownWriteStep) →
    (put w (down_write_next d s).0 (left (down_write_next d s).1 (read w (down_write_next d s).0))).level ≡ w.level
down_write_counts w d s = grind arith

-- what comes after a step is at this level
abbrev AtTheLevel : ℕ → Next DownWrite → Type 0
AtTheLevel level n = HoldsOfNext (λ (x : DownWrite). x.level ≡ level) n

pub down_write_level : (d : DownWrite) (s : DownWriteStep) (found : ℕ) → AtTheLevel d.level (down_write_after d s found).0
down_write_level d s found = grind arith

-- what comes after its step says what it said of the other levels
closing_beside : (level : ℕ) (s : LevelPosition) → s.level ≡ level → (n : Next DownWrite) → AtTheLevel level n →
    SayBeside level (Some s) (position_after_closing level n)
closing_beside level s e n h = grind (arith, common_steps)

-- and of its own what its step is doing there
closing_sync : (level : ℕ) (n : Next DownWrite) → AtTheLevel level n →
    by_next (λ (x : DownWrite). down_write_role x.step) Closed n ≡ position_sync level (position_after_closing level n)
closing_sync level n h = grind arith

counts_as : (d : DownWrite) (s : DownWriteStep) → position_count d.level (Some (closing_position (at_down_write d s))) ≡ down_count_role s
counts_as d s = count_at d.level (closing_position (at_down_write d s)) refl

-- nor has it while it enters
enter_counts : (tasks : ℕ) (n : TransitionNext) → down_count_role (enter_step tasks n) ≡ CountsNot
enter_counts tasks n = grind arith

-- or ends its grace period
call_counts : (n : TransitionNext) → down_count_role (callback_step n) ≡ CountsNot
call_counts n = grind arith

-- or is in it
grace_counts : (d : DownWrite) (n : GraceNext) →
    position_count d.level (position_after_closing d.level (sections_awaited d n)) ≡ CountsNot
grace_counts d n = grind arith

-- whatever number it found
passed_counts : (d : DownWrite) (o : Option SyncWord) →
    position_count d.level (position_after_closing d.level (passed_awaited d o)) ≡ CountsNot
passed_counts d o = grind arith

-- by its swap of a clear `block` it begins a sum
swap_counts : (d : DownWrite) (b : Bool) → b ≡ true → position_count d.level (position_after_closing d.level
    (if b then Next.Go (at_down_write d sum_begun) else Next.Wait (at_down_write d DownWriteStep.SetsBlock))) ≡ Summing 0 0
swap_counts d true e = counts_as d sum_begun
swap_counts d false e = absurd (true≢false (sym e))

-- what a sum is after one word more, of so many processors: it goes on, or that is its total
abbrev IsTaken : (k sum processors : ℕ) → Taken → Type 0
IsTaken k sum processors (Taken.More more) = (more.words ≡ suc k) × (more.total ≡ sum) × (suc k < processors)
IsTaken k sum processors (Taken.Total n) = (n ≡ sum) × (processors ≤ suc k)

-- each word that is taken leaves one of them
is_taken : (sum : Sum) (word processors : ℕ) →
    IsTaken sum.words (wrap_add sum.total word) processors (sum_taking sum word processors)
is_taken sum word processors = grind arith

-- what a down-write is doing at the counts once it has its total: the level is passed where it is 0
abbrev total_role : Bool → LevelRole
total_role true = CountsPassed
total_role false = Summing 0 0

-- and after one word more
abbrev taken_role : Taken → LevelRole
taken_role (Taken.More sum) = Summing sum.words sum.total
taken_role (Taken.Total n) = total_role (n == 0)

-- and so after one word more
taken_counts : (d : DownWrite) (taken : Taken) →
    position_count d.level (position_after_closing d.level (down_write_summed d taken).0) ≡ taken_role taken
taken_counts d taken = grind arith

-- so the step that passes a level leaves it passed
taken_passes : (d : DownWrite) (j : ℕ) (taken : Taken) → (down_write_summed d taken).1 ≡ Some (Action.Pass j) → taken_role taken ≡ CountsPassed
taken_passes d j taken e = grind arith

pub queued_passed : (s : GpState) → is_queued s ≡ true → is_passed s ≡ true
queued_passed s e = grind arith

module _ (c : Config) (lim : IsWithin c) (w : World) (good : IsGood c w) (t : ℕ) (lt : t < c.tasks) where
  -- the counts of a level whose writer goes from one role to another
  abbrev RoleAfter : ℕ → LevelRole → Type 0
  RoleAfter i r = LevelHolds c.tasks c.processors (w.words.block i) (is_frozen_whole w.words) (w.words.level i)
      (update (λ x. at_level i (w.views x)) t (record (at_level i (w.views t)) { role = r }))

  -- the last word of a sum leaves what holds of the counts
  total_taken : (i k sum : ℕ) → 1 ≤ i → i ≤ 3 → level_role_of i (w.views t).phase ≡ Summing k sum → suc k ≡ c.processors → (n : ℕ) →
      n ≡ wrap_add sum (w.words.level i k) → RoleAfter i (total_role (n == 0))
  total_taken i k sum one three here last n e = elim (eqb_tells n 0) [
    | inl q ↦ subst (λ b. RoleAfter i (total_role b)) (sym q.0)
        (passes (good (AtLevel i) one three) t lt lim.tasks lim.processors k sum here last (sym e ∙ q.1))
    | inr q ↦ subst (λ b. RoleAfter i (total_role b)) (sym q.0)
        (sums_anew (good (AtLevel i) one three) t lt lim.tasks lim.processors k sum here last)
  ]

  -- a word more of a sum, whether it is its last or not
  word_taken : (i k sum : ℕ) → 1 ≤ i → i ≤ 3 → level_role_of i (w.views t).phase ≡ Summing k sum → k < c.processors → (taken : Taken) →
      IsTaken k (wrap_add sum (w.words.level i k)) c.processors taken → RoleAfter i (taken_role taken)
  word_taken i k sum one three here more (Taken.More next) is =
      subst (λ n. RoleAfter i (Summing n next.total)) (sym is.0)
      (subst (λ n. RoleAfter i (Summing (suc k) n)) (sym is.1)
      (sums_on (good (AtLevel i) one three) t lt lim.tasks lim.processors k sum here is.2))
  word_taken i k sum one three here more (Taken.Total n) is = total_taken i k sum one three here (omega (arith, more, is.1)) n is.0

  module _ (d : DownWrite) where
    -- the words after its step at this program point
    abbrev pub words_closing : DownWriteStep → Words
    words_closing s = put w.words (down_write_next d s).0 (left (down_write_next d s).1 (read w.words (down_write_next d s).0))

    -- what it finds
    abbrev pub found_closing : DownWriteStep → ℕ
    found_closing s = found_by (down_write_next d s).1 (read w.words (down_write_next d s).0)

    -- what comes after it
    abbrev pub next_closing : DownWriteStep → Next DownWrite
    next_closing s = (down_write_after d s (found_closing s)).0

    -- its swap finds `block` clear
    pub swap_finds_clear : 1 ≤ d.level → d.level ≤ 3 → HasPosition (w.views t).phase (Some (closing_position (at_down_write d DownWriteStep.SetsBlock))) →
        w.words.block d.level ≡ 0
    swap_finds_clear one three was =
        let l = level_in w d.level in
        let right = level_right c w good d.level one three in
        (swap_keeps c.tasks right.level.word l.block l.full l.section l.at right.level.holds t lt
        (was.syncs d.level one three ∙ sync_at d.level (closing_position (at_down_write d DownWriteStep.SetsBlock)) refl)).0

    -- its sum after one word more
    summed_here : (sum : Sum) → DownWriteFits c (at_down_write d (DownWriteStep.Sums sum)) →
        HasPosition (w.views t).phase (Some (closing_position (at_down_write d (DownWriteStep.Sums sum)))) →
        RoleAfter d.level (taken_role (sum_taking sum (w.words.level d.level sum.words) d.processors))
    summed_here sum fits was =
        word_taken d.level sum.words sum.total fits.0 fits.1 (was.counts d.level fits.0 fits.1 ∙ counts_as d (DownWriteStep.Sums sum)) fits.4
        (sum_taking sum (w.words.level d.level sum.words) d.processors)
        (subst (λ k. IsTaken sum.words (wrap_add sum.total (w.words.level d.level sum.words)) k
        (sum_taking sum (w.words.level d.level sum.words) d.processors)) fits.3
        (is_taken sum (w.words.level d.level sum.words) d.processors))

    -- the sum of nobody's counts finds that nobody holds the level
    summed_nobody : (sum : Sum) → DownWriteFits c (at_down_write d (DownWriteStep.Sums sum)) →
        HasPosition (w.views t).phase (Some (closing_position (at_down_write d (DownWriteStep.Sums sum)))) → (j : ℕ) →
        (down_write_summed d (sum_taking sum (w.words.level d.level sum.words) d.processors)).1 ≡ Some (Action.Pass j) →
        total c.tasks (λ x. (at_level d.level (w.views x)).held) ≡ 0
    summed_nobody sum fits was j e =
        let views : ℕ → LevelView = λ x. at_level d.level (w.views x) in
        let passed : LevelView = record (views t) { role = CountsPassed } in
        let after = subst (RoleAfter d.level)
        (taken_passes d j (sum_taking sum (w.words.level d.level sum.words) d.processors) e) (summed_here sum fits was) in
        let held : ◌≡◌ {A = ℕ → ℕ} (λ x. (update views t passed x).held) (λ x. (views x).held) =
        update_map (λ (x : LevelView). x.held) views t passed ∙ update_same (λ x. (views x).held) t in
        ap (total c.tasks) (sym held) ∙ none_passed after t lt (ap (λ (x : LevelView). x.role) (update_at views t passed))

    -- a step that passes a level finds that nobody holds it
    passes_nobody : (s : DownWriteStep) → DownWriteFits c (at_down_write d s) →
        HasPosition (w.views t).phase (Some (closing_position (at_down_write d s))) → (j : ℕ) →
        (down_write_after d s (found_closing s)).1 ≡ Some (Action.Pass j) →
        total c.tasks (λ x. if holds_level (w.views x) d.level then 1 else 0) ≡ 0
    passes_nobody (DownWriteStep.Sums sum) fits was j e = summed_nobody sum fits was j e
    passes_nobody other fits was j e = absurd (none-some (Action.Pass j) e)

    -- its step is one of the rcu_sync of its level; it enters where nobody has entered
    pub closing_there : (s : DownWriteStep) → DownWriteFits c (at_down_write d s) →
        HasPosition (w.views t).phase (Some (closing_position (at_down_write d s))) →
        (sync_role_of d.level (w.views t).phase ≡ IsApart →
        total c.tasks (λ x. entered (sync_role_of d.level (w.views x).phase)) + is_frozen_whole w.words ≡ 0) →
        SyncStep c.tasks (level_in w d.level)
        (left_by (level_in w d.level) t (down_write_next d s) (read w.words (down_write_next d s).0)
        (position_sync d.level (position_after_closing d.level (next_closing s))))
    closing_there s fits was alone =
        let name : WordName = (down_write_next d s).0 in
        let touch : Touch = (down_write_next d s).1 in
        let l = level_in w d.level in
        let found = found_level w d.level name (event_word d.level name touch (down_write_event d s)) in
        let there = down_writes_are_there t (read w.words name) l (at_down_write d s) (omega (arith, lt, fits.2))
        (subst (λ k. SyncLevelHolds k l) (sym fits.2) (level_right c w good d.level fits.0 fits.1))
        (was.syncs d.level fits.0 fits.1 ∙ sync_at d.level (closing_position (at_down_write d s)) refl) fits.5
        (λ out. subst (λ k. total k (λ x. entered (sync_role_of d.level (w.views x).phase)) + is_frozen_whole w.words ≡ 0)
        (sym fits.2) (alone out)) in
        subst (λ k. SyncStep c.tasks l (left_by l t (name, touch) (read w.words name) k))
        (closing_sync d.level (next_closing s) (down_write_level d s (found_closing s)))
        (subst (λ value. SyncStep c.tasks l (left_by l t (name, touch) value
        (by_next (λ (x : DownWrite). down_write_role x.step) Closed (down_write_after d s (found_by touch value)).0))) found
        (subst (λ k. SyncStep k l (left_by l t (name, touch) (value_at l (read w.words name) name)
        (by_next (λ (x : DownWrite). down_write_role x.step) Closed
        (down_write_after d s (found_by touch (value_at l (read w.words name) name))).0))) fits.2 there.0))

    -- what comes after it says what it said of the other levels
    pub closing_others : (s : DownWriteStep) →
        SayBeside d.level (Some (closing_position (at_down_write d s))) (position_after_closing d.level (next_closing s))
    closing_others s =
        closing_beside d.level (closing_position (at_down_write d s)) refl (next_closing s) (down_write_level d s (found_closing s))

    module _ (v : View) (counts : SameLevelCounts (w.views t) v) where
      -- a step before its swap leaves the counts of its level
      waits_here : (s : DownWriteStep) → (words_closing s).block d.level ≡ w.words.block d.level →
          is_frozen_whole (words_closing s) ≡ is_frozen_whole w.words → down_count_role s ≡ CountsNot →
          position_count d.level (position_after_closing d.level (next_closing s)) ≡ CountsNot →
          HasPosition (w.views t).phase (Some (closing_position (at_down_write d s))) →
          HasPosition v.phase (position_after_closing d.level (next_closing s)) → Holds c (left_world w t (words_closing s) v) (AtLevel d.level)
      waits_here s eb ef before after was now =
          counts_left c w good t lt v (Some (closing_position (at_down_write d s))) (position_after_closing d.level (next_closing s)) was now
          counts (words_closing s) d.level eb (ap (λ f. f d.level) (down_write_counts w.words d s)) ef
          (λ low high. after ∙ sym (counts_as d s ∙ before))

      -- the counts of its level after its step
      closing_here : (s : DownWriteStep) → DownWriteFits c (at_down_write d s) →
          HasPosition (w.views t).phase (Some (closing_position (at_down_write d s))) →
          HasPosition v.phase (position_after_closing d.level (next_closing s)) → Holds c (left_world w t (words_closing s) v) (AtLevel d.level)
      closing_here (DownWriteStep.Enters Transition.Loads) fits was now =
          waits_here (DownWriteStep.Enters Transition.Loads) refl refl refl
          (counts_as d (enter_step d.tasks (transition_after on_enter Transition.Loads (w.words.sync d.level))) ∙
          enter_counts d.tasks (transition_after on_enter Transition.Loads (w.words.sync d.level))) was now
      closing_here (DownWriteStep.Enters (Transition.Exchanges from to)) fits was now =
          waits_here (DownWriteStep.Enters (Transition.Exchanges from to)) refl refl refl
          (counts_as d (enter_step d.tasks (transition_after on_enter (Transition.Exchanges from to) (w.words.sync d.level))) ∙
          enter_counts d.tasks (transition_after on_enter (Transition.Exchanges from to) (w.words.sync d.level))) was now
      closing_here (DownWriteStep.AwaitsSections g) fits was now =
          waits_here (DownWriteStep.AwaitsSections g) refl refl refl (grace_counts d (looked g (w.words.section g.task))) was now
      closing_here (DownWriteStep.CallsBack Transition.Loads) fits was now =
          waits_here (DownWriteStep.CallsBack Transition.Loads) refl refl refl
          (counts_as d (callback_step (transition_after on_callback Transition.Loads (w.words.sync d.level))) ∙
          call_counts (transition_after on_callback Transition.Loads (w.words.sync d.level))) was now
      closing_here (DownWriteStep.CallsBack (Transition.Exchanges from to)) fits was now =
          waits_here (DownWriteStep.CallsBack (Transition.Exchanges from to)) refl refl refl
          (counts_as d (callback_step (transition_after on_callback (Transition.Exchanges from to) (w.words.sync d.level))) ∙
          call_counts (transition_after on_callback (Transition.Exchanges from to) (w.words.sync d.level))) was now
      closing_here DownWriteStep.AwaitsPassed fits was now =
          waits_here DownWriteStep.AwaitsPassed refl refl refl (passed_counts d (unpack (w.words.sync d.level))) was now
      closing_here DownWriteStep.SetsBlock fits was now =
          let clear = swap_finds_clear fits.0 fits.1 was in
          counts_become c w good t lt v (Some (closing_position (at_down_write d DownWriteStep.SetsBlock)))
          (position_after_closing d.level (next_closing DownWriteStep.SetsBlock)) was now counts (words_closing DownWriteStep.SetsBlock) d.level 1
          (is_frozen_whole w.words) (Summing 0 0) (update_at w.words.block d.level 1) refl refl
          (λ low high. swap_counts d (w.words.block d.level == 0) (eq-eqb (w.words.block d.level) 0 clear))
          (λ low high. swaps (good (AtLevel d.level) low high) t lt lim.tasks lim.processors
          (was.counts d.level low high ∙ counts_as d DownWriteStep.SetsBlock) clear (omega (arith, lim.some_processor)))
      closing_here (DownWriteStep.Sums sum) fits was now =
          counts_become c w good t lt v (Some (closing_position (at_down_write d (DownWriteStep.Sums sum))))
          (position_after_closing d.level (next_closing (DownWriteStep.Sums sum))) was now counts (words_closing (DownWriteStep.Sums sum)) d.level
          (w.words.block d.level) (is_frozen_whole w.words)
          (taken_role (sum_taking sum (w.words.level d.level sum.words) d.processors)) refl refl
          (ap (λ f. f d.level) (down_write_counts w.words d (DownWriteStep.Sums sum)))
          (λ low high. taken_counts d (sum_taking sum (w.words.level d.level sum.words) d.processors))
          (λ low high. summed_here sum fits was)

      -- each step of a down-write leaves the levels as the invariant has them
      pub down_write_levels_at : (s : DownWriteStep) → DownWriteFits c (at_down_write d s) →
          HasPosition (w.views t).phase (Some (closing_position (at_down_write d s))) →
          HasPosition v.phase (position_after_closing d.level (next_closing s)) →
          (sync_role_of d.level (w.views t).phase ≡ IsApart →
          total c.tasks (λ x. entered (sync_role_of d.level (w.views x).phase)) + is_frozen_whole w.words ≡ 0) →
          LevelsHold c (left_world w t (words_closing s) v)
      down_write_levels_at s fits was now alone =
          levels_move c w good t lt v (Some (closing_position (at_down_write d s))) (position_after_closing d.level (next_closing s)) was now
          counts d.level (down_write_next d s).0 (down_write_next d s).1 (down_write_event d s) (down_write_counts w.words d s)
          (closing_others s) (closing_here s fits was now) (λ low high. closing_there s fits was alone)

pub down_write_levels : (c : Config) → IsWithin c → (w : World) → IsGood c w → (t : ℕ) → t < c.tasks → (d : DownWrite) (v : View) →
    SameLevelCounts (w.views t) v → DownWriteFits c d → HasPosition (w.views t).phase (Some (closing_position d)) →
    HasPosition v.phase (position_after_closing d.level
    (down_write_after d d.step (found_by (down_write_next d d.step).1 (read w.words (down_write_next d d.step).0))).0) →
    (sync_role_of d.level (w.views t).phase ≡ IsApart →
    total c.tasks (λ x. entered (sync_role_of d.level (w.views x).phase)) + is_frozen_whole w.words ≡ 0) →
    LevelsHold c (left_world w t (put w.words (down_write_next d d.step).0
    (left (down_write_next d d.step).1 (read w.words (down_write_next d d.step).0))) v)
down_write_levels c lim w good t lt d v counts fits was now alone =
    down_write_levels_at c lim w good t lt d v counts d.step fits was now alone

pub passes_finds_nobody : (c : Config) → IsWithin c → (w : World) → IsGood c w → (t : ℕ) → t < c.tasks → (d : DownWrite) →
    DownWriteFits c d → HasPosition (w.views t).phase (Some (closing_position d)) → (j : ℕ) →
    (down_write_after d d.step (found_by (down_write_next d d.step).1 (read w.words (down_write_next d d.step).0))).1 ≡ Some (Action.Pass j) →
    total c.tasks (λ x. if holds_level (w.views x) d.level then 1 else 0) ≡ 0
passes_finds_nobody c lim w good t lt d fits was j e = passes_nobody c lim w good t lt d d.step fits was j e

pub entered_position : (i : ℕ) (p : Option Phase) → entered (sync_role_of i p) ≤ has_position (stage_role_of p)
entered_position i p = grind arith

-- where a task with a position has not entered a level, nobody has, and the file system isn't frozen as a whole
pub entered_by_nobody : (c : Config) (w : World) → IsGood c w → (t : ℕ) → t < c.tasks →
    has_position (stage_role_of (w.views t).phase) ≡ 1 → (i : ℕ) → sync_role_of i (w.views t).phase ≡ IsApart →
    total c.tasks (λ x. entered (sync_role_of i (w.views x).phase)) + is_frozen_whole w.words ≡ 0
entered_by_nobody c w good t lt position i apart =
    let others : (x : ℕ) → x < c.tasks → (x ≡ t → ⊥) → entered (sync_role_of i (w.views x).phase) ≡ 0 =
    λ x lx ne. omega (
      arith,
      entered_position i (w.views x).phase,
      other_position c.tasks w.words.stage w.words.sb w.words.remount w.words.block (stage_roles w) (good Stages) t lt position x lx ne,
    ) in
    omega (
      arith,
      total_alone c.tasks t (λ x. entered (sync_role_of i (w.views x).phase)) lt others,
      ap entered apart,
      not_full c.tasks w.words.stage w.words.sb w.words.remount w.words.block (stage_roles w) (good Stages) t lt position,
    )
