-- Steps of a callback: each keeps the invariant, and leaves the shown state.
use Rattle.gate_schedules.proofs.Prelude.{AtLevel, Callback, Config, Fits, Fitting, Holdings, Holds, HookAnswer, IsGood, IsWithin, Moves, Next, None}
use Rattle.gate_schedules.proofs.Prelude.{Phase, PhaseFits, Some, StepKeeps, SyncAt, SyncLevelHolds, SyncStep, Touch, View, ViewFits, WordName, Words}
use Rattle.gate_schedules.proofs.Prelude.{World, actions_after, ap, arith, common_steps, eqb_tells, found_by, held_of, if◌then◌else◌, inl, inr}
use Rattle.gate_schedules.proofs.Prelude.{inside, left, left_by, level_added_by, level_in, level_role_of, level_taken_by, map_next, phase_after, put}
use Rattle.gate_schedules.proofs.Prelude.{read, shown, subst, sym, sync_role_of, update, update_same, view_after, ℕ, ◌<◌, ◌∙◌, ◌≡◌, ◌≤◌}
use Rattle.{access_model.specs.Histories.levels_of, cpu_words.specs.gate_counts.Levels.Out as CountsNot}
use Rattle.freeze_laws.{proofs.levels.Operations.callbacks_are_there, specs.levels.{Events.SyncLevel, Operations.{CallbackIsThere, HoldsOfNext}}}
use Rattle.freeze_laws.specs.levels.{Operations.{KnowsCallback, by_next, callback_role, put_at, value_at}, Roles.Out as IsApart}
use Rattle.gate_world.specs.{Fits.GraceFits, Levels.{level_added_after, level_taken_after}}
use Rattle.percpu_rwsem.specs.{Callbacks.{at_callback, callback_after, callback_next}, declared.callbacks.CallbackStep.CallbackStep}
use Rattle.gate_schedules.proofs.frames.Frames.{left_alone, level_view_as}
use Rattle.gate_schedules.proofs.levels.Parts.{IsAtLevels, SameAtMounts, SameOffLevels, level_parts, level_still, whole_same}
use Rattle.gate_schedules.proofs.levels.Worlds.{IsEventAt, IsOfLevel, found_level, level_there, sync_elsewhere, sync_off, sync_on}

pub event_of_level : (b : Callback) (s : CallbackStep) → IsEventAt b.level (callback_next b s).0 (callback_next b s).1
event_of_level b s = grind arith

pub word_of_level : (b : Callback) (s : CallbackStep) → IsOfLevel b.level (callback_next b s).0
word_of_level b s = grind arith

-- it leaves the words beside the levels, and each `block`
words_beside : (w : Words) (b : Callback) (s : CallbackStep) (n : ℕ) → SameOffLevels w (put w (callback_next b s).0 n)
words_beside w b s n = grind arith

-- and the counts of each level
counts_same : (w : Words) (b : Callback) (s : CallbackStep) (n : ℕ) → (put w (callback_next b s).0 n).level ≡ w.level
counts_same w b s n = grind arith

-- and which tasks are inside a section
inside_same : (l : SyncLevel) (b : Callback) (s : CallbackStep) (n : ℕ) → (put_at l (callback_next b s).0 n).inside ≡ l.inside
inside_same l b s n = grind arith

-- its step counts nowhere
module _ (b : Callback) (counted : ℕ → ℕ → ℕ) where
  level_added_same : (s : CallbackStep) → level_added_after (callback_next b s).0 (callback_next b s).1 counted ≡ counted
  level_added_same s = grind arith

  level_taken_same : (s : CallbackStep) → level_taken_after (callback_next b s).0 (callback_next b s).1 counted ≡ counted
  level_taken_same s = grind arith

pub no_action : (b : Callback) (s : CallbackStep) (found : ℕ) → (callback_after b s found).1 ≡ None
no_action b s found = grind arith

after_at_levels : (n : Next Callback) → IsAtLevels (phase_after (map_next Phase.Callbacks n))
after_at_levels n = grind arith

after_counts : (i : ℕ) (n : Next Callback) → level_role_of i (phase_after (map_next Phase.Callbacks n)) ≡ CountsNot
after_counts i n = grind arith

after_outside : (n : Next Callback) → inside (phase_after (map_next Phase.Callbacks n)) ≡ 0
after_outside n = grind arith

-- what stays of a callback from step to step: its level, and that its grace period is among all tasks
abbrev SameCallback : ℕ → ℕ → Callback → Type 0
SameCallback level tasks x = (x.level ≡ level) × (x.tasks ≡ tasks) × GraceFits tasks x.step

-- so each step leaves it
stays_after : (b : Callback) → 0 < b.tasks → (s : CallbackStep) → GraceFits b.tasks s → (found : ℕ) →
    HoldsOfNext (SameCallback b.level b.tasks) (callback_after b s found).0
stays_after b some s f found = grind arith

-- at its level, the role of what comes after a step is the one of its program point
role_next : (i tasks : ℕ) (n : Next Callback) → HoldsOfNext (SameCallback i tasks) n →
    by_next (λ (x : Callback). callback_role x.step) IsApart n ≡ sync_role_of i (phase_after (map_next Phase.Callbacks n))
role_next i tasks n h = grind arith

-- at another level there is none
role_elsewhere : (i j tasks : ℕ) → (j ≡ i → ⊥) → (n : Next Callback) → HoldsOfNext (SameCallback i tasks) n →
    sync_role_of j (phase_after (map_next Phase.Callbacks n)) ≡ IsApart
role_elsewhere i j tasks ne n h = grind arith

-- so what comes after a step does
next_fits : (c : Config) (t level tasks : ℕ) (held : Holdings) → 1 ≤ level → level ≤ 3 → tasks ≡ c.tasks →
    (n : Next Callback) → HoldsOfNext (SameCallback level tasks) n →
    HoldsOfNext (λ (x : Callback). (x.tasks ≡ tasks) × KnowsCallback x.step) n →
    Fits c t held (phase_after (map_next Phase.Callbacks n))
next_fits c t level tasks held one three all n stays knows = grind arith

module _ (c : Config) (w : World) (good : IsGood c w) (t : ℕ) (lt : t < c.tasks) (hook : HookAnswer) (b : Callback) (s : CallbackStep)
    (e : (w.views t).phase ≡ Some (Phase.Callbacks (at_callback b s))) where
  -- the word of its step
  abbrev pub name : WordName
  name = (callback_next b s).0

  -- and how it touches it
  abbrev pub touch : Touch
  touch = (callback_next b s).1

  -- what comes after it
  abbrev coming : Next Callback
  coming = (callback_after b s (found_by touch (read w.words name))).0

  -- its view then
  abbrev pub seen_after : View
  seen_after = view_after (w.views t) (Phase.Callbacks (at_callback b s)) (read w.words name) hook

  abbrev then_words : Words
  then_words = put w.words name (left touch (read w.words name))

  abbrev then_world : World
  then_world = record { words = then_words; views = update w.views t seen_after }

  -- what its phase says before the step
  here_fits : PhaseFits c t (held_of (w.views t)) (Phase.Callbacks (at_callback b s))
  here_fits = subst (Fits c t (held_of (w.views t))) e (good Fitting t lt)

  some_task : 0 < b.tasks
  some_task = omega (arith, lt, here_fits.2)

  stays : HoldsOfNext (SameCallback b.level b.tasks) coming
  stays =
      stays_after b some_task s (subst (λ k. GraceFits k s) (sym here_fits.2) here_fits.3) (found_by touch (read w.words name))

  is_there : CallbackIsThere t (read w.words name) (level_in w b.level) b s
  is_there =
      callbacks_are_there t (read w.words name) (level_in w b.level) (at_callback b s) (omega (arith, lt, here_fits.2))
      (ap (sync_role_of b.level) e ∙ sync_on b.level (callback_role s)) here_fits.4

  -- on the value that the state has in its word
  found : value_at (level_in w b.level) (read w.words name) name ≡ read w.words name
  found = found_level w b.level name (word_of_level b s)

  -- what comes after it knows what is to come
  knows_next : HoldsOfNext (λ (x : Callback). (x.tasks ≡ b.tasks) × KnowsCallback x.step) coming
  knows_next = grind (arith, common_steps)

  -- it is inside no section before its step and after it
  pub stays_outside : inside seen_after.phase ≡ inside (w.views t).phase
  stays_outside = after_outside coming ∙ sym (ap inside e)

  -- the step is one of its level
  pub steps_there : SyncStep c.tasks (level_in w b.level)
      (record (left_by (level_in w b.level) t (name, touch) (read w.words name) (sync_role_of b.level seen_after.phase)) {
        inside = update (level_in w b.level).inside t (inside seen_after.phase);
      })
  steps_there =
      let i : ℕ = b.level in
      let n : ℕ = left touch (read w.words name) in
      let out : update (level_in w i).inside t (inside seen_after.phase) ≡ (put_at (level_in w i) name n).inside =
      ap (update (level_in w i).inside t) stays_outside ∙
      (update_same (level_in w i).inside t ∙ sym (inside_same (level_in w i) b s n)) in
      subst (λ k. SyncStep c.tasks (level_in w i) (record (left_by (level_in w i) t (name, touch) (read w.words name)
      (sync_role_of i seen_after.phase)) { inside = k })) (sym out)
      (subst (λ k. SyncStep c.tasks (level_in w i) (left_by (level_in w i) t (name, touch) (read w.words name) k))
      (role_next i b.tasks coming stays)
      (subst (λ value. SyncStep c.tasks (level_in w i) (left_by (level_in w i) t (name, touch) value
      (by_next (λ (x : Callback). callback_role x.step) IsApart (callback_after b s (found_by touch value)).0))) found
      (subst (λ k. SyncStep k (level_in w i) (left_by (level_in w i) t (name, touch) (value_at (level_in w i) (read w.words name) name)
      (by_next (λ (x : Callback). callback_role x.step) IsApart
      (callback_after b s (found_by touch (value_at (level_in w i) (read w.words name) name))).0))) here_fits.2 is_there.0)))

  own_level : SyncLevelHolds c.tasks (level_in then_world b.level)
  own_level =
      level_there c w good t lt b.level name touch (word_of_level b s) seen_after here_fits.0 here_fits.1 steps_there

  pub stays_apart : (i : ℕ) → (i ≡ b.level → ⊥) → sync_role_of i seen_after.phase ≡ sync_role_of i (w.views t).phase
  stays_apart i ne =
      role_elsewhere b.level i b.tasks ne coming stays ∙ sym (ap (sync_role_of i) e ∙ sync_off i b.level (callback_role s) ne)

  syncs : (i : ℕ) → Holds c then_world (SyncAt i)
  syncs i =
      elim (eqb_tells i b.level) [
        | inl q ↦ subst (λ k. Holds c then_world (SyncAt k)) (sym q.1) (λ one three. own_level.level)
        | inr q ↦
            sync_elsewhere c w good t lt b.level name touch (event_of_level b s) seen_after i q.1 (stays_apart i q.1)
      ]

  same_actions : seen_after.actions ≡ (w.views t).actions
  same_actions = ap (λ a. actions_after a (w.views t).actions) (no_action b s (found_by touch (read w.words name)))

  same_at_mounts : SameAtMounts (w.views t) seen_after
  same_at_mounts = grind arith

  level_counts : (i : ℕ) → Holds c then_world (AtLevel i)
  level_counts i =
      left_alone c w t lt (AtLevel i) then_words seen_after (
        λ j. (words_beside w.words b s (left touch (read w.words name)) j).block i,
        ap (λ f. f i) (counts_same w.words b s (left touch (read w.words name))),
        whole_same w.words then_words (words_beside w.words b s (left touch (read w.words name))),
      ) (level_view_as (ap (λ a. if levels_of a i then 1 else 0) same_actions)
      (ap (λ f. f i) (level_added_same b (level_added_by (w.views t).events) s))
      (ap (λ f. f i) (level_taken_same b (level_taken_by (w.views t).events) s))
      (after_counts i coming ∙ sym (ap (level_role_of i) e))) (good (AtLevel i))

  fits_next : ViewFits c t seen_after
  fits_next =
      next_fits c t b.level b.tasks (held_of seen_after) here_fits.0 here_fits.1 here_fits.2 coming stays
      knows_next

  keeps_at : StepKeeps c w t hook (Phase.Callbacks (at_callback b s))
  keeps_at =
      let words : SameOffLevels w.words then_words = words_beside w.words b s (left touch (read w.words name)) in
      let was : IsAtLevels (w.views t).phase = subst IsAtLevels (sym e) (after_at_levels (Next.Go (at_callback b s))) in
      let now : IsAtLevels seen_after.phase = after_at_levels coming in (
        level_parts c w good t lt then_words seen_after words was now same_at_mounts fits_next level_counts syncs own_level.sections.odd,
        subst (λ a. Moves c (shown c w) t a (shown c then_world)) (sym (no_action b s (found_by touch (read w.words name))))
            (level_still c w good t lt then_words seen_after words was now same_at_mounts (ap levels_of same_actions)),
      )

-- each step of a callback keeps the invariant, and leaves the shown state
pub callback_keeps : (c : Config) → IsWithin c → (w : World) → IsGood c w → (t : ℕ) → t < c.tasks → (hook : HookAnswer) (b : Callback) →
    (w.views t).phase ≡ Some (Phase.Callbacks b) → StepKeeps c w t hook (Phase.Callbacks b)
callback_keeps c lim w good t lt hook b e = keeps_at c w good t lt hook b b.step e
