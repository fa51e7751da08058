-- The counts of a freeze level after each kind of step of a reader there.
use Rattle.gate_schedules.proofs.Prelude.{Action, AtLevel, Bool, Config, Holds, HookAnswer, IsGood, IsWithin, LevelRole, Next, Option, Phase, Touch}
use Rattle.gate_schedules.proofs.Prelude.{View, WordName, Words, World, ap, arith, at_level, eq-eqb, eqb_tells, false, holds_level, if◌then◌else◌}
use Rattle.gate_schedules.proofs.Prelude.{inl, inr, is_frozen_whole, level_added_by, level_role_of, level_taken_by, put, refl, subst, sym, true}
use Rattle.gate_schedules.proofs.Prelude.{update, update_at, update_map, update_off, view_with, wrap_add, ℕ, ◌+◌, ◌<◌, ◌==◌, ◌∙◌, ◌≡◌, ◌≤◌}
use Rattle.cpu_words.{proofs.gate_counts.LevelLaws.{adds_fast, adds_slow, backs_away, gives_back}, specs.Touches.wrap_sub}
use Rattle.cpu_words.specs.gate_counts.Levels.{BackingOff, LevelHolds, LevelView, Out as CountsNot, Seeking}
use Rattle.gate_world.specs.Roles.{count_role_if}
use Rattle.gate_schedules.proofs.{frames.Frames.{left_alone, level_as, level_view_as}, levels.Parts.{SameOffLevels, whole_same}}

pub count_on : (i : ℕ) (r : LevelRole) → count_role_if (i == i) r ≡ r
count_on i r = rw (eq-eqb i i refl)

-- one access at most has room
pub bit_room : (b : Bool) → (if b then 1 else 0) < 1024
bit_room true = omega arith
bit_room false = omega arith

module _ (c : Config) (w : World) (good : IsGood c w) (t : ℕ) (lt : t < c.tasks) (i : ℕ) where
  -- one level's counts after a step of this task, which makes this of its words and of the task's view
  abbrev pub LevelHoldsAfter : (ℕ → ℕ) → LevelView → Type 0
  LevelHoldsAfter count v =
      LevelHolds c.tasks c.processors (w.words.block i) (is_frozen_whole w.words) count (update (λ x. at_level i (w.views x)) t v)

  module _ (ws : Words) (v : View) (words : SameOffLevels w.words ws) where
    -- a step that counts at one level at most
    pub level_follows : (count : ℕ → ℕ) (view : LevelView) → ws.level i ≡ count → at_level i v ≡ view →
        (1 ≤ i → i ≤ 3 → LevelHoldsAfter count view) →
        ((j : ℕ) → (j ≡ i → ⊥) → (ws.level j ≡ w.words.level j) × (at_level j v ≡ at_level j (w.views t))) →
        (j : ℕ) → Holds c (record { words = ws; views = update w.views t v }) (AtLevel j)
    level_follows count view counts seen own off j =
        elim (eqb_tells j i) [
          | inl q ↦ subst (λ y. Holds c (record { words = ws; views = update w.views t v }) (AtLevel y)) (sym q.1)
              (λ l1 l3. level_as (λ k. (words k).block i) (whole_same w.words ws words) counts
              (update_map (at_level i) w.views t v ∙ ap (update (λ x. at_level i (w.views x)) t) seen) (own l1 l3))
          | inr q ↦
              let o : (ws.level j ≡ w.words.level j) × (at_level j v ≡ at_level j (w.views t)) = off j q.1 in
              left_alone c w t lt (AtLevel j) ws v (λ k. (words k).block j, o.0, whole_same w.words ws words) o.1 (good (AtLevel j))
        ]

-- 1 where an access is held
abbrev pub held_bit : Bool → ℕ
held_bit b = if b then 1 else 0

-- a view's accesses and roles at other levels are as they were
pub record SameElsewhere (i : ℕ) (old new : View) : Type 0 where
  pub held_same : (j : ℕ) → (j ≡ i → ⊥) → held_bit (holds_level new j) ≡ held_bit (holds_level old j)
  pub role_same : (j : ℕ) → (j ≡ i → ⊥) → level_role_of j new.phase ≡ level_role_of j old.phase

module _ (c : Config) (lim : IsWithin c) (w : World) (good : IsGood c w) (t : ℕ) (lt : t < c.tasks) (i p : ℕ) (lp : p < c.processors)
    (hook : HookAnswer) (coming : Next Phase × Option Action) where
  -- the words after an addition to a level's count on this processor
  abbrev pub words_up : Words
  words_up = put w.words (WordName.LevelCount i p) (wrap_add (w.words.level i p) 1)

  -- and after a subtraction
  abbrev pub words_down : Words
  words_down = put w.words (WordName.LevelCount i p) (wrap_sub (w.words.level i p) 1)

  -- the task's view after the addition
  abbrev pub view_up : View
  view_up = view_with (w.views t) (WordName.LevelCount i p, Touch.Add 1) (w.words.level i p) hook coming

  -- and after the subtraction
  abbrev pub view_down : View
  view_down = view_with (w.views t) (WordName.LevelCount i p, Touch.Sub 1) (w.words.level i p) hook coming

  pub up_beside : SameOffLevels w.words words_up
  up_beside = refl

  pub down_beside : SameOffLevels w.words words_down
  down_beside = refl

  -- what the level's counts are before the step
  abbrev was : LevelView
  was = at_level i (w.views t)

  -- what the task has added to them after the addition
  abbrev added_more : ℕ → ℕ
  added_more = update was.added p (was.added p + 1)

  -- what it has taken from them after the subtraction
  abbrev taken_more : ℕ → ℕ
  taken_more = update was.taken p (was.taken p + 1)

  -- the counts of each level after an addition, which leaves this of the task's accesses and role there
  levels_up : (h : ℕ) (r : LevelRole) → held_bit (holds_level view_up i) ≡ h → level_role_of i view_up.phase ≡ r →
      SameElsewhere i (w.views t) view_up →
      (1 ≤ i → i ≤ 3 → LevelHoldsAfter c w good t lt i (update (w.words.level i) p (wrap_add (w.words.level i p) 1))
      (record { held = h; added = added_more; taken = was.taken; role = r })) →
      (j : ℕ) → Holds c (record { words = words_up; views = update w.views t view_up }) (AtLevel j)
  levels_up h r held role same own =
      level_follows c w good t lt i words_up view_up up_beside (update (w.words.level i) p (wrap_add (w.words.level i p) 1))
      (record { held = h; added = added_more; taken = was.taken; role = r })
      (update_at w.words.level i (update (w.words.level i) p (wrap_add (w.words.level i p) 1)))
      (level_view_as held (update_at (level_added_by (w.views t).events) i added_more) refl role) own
      (λ j ne. (
        update_off w.words.level i (update (w.words.level i) p (wrap_add (w.words.level i p) 1)) j ne,
        level_view_as (same.held_same j ne) (update_off (level_added_by (w.views t).events) i added_more j ne) refl (same.role_same j ne),
      ))

  -- the same after a subtraction
  levels_down : (h : ℕ) (r : LevelRole) → held_bit (holds_level view_down i) ≡ h → level_role_of i view_down.phase ≡ r →
      SameElsewhere i (w.views t) view_down →
      (1 ≤ i → i ≤ 3 → LevelHoldsAfter c w good t lt i (update (w.words.level i) p (wrap_sub (w.words.level i p) 1))
      (record { held = h; added = was.added; taken = taken_more; role = r })) →
      (j : ℕ) → Holds c (record { words = words_down; views = update w.views t view_down }) (AtLevel j)
  levels_down h r held role same own =
      level_follows c w good t lt i words_down view_down down_beside (update (w.words.level i) p (wrap_sub (w.words.level i p) 1))
      (record { held = h; added = was.added; taken = taken_more; role = r })
      (update_at w.words.level i (update (w.words.level i) p (wrap_sub (w.words.level i p) 1)))
      (level_view_as held refl (update_at (level_taken_by (w.views t).events) i taken_more) role) own
      (λ j ne. (
        update_off w.words.level i (update (w.words.level i) p (wrap_sub (w.words.level i p) 1)) j ne,
        level_view_as (same.held_same j ne) refl (update_off (level_taken_by (w.views t).events) i taken_more j ne) (same.role_same j ne),
      ))

  -- an addition on the slow path, before the task loads `block`
  pub seeks : level_role_of i (w.views t).phase ≡ CountsNot → level_role_of i view_up.phase ≡ Seeking p →
      holds_level view_up ≡ holds_level (w.views t) → SameElsewhere i (w.views t) view_up →
      (j : ℕ) → Holds c (record { words = words_up; views = update w.views t view_up }) (AtLevel j)
  seeks out role held same =
      levels_up was.held (Seeking p) (ap (λ f. held_bit (f i)) held) role same
      (λ l1 l3. adds_slow (good (AtLevel i) l1 l3) t lt lim.tasks lim.processors p lp out)

  -- one on the fast path, which is a grant
  pub enters_fast : w.words.block i ≡ 0 → level_role_of i (w.views t).phase ≡ CountsNot → level_role_of i view_up.phase ≡ CountsNot →
      holds_level (w.views t) i ≡ false → holds_level view_up i ≡ true → SameElsewhere i (w.views t) view_up →
      (j : ℕ) → Holds c (record { words = words_up; views = update w.views t view_up }) (AtLevel j)
  enters_fast clear out role none held same =
      levels_up (was.held + 1) was.role (ap held_bit held ∙ sym (ap (λ b. held_bit b + 1) none)) (role ∙ sym out) same
      (λ l1 l3. adds_fast (good (AtLevel i) l1 l3) t lt lim.tasks lim.processors p lp clear (bit_room (holds_level (w.views t) i)))

  -- a back-off, on the processor on which the task added
  pub backs_off : level_role_of i (w.views t).phase ≡ BackingOff p → level_role_of i view_down.phase ≡ CountsNot →
      holds_level view_down ≡ holds_level (w.views t) → SameElsewhere i (w.views t) view_down →
      (j : ℕ) → Holds c (record { words = words_down; views = update w.views t view_down }) (AtLevel j)
  backs_off was_off role held same =
      levels_down was.held CountsNot (ap (λ f. held_bit (f i)) held) role same
      (λ l1 l3. backs_away (good (AtLevel i) l1 l3) t lt lim.tasks lim.processors p lp was_off)

  -- an end, on any processor
  pub leaves : level_role_of i (w.views t).phase ≡ CountsNot → level_role_of i view_down.phase ≡ CountsNot →
      holds_level (w.views t) i ≡ true → holds_level view_down i ≡ false → SameElsewhere i (w.views t) view_down →
      (j : ℕ) → Holds c (record { words = words_down; views = update w.views t view_down }) (AtLevel j)
  leaves out role held none same =
      levels_down 0 CountsNot (ap held_bit none) role same
      (λ l1 l3. gives_back (good (AtLevel i) l1 l3) t lt lim.tasks lim.processors p lp 0 out (ap held_bit held))
