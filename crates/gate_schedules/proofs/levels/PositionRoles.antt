-- What who stands at a level has there, below it and above it; which stands say the same; and what a step of such a task leaves.
use Rattle.gate_schedules.proofs.Prelude.{AtLevel, Config, Holds, IsGood, LevelPosition, LevelRole, None, Option, Phase, Sections, Some, SyncAt}
use Rattle.gate_schedules.proofs.Prelude.{SyncStep, Touch, View, WordName, Words, World, ap, arith, at_level, closed_to, eq-eqb, eqb_tells, inl, inr}
use Rattle.gate_schedules.proofs.Prelude.{inside, is_frozen_whole, left, left_by, level_in, level_role_of, position_sync, put, read, refl, subst, suc}
use Rattle.gate_schedules.proofs.Prelude.{sym, update, update_map, update_same, ℕ, ◌<◌, ◌∙◌, ◌≡◌, ◌≤◌}
use Rattle.cpu_words.specs.gate_counts.Levels.{LevelHolds, Out as CountsNot, Passed as CountsPassed}
use Rattle.{freeze_laws.specs.levels.{Events.SyncLevel, Operations.put_at, Roles.{Closed, Out as IsApart}}, freeze_levels.specs.Levels.closing}
use Rattle.gate_world.specs.Roles.{position_count}
use Rattle.gate_schedules.proofs.frames.Frames.{SameLevelCounts, SameLevelWords, left_alone, level_as}
use Rattle.gate_schedules.proofs.levels.LevelPositions.{HasPosition, LevelsHold, closing_position, left_world}
use Rattle.gate_schedules.proofs.levels.Worlds.{IsEventAt, sections_stay, sync_elsewhere, sync_there}

pub count_at : (i : ℕ) (s : LevelPosition) → i ≡ s.level → position_count i (Some s) ≡ s.count
count_at i s e = rw (eq-eqb i s.level e) refl

pub sync_at : (i : ℕ) (s : LevelPosition) → i ≡ s.level → position_sync i (Some s) ≡ s.sync
sync_at i s e = rw (eq-eqb i s.level e) refl

-- with the levels up to this one closed, each of them is passed
pub count_closed : (i n : ℕ) → i ≤ n → position_count i (Some (closed_to n)) ≡ CountsPassed
count_closed i n le = grind arith

-- and its rcu_sync is closed
pub sync_closed : (i n : ℕ) → i ≤ n → position_sync i (Some (closed_to n)) ≡ Closed
sync_closed i n le = grind arith

-- Both say the same of the three levels.
pub record SaySame (s z : Option LevelPosition) : Type 0 where
  pub counts : (i : ℕ) → 1 ≤ i → i ≤ 3 → position_count i z ≡ position_count i s
  pub syncs : (i : ℕ) → 1 ≤ i → i ≤ 3 → position_sync i z ≡ position_sync i s

-- the other way round
pub say_back : (s z : Option LevelPosition) → SaySame s z → SaySame z s
say_back s z h = record { counts = λ i one three. sym (h.counts i one three); syncs = λ i one three. sym (h.syncs i one three) }

-- so a phase that stands as the one says stands as the other does
pub stands_so : (p : Option Phase) (s z : Option LevelPosition) → SaySame s z → HasPosition p s → HasPosition p z
stands_so p s z h is = grind arith

-- Both say the same of each level but this one.
pub record SayBeside (level : ℕ) (s z : Option LevelPosition) : Type 0 where
  pub counts : (i : ℕ) → 1 ≤ i → i ≤ 3 → (i ≡ level → ⊥) → position_count i z ≡ position_count i s
  pub syncs : (i : ℕ) → 1 ≤ i → i ≤ 3 → (i ≡ level → ⊥) → position_sync i z ≡ position_sync i s

-- with the levels up to this one closed, a level more is one whose stand has no role there yet
same_next : (n : ℕ) (z : LevelPosition) → z.level ≡ suc n → z.count ≡ CountsNot → z.sync ≡ IsApart → SaySame (Some (closed_to n)) (Some z)
same_next n z e count sync = grind arith

-- the closing of a level more that begins says no more than that those below it are closed
pub closing_says : (n tasks processors : ℕ) → 1 ≤ n → SaySame (Some (closed_to n)) (Some (closing_position (closing (suc n) tasks processors)))
closing_says n tasks processors some = same_next n (closing_position (closing (suc n) tasks processors)) refl refl refl

-- and the closing of level 1 that begins says nothing
pub closing_says_none : (tasks processors : ℕ) → SaySame None (Some (closing_position (closing 1 tasks processors)))
closing_says_none tasks processors = grind arith

-- the other way round
pub closing_next : (p : Option Phase) (n tasks processors : ℕ) → 1 ≤ n →
    HasPosition p (Some (closing_position (closing (suc n) tasks processors))) → HasPosition p (Some (closed_to n))
closing_next p n tasks processors some = stands_so p _ _ (say_back _ _ (closing_says n tasks processors some))

pub closing_first : (p : Option Phase) (tasks processors : ℕ) → HasPosition p (Some (closing_position (closing 1 tasks processors))) → HasPosition p None
closing_first p tasks processors = stands_so p _ _ (say_back _ _ (closing_says_none tasks processors))

-- a step at a level leaves `block` of the others
pub touched_block : (w : Words) (i j : ℕ) → (j ≡ i → ⊥) → (name : WordName) (touch : Touch) → IsEventAt i name touch →
    (put w name (left touch (read w name))).block j ≡ w.block j
touched_block w i j ne name touch e = grind arith

-- and whether the file system is frozen as a whole
pub touched_whole : (w : Words) (i : ℕ) (name : WordName) (touch : Touch) → IsEventAt i name touch →
    is_frozen_whole (put w name (left touch (read w name))) ≡ is_frozen_whole w
touched_whole w i name touch e = grind arith

pub put_inside : (l : SyncLevel) (name : WordName) (n : ℕ) → (put_at l name n).inside ≡ l.inside
put_inside l name n = grind arith

-- A step of a task that stood so with the levels, stands so after it, and holds and has added at them what it had.
module _ (c : Config) (w : World) (good : IsGood c w) (t : ℕ) (lt : t < c.tasks) (v : View) (s z : Option LevelPosition)
    (was : HasPosition (w.views t).phase s) (now : HasPosition v.phase z) (counts : SameLevelCounts (w.views t) v) where
  seen_counts : (i : ℕ) → 1 ≤ i → i ≤ 3 → (r : LevelRole) → position_count i z ≡ r →
      at_level i v ≡ record (at_level i (w.views t)) { role = r }
  seen_counts i one three r e = grind arith

  -- a level's counts where neither what they read of the words nor its role there changes
  pub counts_left : (ws : Words) (i : ℕ) → ws.block i ≡ w.words.block i → ws.level i ≡ w.words.level i →
      is_frozen_whole ws ≡ is_frozen_whole w.words → (1 ≤ i → i ≤ 3 → position_count i z ≡ position_count i s) →
      Holds c (left_world w t ws v) (AtLevel i)
  counts_left ws i eb ec ef same one three =
      left_alone c w t lt (AtLevel i) ws v (eb, ec, ef)
      (seen_counts i one three (level_role_of i (w.views t).phase) (same one three ∙ sym (was.counts i one three))) (good (AtLevel i)) one
      three

  -- and where the task takes this role there
  pub counts_become : (ws : Words) (i : ℕ) (block' full' : ℕ) (r : LevelRole) → ws.block i ≡ block' → is_frozen_whole ws ≡ full' →
      ws.level i ≡ w.words.level i → (1 ≤ i → i ≤ 3 → position_count i z ≡ r) →
      (1 ≤ i → i ≤ 3 → LevelHolds c.tasks c.processors block' full' (w.words.level i)
      (update (λ x. at_level i (w.views x)) t (record (at_level i (w.views t)) { role = r }))) →
      Holds c (left_world w t ws v) (AtLevel i)
  counts_become ws i block' full' r eb ef ec e h one three =
      level_as eb ef ec
      (update_map (at_level i) w.views t v ∙ ap (update (λ x. at_level i (w.views x)) t) (seen_counts i one three r (e one three)))
      (h one three)

  -- a level's rcu_sync where neither what it reads of the words nor its role there changes
  pub sync_left : (ws : Words) (i : ℕ) → ws.sync i ≡ w.words.sync i → ws.block i ≡ w.words.block i → ws.section ≡ w.words.section →
      is_frozen_whole ws ≡ is_frozen_whole w.words → (1 ≤ i → i ≤ 3 → position_sync i z ≡ position_sync i s) →
      Holds c (left_world w t ws v) (SyncAt i)
  sync_left ws i en eb es ef same one three =
      left_alone c w t lt (SyncAt i) ws v (en, eb, es, ef)
      (now.syncs i one three ∙ (same one three ∙ sym (was.syncs i one three))) (good (SyncAt i)) one three

  -- it is inside no section, before and after it
  pub sections_left : (ws : Words) → ws.section ≡ w.words.section → Holds c (left_world w t ws v) Sections
  sections_left ws es = left_alone c w t lt Sections ws v es (now.outside ∙ sym was.outside) (good Sections)

  -- a step of one level's words that leaves its counts, and what the task says of the other levels
  module _ (i : ℕ) (name : WordName) (touch : Touch) (is : IsEventAt i name touch)
      (counted : (put w.words name (left touch (read w.words name))).level ≡ w.words.level) (beside : SayBeside i s z) where
    -- the words after it
    abbrev touched : Words
    touched = put w.words name (left touch (read w.words name))

    -- the level after it: its task has this role
    there_as : (1 ≤ i → i ≤ 3 → SyncStep c.tasks (level_in w i)
        (left_by (level_in w i) t (name, touch) (read w.words name) (position_sync i z))) → Holds c (left_world w t touched v) (SyncAt i)
    there_as step =
        sync_there c w good t lt i name touch is v
        (λ one three.
        let out : (put_at (level_in w i) name (left touch (read w.words name))).inside ≡ update (level_in w i).inside t (inside v.phase) =
        put_inside (level_in w i) name (left touch (read w.words name)) ∙
        (sym (update_same (level_in w i).inside t) ∙ ap (update (level_in w i).inside t) (was.outside ∙ sym now.outside)) in
        subst (SyncStep c.tasks (level_in w i))
        (λ q. record (left_by (level_in w i) t (name, touch) (read w.words name) (sym (now.syncs i one three) q)) { inside = out q })
        (step one three))

    -- so the levels hold, where its counts do and it is a step of its rcu_sync
    pub levels_move : Holds c (left_world w t touched v) (AtLevel i) → (1 ≤ i → i ≤ 3 → SyncStep c.tasks (level_in w i)
        (left_by (level_in w i) t (name, touch) (read w.words name) (position_sync i z))) → LevelsHold c (left_world w t touched v)
    levels_move here step = (
      λ j. elim (eqb_tells j i) [
        | inl q ↦ subst (λ k. Holds c (left_world w t touched v) (AtLevel k)) (sym q.1) here
        | inr q ↦ counts_left touched j (touched_block w.words i j q.1 name touch is) (ap (λ f. f j) counted)
            (touched_whole w.words i name touch is) (λ one three. beside.counts j one three q.1)
      ],
      λ j. elim (eqb_tells j i) [
        | inl q ↦ subst (λ k. Holds c (left_world w t touched v) (SyncAt k)) (sym q.1) (there_as step)
        | inr q ↦ λ one three. sync_elsewhere c w good t lt i name touch is v j q.1
            (now.syncs j one three ∙ (beside.syncs j one three q.1 ∙ sym (was.syncs j one three))) one three
      ],
      sections_stay c w good t lt i name touch is v (now.outside ∙ sym was.outside),
    )

-- a step that leaves what the levels read of the words, and how its task stands with them, leaves the levels
pub levels_stay : (c : Config) (w : World) → IsGood c w → (t : ℕ) → t < c.tasks → (ws : Words) (v : View) (s : Option LevelPosition) →
    SameLevelWords w.words ws → SameLevelCounts (w.views t) v → HasPosition (w.views t).phase s → HasPosition v.phase s →
    LevelsHold c (left_world w t ws v)
levels_stay c w good t lt ws v s words counts was now = (
  λ i. counts_left c w good t lt v s s was now counts ws i (ap (λ f. f i) words.block_same) (ap (λ f. f i) words.level_same)
      words.whole_same (λ one three. refl),
  λ i. sync_left c w good t lt v s s was now counts ws i (ap (λ f. f i) words.sync_same) (ap (λ f. f i) words.block_same)
      words.section_same words.whole_same (λ one three. refl),
  sections_left c w good t lt v s s was now counts ws words.section_same,
)
