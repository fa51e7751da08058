-- One level of a state, as the laws of a level have it: what holds there, and what a step of a task leaves of it.
use Rattle.gate_schedules.proofs.Prelude.{Bool, Config, Holds, IsGood, Option, Phase, SameWords, Sections, SyncAt, SyncLevelHolds, SyncRole, SyncStep}
use Rattle.gate_schedules.proofs.Prelude.{Touch, View, WordName, Words, World, ap, arith, closed, closing, common_steps, eq-eqb, false, if◌then◌else◌}
use Rattle.gate_schedules.proofs.Prelude.{inside, left, left_by, level_in, ne_eqb, put, read, refl, shown, subst, sym, sync_role_if, sync_role_of}
use Rattle.gate_schedules.proofs.Prelude.{total, true, update, update_same, wrap_add, ℕ, ◌&&◌, ◌-◌, ◌<◌, ◌==◌, ◌∙◌, ◌≡◌, ◌≤◌}
use Rattle.finite_sums.proofs.Totals.{total_le}
use Rattle.freeze_laws.{proofs.levels.CitedLaws.{events_keep, fast_finds_open as level_is_open}, specs.levels.Events.TurnsSection}
use Rattle.freeze_laws.specs.levels.{Operations.{put_at, value_at}, Roles.{Fast, Out as IsApart, fast}}
use Rattle.gate_world.specs.Shown.{is_passed}
use Rattle.gate_schedules.proofs.frames.Frames.{left_alone}

pub fast_in_section : (i : ℕ) (p : Option Phase) → fast (sync_role_of i p) ≤ inside p
fast_in_section i p = grind arith

pub closed_below : (i j : ℕ) (p : Option Phase) → 1 ≤ i → i ≤ j → closed (sync_role_of j p) ≤ closed (sync_role_of i p)
closed_below i j p one le = grind (arith, common_steps)

pub sync_on : (i : ℕ) (r : SyncRole) → sync_role_if (i == i) r ≡ r
sync_on i r = rw (eq-eqb i i refl)

pub sync_off : (i j : ℕ) (r : SyncRole) → (i ≡ j → ⊥) → sync_role_if (i == j) r ≡ IsApart
sync_off i j r ne = rw (ne_eqb i j ne)

-- a word that the rcu_sync or the counts of this level read
abbrev pub IsOfLevel : ℕ → WordName → Type 0
IsOfLevel i (WordName.Sync j) = j ≡ i
IsOfLevel i (WordName.Block j) = j ≡ i
IsOfLevel i (WordName.LevelCount j p) = j ≡ i
IsOfLevel i (WordName.Section u) = Unit {0}
IsOfLevel i name = ⊥

-- A step at this level that changes no section word: of its sync word, its `block` or its counts, or a load of a section word.
abbrev pub IsEventAt : ℕ → WordName → Touch → Type 0
IsEventAt i (WordName.Sync j) touch = j ≡ i
IsEventAt i (WordName.Block j) touch = j ≡ i
IsEventAt i (WordName.LevelCount j p) touch = j ≡ i
IsEventAt i (WordName.Section u) Touch.Load = Unit {0}
IsEventAt i name touch = ⊥

pub event_word : (i : ℕ) (name : WordName) (touch : Touch) → IsEventAt i name touch → IsOfLevel i name
event_word i name touch e = grind arith

put_level : (w : World) (i : ℕ) (name : WordName) → IsOfLevel i name → (n : ℕ) →
    put_at (level_in w i) name n ≡ level_in (record { words = put w.words name n; views = w.views }) i
put_level w i name e n = grind arith

-- the level finds in its word what the state has there
pub found_level : (w : World) (i : ℕ) (name : WordName) → IsOfLevel i name →
    value_at (level_in w i) (read w.words name) name ≡ read w.words name
found_level w i name e = grind arith

-- such a step leaves the sections
pub section_kept : (w : Words) (i : ℕ) (name : WordName) (touch : Touch) → IsEventAt i name touch →
    (put w name (left touch (read w name))).section ≡ w.section
section_kept w i name touch e = grind arith

-- and what the rcu_sync of another level reads
other_words : (w : Words) (i j : ℕ) → (j ≡ i → ⊥) → (name : WordName) (touch : Touch) → IsEventAt i name touch →
    SameWords w (put w name (left touch (read w name))) (SyncAt j)
other_words w i j ne name touch e = grind arith

passed_blocked : (c : Config) (w : World) (i : ℕ) → w.words.block i ≡ 0 → is_passed c w i ≡ 0
passed_blocked c w i e = rw e refl

passed_once : (b : Bool) → (if b then 1 else 0) ≤ 1
passed_once true = omega arith
passed_once false = omega arith

module _ (c : Config) (w : World) (good : IsGood c w) where
  pub level_right : (i : ℕ) → 1 ≤ i → i ≤ 3 → SyncLevelHolds c.tasks (level_in w i)
  level_right i one three = record {
    level = good (SyncAt i) one three;
    sections = record { odd = good Sections; fast_inside = λ x lx. fast_in_section i (w.views x).phase };
  }

  pub block_below : (i j : ℕ) → 1 ≤ i → i ≤ j → j ≤ 3 → w.words.block j ≤ w.words.block i
  block_below i j one le three =
      let low = (level_right i one (omega arith)).level.holds.blocked in
      let high = (level_right j (omega arith) three).level.holds.blocked in
      omega (
        arith,
        low,
        high,
        total_le c.tasks (λ x. closed (sync_role_of j (w.views x).phase))
            (λ x. closed (sync_role_of i (w.views x).phase)) (λ x lx. closed_below i j (w.views x).phase one le),
      )

  pub clear_above : (i j : ℕ) → 1 ≤ i → i ≤ j → j ≤ 3 → w.words.block i ≡ 0 → is_passed c w j ≡ 0
  clear_above i j one le three e = passed_blocked c w j (omega (arith, block_below i j one le three, e))

  counts_once : (i : ℕ) → is_passed c w i ≤ 1
  counts_once i = passed_once (w.words.block i == 1 && total c.tasks (λ x. closing i (w.views x).phase) == 0)

  pub not_passed : (i : ℕ) → 1 ≤ i → i ≤ 3 → w.words.block i ≡ 0 → (shown c w).passed < i
  not_passed i one three e = grind (arith, clear_above, counts_once)

  -- a task on the fast path of a level finds it open
  pub fast_finds_open : (i : ℕ) → 1 ≤ i → i ≤ 3 → (t : ℕ) → t < c.tasks → sync_role_of i (w.views t).phase ≡ Fast →
      w.words.block i ≡ 0
  fast_finds_open i one three t lt here = (level_is_open c.tasks (level_in w i) (level_right i one three) t lt here).1

  module _ (t : ℕ) (lt : t < c.tasks) where
    -- the level of the state after a step of this task
    pub level_moves : (ws : Words) (v : View) (i : ℕ) → level_in (record { words = ws; views = update w.views t v }) i ≡
        record (level_in (record { words = ws; views = w.views }) i) {
          inside = update (level_in w i).inside t (inside v.phase);
          at = update (level_in w i).at t (sync_role_of i v.phase);
        }
    level_moves ws v i = grind arith

    -- a step of a level leaves what holds there
    pub level_steps : (ws : Words) (v : View) (i : ℕ) → 1 ≤ i → i ≤ 3 →
        SyncStep c.tasks (level_in w i) (level_in (record { words = ws; views = update w.views t v }) i) →
        SyncLevelHolds c.tasks (level_in (record { words = ws; views = update w.views t v }) i)
    level_steps ws v i one three s = events_keep c.tasks (level_in w i) _ (level_right i one three) s

    -- the words after an addition to the task's own section word
    abbrev pub turned_words : Words
    turned_words = record w.words { section = update w.words.section t (wrap_add (w.words.section t) 1) }

    module _ (v : View) (slow : (i : ℕ) → fast (sync_role_of i (w.views t).phase) ≡ 0)
        (still : (i : ℕ) → sync_role_of i v.phase ≡ sync_role_of i (w.views t).phase)
        (turns : inside v.phase ≡ 1 - inside (w.views t).phase) where
      -- such an addition is a step of each level
      turns_level : (i : ℕ) → SyncStep c.tasks (level_in w i) (level_in (record { words = turned_words; views = update w.views t v }) i)
      turns_level i = record {
        task = t;
        there = lt;
        kind = TurnsSection;
        happens = (
          slow i,
          level_moves turned_words v i ∙
              (λ q. record (level_in (record { words = turned_words; views = w.views }) i) {
                inside = update (level_in w i).inside t (turns q);
                at = (ap (update (level_in w i).at t) (still i) ∙ update_same (level_in w i).at t) q;
              }),
        );
      }

      -- so it leaves the rcu_sync of each level
      pub sync_turned : (i : ℕ) → Holds c (record { words = turned_words; views = update w.views t v }) (SyncAt i)
      sync_turned i one three = (level_steps turned_words v i one three (turns_level i)).level

      pub sections_turned : Holds c (record { words = turned_words; views = update w.views t v }) Sections
      sections_turned = (level_steps turned_words v 1 (omega arith) (omega arith) (turns_level 1)).sections.odd

    -- what a step of a level leaves, where it is one of this task on a word of the level
    pub level_there : (i : ℕ) (name : WordName) (touch : Touch) → IsOfLevel i name → (v : View) → 1 ≤ i → i ≤ 3 →
        SyncStep c.tasks (level_in w i)
        (record (left_by (level_in w i) t (name, touch) (read w.words name) (sync_role_of i v.phase)) {
          inside = update (level_in w i).inside t (inside v.phase);
        }) →
        SyncLevelHolds c.tasks
        (level_in (record { words = put w.words name (left touch (read w.words name)); views = update w.views t v }) i)
    level_there i name touch is v one three s =
        let n : ℕ = left touch (read w.words name) in
        level_steps (put w.words name n) v i one three (subst (SyncStep c.tasks (level_in w i))
        ((λ q. record (put_level w i name is n q) {
          inside = update (level_in w i).inside t (inside v.phase);
          at = update (level_in w i).at t (sync_role_of i v.phase);
        }) ∙ sym (level_moves (put w.words name n) v i)) s)

    module _ (i : ℕ) (name : WordName) (touch : Touch) (is : IsEventAt i name touch) (v : View) where
      -- the state after a step at this level
      abbrev pub touched : World
      touched = record { words = put w.words name (left touch (read w.words name)); views = update w.views t v }

      -- where it is a step of the level, it leaves what holds there
      pub sync_there :
          (1 ≤ i → i ≤ 3 → SyncStep c.tasks (level_in w i)
          (record (left_by (level_in w i) t (name, touch) (read w.words name) (sync_role_of i v.phase)) {
            inside = update (level_in w i).inside t (inside v.phase);
          })) → Holds c touched (SyncAt i)
      sync_there s one three = (level_there i name touch (event_word i name touch is) v one three (s one three)).level

      -- the other levels are left alone
      pub sync_elsewhere : (j : ℕ) → (j ≡ i → ⊥) → sync_role_of j v.phase ≡ sync_role_of j (w.views t).phase →
          Holds c touched (SyncAt j)
      sync_elsewhere j ne same =
          left_alone c w t lt (SyncAt j) touched.words v (other_words w.words i j ne name touch is) same (good (SyncAt j))

      pub sections_stay : inside v.phase ≡ inside (w.views t).phase → Holds c touched Sections
      sections_stay same =
          left_alone c w t lt Sections touched.words v (section_kept w.words i name touch is) same (good Sections)
