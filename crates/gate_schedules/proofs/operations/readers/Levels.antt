-- Steps of a down-read leave the rcu_sync of each level, and the sections.
use Rattle.gate_schedules.proofs.Prelude.{Bool, Config, DownRead, DownReadStep, DownReads, Holds, HookAnswer, IsGood, Next, Sections, Some, SyncAt}
use Rattle.gate_schedules.proofs.Prelude.{SyncLevelHolds, SyncStep, Touch, View, WordName, World, after_step, ap, arith, down_read_after}
use Rattle.gate_schedules.proofs.Prelude.{down_read_next, eqb_tells, false, found_by, inl, inr, inside, left_by, level_in, map_next, phase_after}
use Rattle.gate_schedules.proofs.Prelude.{read, refl, subst, sym, sync_role_if, sync_role_of, true, update, view_after, ℕ, ◌-◌, ◌<◌, ◌==◌, ◌∙◌, ◌≡◌}
use Rattle.gate_schedules.proofs.Prelude.{◌≤◌}
use Rattle.freeze_laws.proofs.levels.ReadOperations.{down_reads_are_there}
use Rattle.freeze_laws.specs.levels.{Operations.{HoldsOfNext, by_next, down_read_inside, down_read_role}, Roles.{Out as IsApart, fast}}
use Rattle.percpu_rwsem.specs.Readers.{at_down_read, left_blocked}
use Rattle.percpu_rwsem.specs.declared.readers.DownReadStep.TheVariants.{CountsDown, CountsUpFast, CountsUpSlow, EntersSection, LeavesAdmitted}
use Rattle.percpu_rwsem.specs.declared.readers.DownReadStep.TheVariants.{LeavesBlocked, LoadsBlock, LoadsSync}
use Rattle.gate_schedules.proofs.levels.Worlds.{IsEventAt, IsOfLevel, found_level, level_there, sections_turned, sync_elsewhere, sync_off, sync_on}
use Rattle.gate_schedules.proofs.levels.Worlds.{sync_turned, turned_words}

-- what the invariant says of the rcu_sync of each level, and of the sections
abbrev pub LevelsHold : Config → World → Type 0
LevelsHold c w = ((i : ℕ) → Holds c w (SyncAt i)) × Holds c w Sections

-- a role of none is none at whichever level
pub apart_if : (b : Bool) → sync_role_if b IsApart ≡ IsApart
apart_if true = refl
apart_if false = refl

-- a down-read stays at its level
pub keeps_level : (r : DownRead) (s : DownReadStep) (found : ℕ) →
    HoldsOfNext (λ (x : DownRead). x.level ≡ r.level) (down_read_after r s found).0
keeps_level r s found = grind arith

-- at its level, the role of what comes after a step is the one of its program point
role_next : (i : ℕ) (n : Next DownRead) → HoldsOfNext (λ (x : DownRead). x.level ≡ i) n →
    by_next (λ (x : DownRead). down_read_role x.step) IsApart n ≡ sync_role_of i (phase_after (map_next DownReads n))
role_next i n h = grind arith

-- at another level there is none
pub role_elsewhere : (i j : ℕ) → (j ≡ i → ⊥) → (n : Next DownRead) → HoldsOfNext (λ (x : DownRead). x.level ≡ i) n →
    sync_role_of j (phase_after (map_next DownReads n)) ≡ IsApart
role_elsewhere i j ne n h = grind arith

-- and whether it is inside a section is what its step says
pub inside_next : (n : Next DownRead) →
    by_next (λ (x : DownRead). down_read_inside x.step) 0 n ≡ inside (phase_after (map_next DownReads n))
inside_next n = grind arith

-- each step of a down-read is of a word of its level
pub word_of_level : (r : DownRead) (s : DownReadStep) → IsOfLevel r.level (down_read_next r s).0
word_of_level r s = grind arith

-- a blocked down-read is apart from every rcu_sync
pub blocked_apart : (r : DownRead) (b : Bool) (i : ℕ) → sync_role_of i (phase_after (map_next DownReads (left_blocked r b))) ≡ IsApart
blocked_apart r true i = apart_if (i == r.level)
blocked_apart r false i = refl

-- and outside its section
pub blocked_outside : (r : DownRead) (b : Bool) → inside (phase_after (map_next DownReads (left_blocked r b))) ≡ 0
blocked_outside r true = refl
blocked_outside r false = refl

module _ (c : Config) (w : World) (good : IsGood c w) (hook : HookAnswer) (r : DownRead) (lt : r.task < c.tasks) (one : 1 ≤ r.level)
    (three : r.level ≤ 3) (s : DownReadStep) (e : (w.views r.task).phase ≡ Some (DownReads (at_down_read r s))) where
  -- the state after its step
  abbrev pub after_event : World
  after_event = after_step w r.task (DownReads (at_down_read r s)) hook

  -- and its view there
  abbrev pub seen_after : View
  seen_after = view_after (w.views r.task) (DownReads (at_down_read r s)) (read w.words (down_read_next r s).0) hook

  -- its role before the step
  role_now : sync_role_of r.level (w.views r.task).phase ≡ down_read_role s
  role_now = ap (sync_role_of r.level) e ∙ sync_on r.level (down_read_role s)

  -- the step is one of its level
  pub steps_there : SyncStep c.tasks (level_in w r.level)
      (record (left_by (level_in w r.level) r.task (down_read_next r s) (read w.words (down_read_next r s).0)
      (sync_role_of r.level seen_after.phase)) { inside = update (level_in w r.level).inside r.task (inside seen_after.phase) })
  steps_there =
      let name : WordName = (down_read_next r s).0 in
      let touch : Touch = (down_read_next r s).1 in
      let coming : ℕ → Next DownRead = λ value. (down_read_after r s (found_by touch value)).0 in
      let n : Next DownRead = coming (read w.words name) in
      let there = down_reads_are_there c.tasks (read w.words name) (level_in w r.level) (at_down_read r s) lt role_now (ap inside e) in
      let found = subst (λ value. SyncStep c.tasks (level_in w r.level)
      (record (left_by (level_in w r.level) r.task (name, touch) value (by_next (λ (x : DownRead). down_read_role x.step) IsApart
      (coming value))) {
        inside = update (level_in w r.level).inside r.task (by_next (λ (x : DownRead). down_read_inside x.step) 0 (coming value));
      })) (found_level w r.level name (word_of_level r s)) there in
      subst (λ k. SyncStep c.tasks (level_in w r.level)
      (record (left_by (level_in w r.level) r.task (name, touch) (read w.words name) k) {
        inside = update (level_in w r.level).inside r.task (inside seen_after.phase);
      })) (role_next r.level n (keeps_level r s (found_by touch (read w.words name))))
      (subst (λ k. SyncStep c.tasks (level_in w r.level)
      (record (left_by (level_in w r.level) r.task (name, touch) (read w.words name)
      (by_next (λ (x : DownRead). down_read_role x.step) IsApart n)) { inside = update (level_in w r.level).inside r.task k }))
      (inside_next n) found)

  -- so it leaves what holds at its level
  own_level : SyncLevelHolds c.tasks (level_in after_event r.level)
  own_level =
      level_there c w good r.task lt r.level (down_read_next r s).0 (down_read_next r s).1 (word_of_level r s) seen_after one three
      steps_there

  -- a step that changes no section word leaves the other levels
  unturned : IsEventAt r.level (down_read_next r s).0 (down_read_next r s).1 → LevelsHold c after_event
  unturned is = (
    λ i. elim (eqb_tells i r.level) [
      | inl q ↦ subst (λ k. Holds c after_event (SyncAt k)) (sym q.1) (λ a b. own_level.level)
      | inr q ↦
          sync_elsewhere c w good r.task lt r.level (down_read_next r s).0 (down_read_next r s).1 is seen_after i q.1
          (role_elsewhere r.level i q.1 _ (keeps_level r s (found_by (down_read_next r s).1 (read w.words (down_read_next r s).0))) ∙
          sym (ap (sync_role_of i) e ∙ sync_off i r.level (down_read_role s) q.1))
    ],
    own_level.sections.odd,
  )

  -- an addition to its section word is a step of each level
  turned : (v : View) → down_read_role s ≡ IsApart → ((i : ℕ) → sync_role_of i v.phase ≡ IsApart) →
      inside v.phase ≡ 1 - down_read_inside s →
      LevelsHold c (record { words = turned_words c w good r.task lt; views = update w.views r.task v })
  turned v apart off turns =
      let now : (i : ℕ) → sync_role_of i (w.views r.task).phase ≡ IsApart =
      λ i. ap (sync_role_of i) e ∙ (ap (sync_role_if (i == r.level)) apart ∙ apart_if (i == r.level)) in
      let slow : (i : ℕ) → fast (sync_role_of i (w.views r.task).phase) ≡ 0 = λ i. ap fast (now i) in
      let still : (i : ℕ) → sync_role_of i v.phase ≡ sync_role_of i (w.views r.task).phase = λ i. off i ∙ sym (now i) in
      let flips : inside v.phase ≡ 1 - inside (w.views r.task).phase = turns ∙ sym (ap (λ p. 1 - inside p) e) in
      (sync_turned c w good r.task lt v slow still flips, sections_turned c w good r.task lt v slow still flips)

-- by cases on its step
read_levels_at : (c : Config) (w : World) → IsGood c w → (hook : HookAnswer) (r : DownRead) → r.task < c.tasks → 1 ≤ r.level → r.level ≤ 3 →
    (s : DownReadStep) → (w.views r.task).phase ≡ Some (DownReads (at_down_read r s)) →
    LevelsHold c (after_step w r.task (DownReads (at_down_read r s)) hook)
read_levels_at c w good hook r lt one three EntersSection e =
    turned c w good hook r lt one three EntersSection e (seen_after c w good hook r lt one three EntersSection e) refl
    (λ i. apart_if (i == r.level)) refl
read_levels_at c w good hook r lt one three LoadsSync e = unturned c w good hook r lt one three LoadsSync e refl
read_levels_at c w good hook r lt one three CountsUpFast e = unturned c w good hook r lt one three CountsUpFast e refl
read_levels_at c w good hook r lt one three CountsUpSlow e = unturned c w good hook r lt one three CountsUpSlow e refl
read_levels_at c w good hook r lt one three LoadsBlock e = unturned c w good hook r lt one three LoadsBlock e refl
read_levels_at c w good hook r lt one three CountsDown e = unturned c w good hook r lt one three CountsDown e refl
read_levels_at c w good hook r lt one three LeavesAdmitted e =
    turned c w good hook r lt one three LeavesAdmitted e (seen_after c w good hook r lt one three LeavesAdmitted e) refl (λ i. refl) refl
read_levels_at c w good hook r lt one three LeavesBlocked e =
    turned c w good hook r lt one three LeavesBlocked e (seen_after c w good hook r lt one three LeavesBlocked e) refl
    (blocked_apart r r.wait) (blocked_outside r r.wait)

-- each step of a down-read leaves what the invariant says of the rcu_sync of each level and of the sections
pub read_levels : (c : Config) (w : World) → IsGood c w → (t : ℕ) → t < c.tasks → (hook : HookAnswer) (r : DownRead) → r.task ≡ t →
    1 ≤ r.level → r.level ≤ 3 → (w.views t).phase ≡ Some (DownReads r) → LevelsHold c (after_step w t (DownReads r) hook)
read_levels c w good t lt hook r own one three e =
    subst (λ x. x < c.tasks → (w.views x).phase ≡ Some (DownReads r) → LevelsHold c (after_step w x (DownReads r) hook)) own
    (λ lx ex. read_levels_at c w good hook r lx one three r.step ex) lt e
