-- Who is at a level with an access at some mount: nobody has shut what it came through.
use Rattle.gate_schedules.proofs.Prelude.{AtLevel, AtMount, Bool, Config, DownWriteStep, FreezeStep, Freezing, IsGood, LevelRole, MountHoldsIn}
use Rattle.gate_schedules.proofs.Prelude.{Option, Owner, Phase, Some, Stages, World, ap, arith, at_level, at_mount, cases_Bool, cases_lt}
use Rattle.gate_schedules.proofs.Prelude.{freeze_stage_role, held_at, held_of, holds_level, inl, inr, is_frozen_whole, level_role_of, ltb-true}
use Rattle.gate_schedules.proofs.Prelude.{nat_lt, refl, ro_bit, stage_role_of, stage_roles, suc, sym, total, total_at, true, true≢false, zero, ℕ, ◌-◌}
use Rattle.gate_schedules.proofs.Prelude.{◌<◌, ◌==◌, ◌≡◌, ◌≤◌, ◌⊎◌}
use Rattle.std.proofs.lemmas.Bool.{and_parts}
use Rattle.cpu_words.{proofs.gate_counts.LevelLaws.{none_frozen, none_passed}, specs.gate_counts.{Gates.past, Levels.Passed}}
use Rattle.freeze_laws.{proofs.stages.CitedLaws.freeze_is_under_way, specs.stages.Roles.{Place, passed_at, passed_by}}
use Rattle.gate_world.specs.{Operations.{is_writer, some_mount}, Roles.{count_beside, freeze_position, place_of, position_count}}
use Rattle.mount_counts.specs.Roles.{mount_as_gate}
use Rattle.gate_schedules.proofs.frames.Stages.{stages_in, stages_right}

pub mount_there : (n : ℕ) (held : ℕ → ℕ) → some_mount n held ≡ true → (m : ℕ) × (m < n) × (0 < held m)
mount_there zero held h = absurd (true≢false (sym h))
mount_there (suc n) held h =
    elim (cases_Bool (some_mount n held)) [
      | inl e ↦ let p : (m : ℕ) × (m < n) × (0 < held m) = mount_there n held e in (p.0, omega (arith, p.1), p.2)
      | inr e ↦ (n, omega arith, ltb-true 0 (held n) (rw e at h))
    ]

place_passed : (stage : ℕ) (place : Place) (owner : Bool) → stage ≤ suc (passed_by (Freezing stage place owner))
place_passed stage place owner = grind arith

below_there : (i level : ℕ) (r : LevelRole) → 1 ≤ i → i ≤ level - 1 → count_beside (i == level) (nat_lt i level) r ≡ Passed
below_there i level r low le = grind arith

place_below : (level : ℕ) (s : DownWriteStep) → passed_at level (place_of s) ≡ level - 1
place_below level s = grind arith

freeze_there : (i : ℕ) → 1 ≤ i → (nodes : ℕ) (s : FreezeStep) → i ≤ passed_by (freeze_stage_role nodes s) →
    position_count i (freeze_position s) ≡ Passed
freeze_there i low nodes s le = grind (arith, below_there, place_below)

pub passed_there : (i : ℕ) → 1 ≤ i → (p : Option Phase) → i ≤ passed_by (stage_role_of p) → level_role_of i p ≡ Passed
passed_there i low (Some (Phase.Freezes x)) le = freeze_there i low x.nodes x.step le
passed_there i low p le = grind arith

-- What nobody has shut: the superblock is writable and no remount has set `remount`, the stage is below 3, and no task has passed this
-- level.
pub record IsOpen (w : World) (tasks i : ℕ) : Type 0 where
  pub writable : w.words.sb ≡ 0
  pub unset : w.words.remount ≡ 0
  pub unfrozen : w.words.stage < 3
  pub unpassed : (y : ℕ) → y < tasks → passed_by (stage_roles w y) < i

module _ (c : Config) (w : World) (good : IsGood c w) (t : ℕ) (lt : t < c.tasks) where
  -- where something shuts a mount, the task holds no access there
  pub none_past : (m : ℕ) → m < c.mounts → (k : ℕ) →
      total c.tasks (λ x. past k (mount_as_gate (at_mount m (w.views x)))) ≡ 0 → held_at (w.views t) m ≡ 0
  none_past m lm k none =
      omega (arith, none, total_at c.tasks t (λ x. past k (mount_as_gate (at_mount m (w.views x)))) lt)

  -- at a mount of which the task holds an access, the superblock is writable and no remount has set `remount`
  pub mount_open : (m : ℕ) → m < c.mounts → 0 < held_at (w.views t) m → (w.words.sb ≡ 0) × (w.words.remount ≡ 0)
  mount_open m lm some =
      let h : MountHoldsIn c w m = good (AtMount m) lm in
      let not_read_only : w.words.sb ≡ 1 → ⊥ = λ e. omega (arith, some, none_past m lm 3 (h.gate.open_to 3 e)) in
      let writable : w.words.sb ≡ 0 = omega (arith, not_read_only, (good Stages).superblock) in
      let not_marked : ro_bit (w.words.flags m) ≡ 1 → ⊥ = λ e. omega (arith, some, none_past m lm 2 (h.gate.open_to 2 e)) in
      let unmarked : ro_bit (w.words.flags m) ≡ 0 = omega (arith, not_marked) in
      let not_set : w.words.remount ≡ 1 → ⊥ =
      λ e. omega (arith, some, none_past m lm 1 (h.gate.open_to 1 (e, writable, unmarked))) in
      (writable, omega (arith, not_set, (good Owner).bit))

  level_held : (i : ℕ) → holds_level (w.views t) i ≡ true → total c.tasks (λ x. (at_level i (w.views x)).held) ≡ 0 → ⊥
  level_held i inside none =
      let one : (at_level i (w.views t)).held ≡ 1 = rw inside refl in
      omega (arith, one, none, total_at c.tasks t (λ x. (at_level i (w.views x)).held) lt)

  -- nobody has passed a level inside which the task is
  pub level_unpassed : (i : ℕ) → 1 ≤ i → i ≤ 3 → holds_level (w.views t) i ≡ true → (y : ℕ) → y < c.tasks →
      passed_by (stage_roles w y) < i
  level_unpassed i low high inside y ly =
      elim (cases_lt (passed_by (stage_roles w y)) i) [
        | inl l ↦ l
        | inr l ↦
            absurd (level_held i inside (none_passed (good (AtLevel i) low high) y ly (passed_there i low (w.views y).phase l)))
      ]

  pub level_thawed : (i : ℕ) → 1 ≤ i → i ≤ 3 → holds_level (w.views t) i ≡ true → is_frozen_whole w.words ≡ 1 → ⊥
  level_thawed i low high inside whole = level_held i inside (none_frozen (good (AtLevel i) low high) whole)

  stage_three : w.words.stage ≡ 3 → (y : ℕ) × (y < c.tasks) × (2 ≤ passed_by (stage_roles w y))
  stage_three e =
      let f : (y : ℕ) × (y < c.tasks) × (place : Place) × (owner : Bool) × (stage_roles w y ≡ Freezing w.words.stage place owner) =
      freeze_is_under_way c.tasks c.nodes (stages_in w) (stages_right c w good) (omega (arith, e)) (omega (arith, e)) in
      (f.0, f.1, omega (arith, e, ap passed_by f.4, place_passed w.words.stage f.2 f.3))

  -- A task inside level 1 or 2 with an access at some mount: nobody has shut what it came through.
  pub writer_apart : (i : ℕ) → (i ≡ 1) ⊎ (i ≡ 2) → holds_level (w.views t) i ≡ true → some_mount c.mounts (held_at (w.views t)) ≡ true →
      IsOpen w c.tasks i
  writer_apart i which inside some =
      let bounds : (1 ≤ i) × (i ≤ 2) = elim which [
        | inl e ↦ (omega (arith, e), omega (arith, e))
        | inr e ↦ (omega (arith, e), omega (arith, e))
      ] in
      let m : (m : ℕ) × (m < c.mounts) × (0 < held_at (w.views t) m) = mount_there c.mounts (held_at (w.views t)) some in
      let open_there : (w.words.sb ≡ 0) × (w.words.remount ≡ 0) = mount_open m.0 m.1 m.2 in
      let high : i ≤ 3 = omega (arith, bounds.1) in
      let not_four : w.words.stage ≡ 4 → ⊥ = λ e. level_thawed i bounds.0 high inside (rw (e, open_there.0) refl) in
      let not_three : w.words.stage ≡ 3 → ⊥ = λ e.
      let p : (y : ℕ) × (y < c.tasks) × (2 ≤ passed_by (stage_roles w y)) = stage_three e in
      omega (arith, p.2, bounds.1, level_unpassed i bounds.0 high inside p.0 p.1) in
      record {
        writable = open_there.0;
        unset = open_there.1;
        unfrozen = omega (arith, not_three, not_four, (good Stages).stages);
        unpassed = level_unpassed i bounds.0 high inside;
      }

  pub writer_not_frozen : is_writer c (held_of (w.views t)) ≡ true → w.words.stage ≡ 4 → ⊥
  writer_not_frozen writes frozen =
      let both : (holds_level (w.views t) 1 ≡ true) × (some_mount c.mounts (held_at (w.views t)) ≡ true) = and_parts _ _ writes in
      omega (arith, frozen, (writer_apart 1 (inl refl) both.0 both.1).unfrozen)
