-- What every owner of `umount` may rely on, and its steps: under the lock, on the word `umount`, and on a mount's flags.
use Rattle.gate_schedules.proofs.Prelude.{AtMount, Bool, Config, GatesHold, Holdings, IsGood, IsSteady, Option, Owner, OwnerHolds, Phase, View}
use Rattle.gate_schedules.proofs.Prelude.{ViewFits, Words, World, added_by, ap, arith, at_mount, closing, each_updated, eqb_tells, has_hold, held_of}
use Rattle.gate_schedules.proofs.Prelude.{inl, inr, owns, refl, remounts, ro_bit, role_of, shown, suc, taken_by, total, total_at, total_none}
use Rattle.gate_schedules.proofs.Prelude.{total_updated, update, update_at, update_map, update_off, update_same, ℕ, ◌+◌, ◌-◌, ◌<◌, ◌==◌, ◌∙◌, ◌≡◌}
use Rattle.gate_schedules.proofs.Prelude.{◌≤◌}
use Rattle.{finite_sums.proofs.Totals.{HasPlace, total_place}, gate_world.specs.refusals.Waits.{HasCulprit, IsWaitedFor}}
use Rattle.mount_counts.specs.Roles.{Role, hold_bit, skips}
use Rattle.gate_schedules.proofs.frames.Frames.{MountHoldsAfter, gates_after, holds_as, owner_same, shown_held, shown_still, view_as}

pub owns_le : (p : Option Phase) → owns p ≤ 1
owns_le p = grind arith

-- only the owner of `umount` has a hold flag set, or counts on a mount's staying read-only
pub hold_owns : (m : ℕ) (p : Option Phase) → has_hold (role_of m p) + skips (role_of m p) ≤ owns p
hold_owns m p = grind arith

pub remounts_owns : (p : Option Phase) → remounts p ≤ owns p
remounts_owns p = grind arith

module _ (c : Config) (w : World) (good : IsGood c w) (t : ℕ) (lt : t < c.tasks) where
  pub alone : (x : ℕ) → x < c.tasks → (x ≡ t → ⊥) → owns (w.views t).phase ≡ 1 → owns (w.views x).phase ≡ 0
  alone x lx ne o =
      let both : owns (w.views x).phase ≡ 1 → ⊥ = λ q.
      let a : w.words.umount ≡ suc x = (good Owner).locked x lx q in
      let b : w.words.umount ≡ suc t = (good Owner).locked t lt o in
      ne (omega arith) in
      omega (arith, both, owns_le (w.views x).phase)

  pub no_remount : owns (w.views t).phase ≡ 1 → remounts (w.views t).phase ≡ 0 → w.words.remount ≡ 1 → ⊥
  no_remount o z q =
      let none : total c.tasks (λ x. remounts (w.views x).phase) ≡ 0 = total_none c.tasks (λ x. remounts (w.views x).phase) (λ x lx.
      elim (eqb_tells x t) [
        | inl h ↦ ap (λ y. remounts (w.views y).phase) h.1 ∙ z
        | inr h ↦ omega (arith, alone x lx h.1 o, remounts_owns (w.views x).phase)
      ]) in
      omega (arith, (good Owner).remounting, q, none)

  -- an owner that hasn't HOLD set at a mount finds it clear there
  pub no_hold : (m : ℕ) → m < c.mounts → owns (w.views t).phase ≡ 1 → has_hold (role_of m (w.views t).phase) ≡ 0 →
      hold_bit (w.words.flags m) ≡ 0
  no_hold m lm o z =
      let none : total c.tasks (λ x. has_hold (role_of m (w.views x).phase)) ≡ 0 =
      total_none c.tasks (λ x. has_hold (role_of m (w.views x).phase)) (λ x lx.
      elim (eqb_tells x t) [
        | inl h ↦ ap (λ y. has_hold (role_of m (w.views y).phase)) h.1 ∙ z
        | inr h ↦ omega (arith, alone x lx h.1 o, hold_owns m (w.views x).phase)
      ]) in
      omega (arith, none, (good (AtMount m) lm).gate.flag)

  -- nobody else counts on a mount's staying read-only
  pub no_skip : (m x : ℕ) → x < c.tasks → (x ≡ t → ⊥) → owns (w.views t).phase ≡ 1 → skips (role_of m (w.views x).phase) ≡ 1 → ⊥
  no_skip m x lx ne o s = omega (arith, s, alone x lx ne o, hold_owns m (w.views x).phase)

  -- where HOLD is set at a mount, another task has it set, if this one has not
  pub who_holds : (m : ℕ) → m < c.mounts → hold_bit (w.words.flags m) ≡ 1 → has_hold (role_of m (w.views t).phase) ≡ 0 →
      (y : ℕ) × (y < c.tasks) × (y ≡ t → ⊥) × (has_hold (role_of m (w.views y).phase) ≡ 1)
  who_holds m lm set mine =
      let place : HasPlace c.tasks (λ x. has_hold (role_of m (w.views x).phase)) =
      total_place c.tasks (λ x. has_hold (role_of m (w.views x).phase))
      (λ none. omega (arith, none, set, (good (AtMount m) lm).gate.flag)) in (
        place.0,
        place.1,
        λ same. place.2 (ap (λ y. has_hold (role_of m (w.views y).phase)) same ∙ mine),
        omega (arith, place.2, hold_owns m (w.views place.0).phase, owns_le (w.views place.0).phase),
      )

  -- where `umount` is taken, another task has it, if this one has not; so a phase that waits for who has it has a blocker
  pub umount_taken : (phase : Phase) → ((y : ℕ) → owns (w.views y).phase ≡ 1 → IsWaitedFor w phase y) → (w.words.umount ≡ 0 → ⊥) →
      owns (w.views t).phase ≡ 0 → HasCulprit c w t phase
  umount_taken phase waits taken mine =
      let y : ℕ = w.words.umount - 1 in
      let is : w.words.umount ≡ suc y = omega (arith, taken) in
      let ly : y < c.tasks = omega (arith, is, (good Owner).known) in
      let own : owns (w.views y).phase ≡ 1 = (good Owner).owned y ly is in
      record { task = y; there = ly; other = λ same. omega (arith, own, mine, ap (λ x. owns (w.views x).phase) same); stands = waits y own }

  -- the sum of who has `remount` set, where this task has as before
  remounts_same : (v : View) → remounts v.phase ≡ remounts (w.views t).phase →
      w.words.remount ≡ total c.tasks (λ x. remounts (update w.views t v x).phase)
  remounts_same v same =
      omega (arith, (good Owner).remounting, same, total_updated (λ (u : View). remounts u.phase) c.tasks t w.views v lt)

  -- the lock: `umount` was free, and has the task's number
  pub locks_umount : (n : ℕ) (v : View) → w.words.umount ≡ 0 → n ≡ suc t → owns v.phase ≡ 1 →
      remounts v.phase ≡ remounts (w.views t).phase →
      OwnerHolds c.tasks n w.words.remount (λ x. (update w.views t v x).phase)
  locks_umount n v free mine own same = record {
    locked = λ x lx.
        each_updated (λ y (u : View). y < c.tasks → owns u.phase ≡ 1 → n ≡ suc y) w.views t v x
        (λ l q. mine) (λ ne l q. absurd (omega (arith, free, (good Owner).locked x l q))) lx;
    owned = λ x lx.
        each_updated (λ y (u : View). y < c.tasks → n ≡ suc y → owns u.phase ≡ 1) w.views t v x
        (λ l q. own) (λ ne l q. absurd (ne (omega (arith, mine, q)))) lx;
    known = omega (arith, lt, mine);
    bit = (good Owner).bit;
    remounting = remounts_same v same;
  }

  -- the release: it was the task's own, and is free
  pub releases_umount : (v : View) → owns (w.views t).phase ≡ 1 → owns v.phase ≡ 0 →
      remounts v.phase ≡ remounts (w.views t).phase →
      OwnerHolds c.tasks 0 w.words.remount (λ x. (update w.views t v x).phase)
  releases_umount v own none same =
      let mine : w.words.umount ≡ suc t = (good Owner).locked t lt own in
      record {
        locked = λ x lx.
            each_updated (λ y (u : View). y < c.tasks → owns u.phase ≡ 1 → 0 ≡ suc y) w.views t v x
            (λ l q. absurd (omega (arith, q, none))) (λ ne l q. absurd (ne (omega (arith, mine, (good Owner).locked x l q)))) lx;
        owned = λ x lx.
            each_updated (λ y (u : View). y < c.tasks → 0 ≡ suc y → owns u.phase ≡ 1) w.views t v x
            (λ l q. absurd (omega arith)) (λ ne l q. absurd (omega arith)) lx;
        known = omega arith;
        bit = (good Owner).bit;
        remounting = remounts_same v same;
      }

  -- nobody but the owner has `remount` set
  only_remount : owns (w.views t).phase ≡ 1 → total c.tasks (λ x. remounts (w.views x).phase) ≡ remounts (w.views t).phase
  only_remount o =
      elim (eqb_tells (remounts (w.views t).phase) 0) [
        | inl z ↦ omega (arith, z.1, (good Owner).bit, (good Owner).remounting, no_remount o z.1)
        | inr z ↦ omega (
          arith,
          z.1,
          (good Owner).bit,
          (good Owner).remounting,
          total_at c.tasks t (λ x. remounts (w.views x).phase) lt,
        )
      ]

  pub remount_stands : remounts (w.views t).phase ≡ 1 → w.words.remount ≡ 1
  remount_stands h =
      omega (arith, h, total_at c.tasks t (λ x. remounts (w.views x).phase) lt, (good Owner).remounting, (good Owner).bit)

  -- the owner stores `remount`, which stands after it as its phase says
  pub remount_stored : (set : ℕ) (v : View) → owns (w.views t).phase ≡ 1 → owns v.phase ≡ 1 → remounts v.phase ≡ set →
      OwnerHolds c.tasks w.words.umount set (λ x. (update w.views t v x).phase)
  remount_stored set v o o' is = record {
    locked = λ x lx.
        each_updated (λ y (u : View). y < c.tasks → owns u.phase ≡ 1 → w.words.umount ≡ suc y) w.views t v x
        (λ l q. (good Owner).locked t l o) (λ ne. (good Owner).locked x) lx;
    owned = λ x lx.
        each_updated (λ y (u : View). y < c.tasks → w.words.umount ≡ suc y → owns u.phase ≡ 1) w.views t v x
        (λ l q. o') (λ ne. (good Owner).owned x) lx;
    known = (good Owner).known;
    bit = omega (arith, is, remounts_owns v.phase, owns_le v.phase);
    remounting = omega (arith, is, total_updated (λ (u : View). remounts u.phase) c.tasks t w.views v lt, only_remount o);
  }

  -- a step that leaves all words but `umount`, and the task's role at each mount
  pub umount_law : (n : ℕ) (v : View) → OwnerHolds c.tasks n w.words.remount (λ x. (update w.views t v x).phase) → ViewFits c t v →
      held_of v ≡ held_of (w.views t) → added_by v.events ≡ added_by (w.views t).events → taken_by v.events ≡ taken_by (w.views t).events →
      ((y : ℕ) → role_of y v.phase ≡ role_of y (w.views t).phase) → ((i : ℕ) → closing i v.phase ≡ closing i (w.views t).phase) →
      let next_world : World = record { words = record w.words { umount = n }; views = update w.views t v } in
      GatesHold c next_world × (shown c next_world ≡ shown c w)
  umount_law n v owner fits held added taken role close =
      let ws : Words = record w.words { umount = n } in
      let same : (y : ℕ) → at_mount y v ≡ at_mount y (w.views t) =
      λ y. view_as (ap (λ (h : Holdings). h.mounts y) held) (ap (λ g. g y) added) (ap (λ g. g y) taken) (role y) in (
        gates_after c w t lt good 0 ws v refl refl owner fits (λ y ne. (refl, refl, same y))
            (λ lm. holds_as refl refl refl refl
            (ap (update (λ x. at_mount 0 (w.views x)) t) (same 0) ∙ update_same (λ x. at_mount 0 (w.views x)) t) (good (AtMount 0) lm)),
        shown_still c w t lt ws v refl refl refl refl refl refl refl close held,
      )

  pub flag_law : (m f : ℕ) (v : View) (r : Role) → m < c.mounts → IsSteady (w.views t).phase v.phase → ViewFits c t v →
      held_of v ≡ held_of (w.views t) → added_by v.events ≡ added_by (w.views t).events → taken_by v.events ≡ taken_by (w.views t).events →
      ((y : ℕ) → (y ≡ m → ⊥) → role_of y v.phase ≡ role_of y (w.views t).phase) → role_of m v.phase ≡ r →
      MountHoldsAfter c w t m f (w.words.count m) (record (at_mount m (w.views t)) { role = r }) →
      GatesHold c (record { words = record w.words { flags = update w.words.flags m f }; views = update w.views t v })
  flag_law m f v r lm same fits held added taken off role own =
      let at : (y : ℕ) (q : Role) → role_of y v.phase ≡ q → at_mount y v ≡ record (at_mount y (w.views t)) { role = q } =
      λ y q is. view_as (ap (λ (h : Holdings). h.mounts y) held) (ap (λ g. g y) added) (ap (λ g. g y) taken) is in
      gates_after c w t lt good m (record w.words { flags = update w.words.flags m f }) v refl refl (owner_same c w t lt good v same) fits
      (λ y ne. (update_off w.words.flags m f y ne, refl, at y (role_of y (w.views t).phase) (off y ne)))
      (λ l. holds_as (update_at w.words.flags m f) refl refl refl (ap (update (λ x. at_mount m (w.views x)) t) (at m r role)) own)

module _ (c : Config) (w : World) (t : ℕ) (lt : t < c.tasks) (m f : ℕ) (v : View) where
  -- the state after a step on the flags of a mount
  abbrev pub flags_after : World
  flags_after = record { words = record w.words { flags = update w.words.flags m f }; views = update w.views t v }

  -- the shown state then, where READONLY is so and the task has the same accesses
  pub flags_shown : (b : Bool) → IsSteady (w.views t).phase v.phase → (ro_bit f == 1) ≡ b →
      held_of v ≡ held_of (w.views t) → shown c flags_after ≡ record (shown c w) { mount_ro = update (λ n. ro_bit (w.words.flags n) == 1) m b }
  flags_shown b same h eh =
      let ro : (λ n. ro_bit (update w.words.flags m f n) == 1) ≡ update (λ n. ro_bit (w.words.flags n) == 1) m b =
      update_map (λ x. ro_bit x == 1) w.words.flags m f ∙ ap (update (λ n. ro_bit (w.words.flags n) == 1) m) h in
      shown_held c w t lt (record w.words { flags = update w.words.flags m f }) v refl same.closing_same eh ∙
      (λ j. record (shown c w) { mount_ro = ro j })

  -- where READONLY stays
  pub flags_show_same : IsSteady (w.views t).phase v.phase → ro_bit f ≡ ro_bit (w.words.flags m) →
      held_of v ≡ held_of (w.views t) → shown c flags_after ≡ shown c w
  flags_show_same same h eh =
      flags_shown (ro_bit (w.words.flags m) == 1) same (ap (λ x. x == 1) h) eh ∙
      (λ j. record (shown c w) { mount_ro = update_same (λ n. ro_bit (w.words.flags n) == 1) m j })
