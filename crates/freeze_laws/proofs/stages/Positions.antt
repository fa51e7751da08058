-- What follows at one moment: one owner, one position, and what the blocks and the levels passed are then.
use Rattle.std.proofs.{Common.{ap, arith, inl, inr, subst, sym, ℕ, ◌%◌, ◌*◌, ◌+◌, ◌-◌, ◌/◌, ◌<◌, ◌∙◌, ◌≡◌, ◌≤◌}, lemmas.Bool.Decides.eqb_tells}
use Rattle.finite_sums.{proofs.Totals.{HasPlace, total_add, total_at, total_le, total_none, total_place, total_same}, specs.Sums.total}
use Rattle.freeze_laws.proofs.stages.Facts.{closes_le, full_is, full_levels, no_levels, nonzero, other_zero, owner_only, parts, passed_test}
use Rattle.freeze_laws.proofs.stages.Facts.{passed_three, reopens_at, some_position, stage_bound, three, total_alone, way_is}
use Rattle.freeze_laws.specs.stages.Roles.{StageRole, StagesHold, closes, freezes, has_position, is_full, owns, passed_by, passes, remounts, reopens}
use Rattle.freeze_laws.specs.stages.{Roles.{sums, under_way, up_to}, Shown.{is_passed, passed_shown}}

module _ (tasks stage sb remount : ℕ) (block : ℕ → ℕ) (at : ℕ → StageRole) (good : StagesHold tasks stage sb remount block at) where
  -- the stage as arithmetic: whether it is 1 to 3, and whether the file system is frozen as a whole
  pub way : (under_way stage ≡ (stage % 4 + 3) / 4) × (is_full stage sb ≡ stage / 4 - sb)
  way = (way_is stage good.stages, full_is stage sb good.stages good.superblock)

  pub other_owns : (t : ℕ) → t < tasks → owns (at t) ≡ 1 → (u : ℕ) → u < tasks → (u ≡ t → ⊥) → owns (at u) ≡ 0
  other_owns t lt o = other_zero tasks t (λ y. owns (at y)) good.alone lt o

  pub remount_own : (t : ℕ) → t < tasks → owns (at t) ≡ 1 → remount ≡ remounts (at t)
  remount_own t lt o =
      good.remounting ∙
      total_alone tasks t (λ y. remounts (at y)) lt (λ u lu ne. omega (arith, owner_only (at u), other_owns t lt o u lu ne))

  reopening : (stage * total tasks (λ t. reopens (at t)) ≡ 0) × (total tasks (λ t. reopens (at t)) ≤ 1)
  reopening =
      let le : total tasks (λ t. reopens (at t)) ≤ total tasks (λ t. owns (at t)) =
      total_le tasks _ _ (λ u lu. omega (arith, owner_only (at u))) in
      elim (eqb_tells (total tasks (λ t. reopens (at t))) 0) [
        | inl h ↦ (rw h.1 (omega arith), omega (arith, h.1))
        | inr h ↦
            let p : HasPlace tasks (λ t. reopens (at t)) = total_place tasks (λ t. reopens (at t)) h.1 in
            let some : 0 < reopens (at p.0) =
            elim (eqb_tells (reopens (at p.0)) 0) [ inl k ↦ absurd (p.2 k.1) | inr k ↦ omega (arith, k.1) ] in
            (rw (reopens_at stage sb (at p.0) (good.knows p.0 p.1) some) (omega arith), omega (arith, le, good.alone))
      ]

  -- at most one task has a position, and none while the file system is frozen as a whole
  pub one_position : total tasks (λ t. has_position (at t)) + is_full stage sb ≤ 1
  one_position =
      let a : total tasks (λ t. has_position (at t)) ≡ total tasks (λ t. freezes (at t)) + total tasks (λ t. reopens (at t)) =
      total_add tasks (λ t. freezes (at t)) (λ t. reopens (at t)) in
      elim (eqb_tells (total tasks (λ t. reopens (at t))) 0) [
        | inl h ↦ omega (arith, a, h.1, way, good.freezing, good.stages)
        | inr h ↦
            let z : stage ≡ 0 =
            elim (eqb_tells stage 0) [
              | inl k ↦ k.1
              | inr k ↦ absurd
                  (nonzero stage (total tasks (λ t. reopens (at t))) k.1 h.1 reopening.0)
            ] in
            omega (arith, a, z, way, good.freezing, reopening.1)
      ]

  pub other_position : (t : ℕ) → t < tasks → has_position (at t) ≡ 1 → (u : ℕ) → u < tasks → (u ≡ t → ⊥) → has_position (at u) ≡ 0
  other_position t lt p = other_zero tasks t (λ y. has_position (at y)) (omega (arith, one_position)) lt p

  pub not_full : (t : ℕ) → t < tasks → has_position (at t) ≡ 1 → is_full stage sb ≡ 0
  not_full t lt p = omega (arith, one_position, p, total_at tasks t (λ y. has_position (at y)) lt)

  pub block_at : (t : ℕ) → t < tasks → has_position (at t) ≡ 1 → (i : ℕ) → 1 ≤ i → i ≤ 3 → block i ≡ closes i (at t)
  block_at t lt p i low high =
      let c : total tasks (λ y. closes i (at y)) ≡ closes i (at t) =
      total_alone tasks t (λ y. closes i (at y)) lt (λ u lu ne. omega (arith, closes_le i low (at u), other_position t lt p u lu ne)) in
      omega (arith, c, good.blocks i low high, not_full t lt p)

  -- where nobody has a position, a block is set while the file system is frozen as a whole
  pub block_idle : ((t : ℕ) → t < tasks → has_position (at t) ≡ 0) → (i : ℕ) → 1 ≤ i → i ≤ 3 → block i ≡ is_full stage sb
  block_idle none i low high = grind (arith, total, closes, total_none, closes_le)

  -- a level is shown as passed where a task has passed it, or the file system is frozen as a whole
  passed_level : (i : ℕ) → 1 ≤ i → i ≤ 3 → is_passed tasks block at i ≡ total tasks (λ t. passes i (at t)) + is_full stage sb
  passed_level i low high =
      let c : total tasks (λ t. sums i (at t) + passes i (at t)) ≡ total tasks (λ t. closes i (at t)) =
      total_same tasks _ _ (λ u lu. parts i low (at u)) in
      let a : total tasks (λ t. sums i (at t) + passes i (at t)) ≡ total tasks (λ t. sums i (at t)) + total tasks (λ t. passes i (at t)) =
      total_add tasks (λ t. sums i (at t)) (λ t. passes i (at t)) in
      let le : total tasks (λ t. closes i (at t)) ≤ total tasks (λ t. has_position (at t)) =
      total_le tasks _ _ (λ u lu. closes_le i low (at u)) in
      let b : block i ≤ 1 = omega (arith, le, good.blocks i low high, one_position) in
      omega (arith, c, a, good.blocks i low high, passed_test (block i) (total tasks (λ t. sums i (at t))) b)

  pub passed_bound : (t : ℕ) → t < tasks → passed_by (at t) ≤ 3
  passed_bound t lt = passed_three stage sb (at t) (good.knows t lt) (stage_bound stage (freezes (at t)) good.stages
      (omega (arith, owner_only (at t))) (λ e. omega (arith, e, way, good.freezing, total_at tasks t (λ y. freezes (at y)) lt)))

  -- the levels passed are those of all tasks, and 3 while the file system is frozen as a whole
  pub passed_is : passed_shown tasks block at ≡ total tasks (λ t. passed_by (at t)) + 3 * is_full stage sb
  passed_is =
      let e : total tasks (λ t. passes 1 (at t) + (passes 2 (at t) + passes 3 (at t))) ≡ total tasks (λ t. passed_by (at t)) =
      total_same tasks _ _ (λ u lu. three (passed_by (at u)) (passed_bound u lu)) in
      let a : total tasks (λ t. passes 1 (at t) + (passes 2 (at t) + passes 3 (at t))) ≡ total tasks (λ t. passes 1 (at t)) + total tasks
      (λ t. passes 2 (at t) + passes 3 (at t)) =
      total_add tasks (λ t. passes 1 (at t)) (λ t. passes 2 (at t) + passes 3 (at t)) in
      omega (
        arith,
        e,
        a,
        total_add tasks (λ t. passes 2 (at t)) (λ t. passes 3 (at t)),
        passed_level 1 (omega arith) (omega arith),
        passed_level 2 (omega arith) (omega arith),
        passed_level 3 (omega arith) (omega arith),
      )

  pub passed_own : (t : ℕ) → t < tasks → has_position (at t) ≡ 1 → passed_shown tasks block at ≡ passed_by (at t)
  passed_own t lt p =
      let c : total tasks (λ y. passed_by (at y)) ≡ passed_by (at t) =
      total_alone tasks t (λ y. passed_by (at y)) lt (λ u lu ne. no_levels (at u) (other_position t lt p u lu ne)) in
      omega (arith, c, passed_is, not_full t lt p)

  -- where nobody has a position none is passed, or the file system is frozen as a whole
  pub passed_idle : ((t : ℕ) → t < tasks → has_position (at t) ≡ 0) → passed_shown tasks block at ≡ 3 * is_full stage sb
  passed_idle none = omega (arith, passed_is, total_none tasks (λ y. passed_by (at y)) (λ u lu. no_levels (at u) (none u lu)))

  pub who_freezes : under_way stage ≡ 1 → (t : ℕ) × (t < tasks) × (freezes (at t) ≡ 1)
  who_freezes w = grind (arith, freezes, total_place, eqb_tells, owner_only)

  -- an owner without a position, at no stage of a freeze, is sure that nobody has one
  pub owner_idle : (t : ℕ) → t < tasks → owns (at t) ≡ 1 → has_position (at t) ≡ 0 → under_way stage ≡ 0 → (u : ℕ) → u < tasks →
      has_position (at u) ≡ 0
  owner_idle t lt o n w u lu =
      let f : freezes (at u) ≡ 0 = omega (arith, w, good.freezing, total_at tasks u (λ y. freezes (at y)) lu) in
      elim (eqb_tells u t) [
        | inl h ↦ subst (λ y. has_position (at y) ≡ 0) (sym h.1) n
        | inr h ↦ omega (arith, f, owner_only (at u), other_owns t lt o u lu h.1)
      ]

  pub nobody_at_four : stage ≡ 4 → (t : ℕ) → t < tasks → has_position (at t) ≡ 0
  nobody_at_four e t lt =
      let f : freezes (at t) ≡ 0 = omega (arith, e, way, good.freezing, total_at tasks t (λ y. freezes (at y)) lt) in
      elim (eqb_tells (reopens (at t)) 0) [
        | inl h ↦ omega (arith, f, h.1)
        | inr h ↦ absurd (omega (arith, e, reopens_at stage sb (at t) (good.knows t lt) (omega (arith, h.1))))
      ]

  -- a level is passed where a task's position, or the freeze of the whole file system, is past it
  pub passed_in_order : (i : ℕ) → 1 ≤ i → i ≤ 3 → is_passed tasks block at i ≡ up_to i (passed_shown tasks block at)
  passed_in_order i low high =
      elim (eqb_tells (total tasks (λ t. has_position (at t))) 0) [
        | inl h ↦
            let none : (t : ℕ) → t < tasks → has_position (at t) ≡ 0 =
            λ t lt. omega (arith, h.1, total_at tasks t (λ y. has_position (at y)) lt) in
            let c : total tasks (λ y. passes i (at y)) ≡ 0 =
            total_none tasks (λ y. passes i (at y)) (λ u lu. omega (arith, closes_le i low (at u), parts i low (at u), none u lu)) in
            passed_level i low high ∙ ap (λ n. n + is_full stage sb) c ∙ full_levels i low high (is_full stage sb)
            (omega (arith, one_position)) ∙
            ap (up_to i) (sym (passed_idle none))
        | inr h ↦
            let p : HasPlace tasks (λ t. has_position (at t)) = total_place tasks (λ t. has_position (at t)) h.1 in
            let one : has_position (at p.0) ≡ 1 = some_position (at p.0) p.2 in
            let c : total tasks (λ y. passes i (at y)) ≡ passes i (at p.0) =
            total_alone tasks p.0 (λ y. passes i (at y)) p.1
            (λ u lu ne. omega (arith, closes_le i low (at u), parts i low (at u), other_position p.0 p.1 one u lu ne)) in
            omega (arith, passed_level i low high, c, not_full p.0 p.1 one, ap (up_to i) (passed_own p.0 p.1 one))
      ]
