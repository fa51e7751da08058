-- Each step keeps what holds of the marks of nodes.
use Rattle.std.proofs.{Common.{arith, inl, inr, ℕ, ◌%◌, ◌+◌, ◌-◌, ◌/◌, ◌<◌, ◌≡◌, ◌≤◌}, lemmas.Bool.Decides.eqb_tells}
use Rattle.finite_sums.{proofs.Totals.total_at, specs.Sums.update}
use Rattle.freeze_laws.{proofs.stages.{Facts.owner_only, Positions.{passed_is, passed_own, way, who_freezes}}, specs.stages.Events.{Holds, Stages}}
use Rattle.freeze_laws.specs.stages.Roles.{CleanBelow, KnowsStage, MarksHold, StageRole, StagesHold, clean_by, freezes, has_position, is_full}
use Rattle.freeze_laws.specs.stages.{Roles.{passed_by, remounts, under_way}, Shown.passed_shown}

cleared_by : (r : StageRole) → 0 < clean_by r → remounts r ≡ 0 → (2 ≤ passed_by r) × (has_position r ≡ 1)
cleared_by r h n = grind arith

passed_third : (r : StageRole) (stage sb : ℕ) → KnowsStage stage sb r → freezes r ≡ 1 → stage ≡ 3 → 2 ≤ passed_by r
passed_third r stage sb k f e = grind arith

-- where the marks hold, another role that has cleared as many changes nothing
pub cleared_anew : (tasks nodes stage sb stage' sb' : ℕ) (dirty : ℕ → ℕ) (at : ℕ → StageRole) (t : ℕ) (new : StageRole) →
    MarksHold tasks nodes stage sb dirty at →
    (3 ≤ stage' → CleanBelow nodes dirty) → (sb' ≡ 1 → CleanBelow nodes dirty) → CleanBelow (clean_by new) dirty →
    MarksHold tasks nodes stage' sb' dirty (update at t new)
cleared_anew tasks nodes stage sb stage' sb' dirty at t new h f r c = grind arith

-- a clean node leaves the others as they were
pub washed : (tasks nodes stage sb : ℕ) (dirty : ℕ → ℕ) (at : ℕ → StageRole) (node : ℕ) → MarksHold tasks nodes stage sb dirty at →
    MarksHold tasks nodes stage sb (update dirty node 0) at
washed tasks nodes stage sb dirty at node h = grind arith

-- marks are made only where none is to stay clear: before level 2 is passed, at a writable superblock
pub marked : (tasks nodes : ℕ) (x : Stages) (node mark : ℕ) → Holds tasks nodes x → passed_shown tasks x.block x.at < 2 → x.remount ≡ 0 →
    x.sb ≡ 0 →
    MarksHold tasks nodes x.stage x.sb (update x.dirty node mark) x.at
marked tasks nodes x node mark h passed remount sb =
    let good : StagesHold tasks x.stage x.sb x.remount x.block x.at = h.stages in
    let ways : (under_way x.stage ≡ (x.stage % 4 + 3) / 4) × (is_full x.stage x.sb ≡ x.stage / 4 - x.sb) =
    way tasks x.stage x.sb x.remount x.block x.at good in
    let none : x.stage ≡ 3 → ⊥ = λ e.
    let w : (t : ℕ) × (t < tasks) × (freezes (x.at t) ≡ 1) =
    who_freezes tasks x.stage x.sb x.remount x.block x.at good (omega (arith, e, ways)) in
    omega (
      arith,
      passed,
      passed_third (x.at w.0) x.stage x.sb (good.knows w.0 w.1) w.2 e,
      passed_own tasks x.stage x.sb x.remount x.block x.at good w.0 w.1 (omega (arith, w.2, owner_only (x.at w.0))),
    ) in
    let low : x.stage < 3 = elim (eqb_tells x.stage 3) [
      | inl e ↦ absurd (none e.1)
      | inr e ↦ omega (arith, e.1, sb, ways, passed, good.stages, passed_is tasks x.stage x.sb x.remount x.block x.at good)
    ] in
    record {
      frozen = λ s. absurd (omega (arith, s, low));
      read_only = λ r. absurd (omega (arith, r, sb));
      cleared = λ u lu. elim (eqb_tells (clean_by (x.at u)) 0) [
        | inl e ↦ λ m lt. absurd (omega (arith, lt, e.1))
        | inr e ↦
            let r : remounts (x.at u) ≡ 0 = omega (arith, remount, good.remounting, total_at tasks u (λ y. remounts (x.at y)) lu) in
            let c : (2 ≤ passed_by (x.at u)) × (has_position (x.at u) ≡ 1) = cleared_by (x.at u) (omega (arith, e.1)) r in
            absurd (omega (arith, passed, c.0, passed_own tasks x.stage x.sb x.remount x.block x.at good u lu c.1))
      ];
    }
