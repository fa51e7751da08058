-- What the theorem says of a phase by its steps is what its role with the stage says: whether it closes a level, which stage it stored last in
-- a freeze, and whether it owns `umount`.
use Rattle.gate_schedules.proofs.Prelude.{Config, FreezeStep, Freezing, None, Option, Phase, SnapshotStep, Some, StageRole, ThawStep, World, ap}
use Rattle.gate_schedules.proofs.Prelude.{arith, closing, freeze_stage_role, if◌then◌else◌, shown, stage_role_of, stage_roles, sym, total, ℕ, ◌&&◌}
use Rattle.gate_schedules.proofs.Prelude.{◌+◌, ◌==◌, ◌∙◌, ◌≡◌}
use Rattle.freeze_laws.specs.stages.{Roles.{freezes, owns as stage_owns, sums}, Shown.{is_passed as passed_at_level, passed_shown}}
use Rattle.gate_world.specs.{Headline.freezing_at, Roles.{freeze_owns, snapshot_owns, snapshot_stage_role, thaw_owns, thaw_stage_role}}
use Rattle.gate_world.specs.Shown.{is_passed}

-- a freeze, a thaw and a snapshot own `umount` exactly where their roles with the stage say so
pub freeze_owner : (nodes : ℕ) (s : FreezeStep) → stage_owns (freeze_stage_role nodes s) ≡ freeze_owns s
freeze_owner nodes s = grind arith

pub thaw_owner : (s : ThawStep) → stage_owns (thaw_stage_role s) ≡ thaw_owns s
thaw_owner s = grind arith

pub snapshot_owner : (s : SnapshotStep) → stage_owns (snapshot_stage_role s) ≡ snapshot_owns s
snapshot_owner s = grind arith

pub closing_is : (i : ℕ) (p : Option Phase) → closing i p ≡ sums i (stage_role_of p)
closing_is i p = grind arith

-- so who has the same role closes the same
pub closing_as : (p q : Option Phase) → stage_role_of q ≡ stage_role_of p → (i : ℕ) → closing i q ≡ closing i p
closing_as p q same i = closing_is i q ∙ ap (sums i) same ∙ sym (closing_is i p)

-- and the shown number of levels passed is that of the roles
pub shown_passed : (c : Config) (w : World) → (shown c w).passed ≡ passed_shown c.tasks w.words.block (stage_roles w)
shown_passed c w =
    let each : (i : ℕ) → is_passed c w i ≡ passed_at_level c.tasks w.words.block (stage_roles w) i =
    λ i j. if w.words.block i == 1 && total c.tasks (λ t. closing_is i (w.views t).phase j) == 0 then 1 else 0 in
    λ j. each 1 j + (each 2 j + each 3 j)

-- the stage that a freeze of this role stored last
abbrev pub stage_of : StageRole → Option ℕ
stage_of (Freezing stage place owner) = Some stage
stage_of r = None

pub apart_stage : (r : StageRole) → freezes r ≡ 0 → stage_of r ≡ None
apart_stage r none = grind arith

-- is the one that it stored last by its phase
pub freezing_is : (p : Option Phase) → freezing_at p ≡ stage_of (stage_role_of p)
freezing_is p = grind arith
