-- What the stage says at one moment, and who moves it.
use Rattle.std.{proofs.{Common.{Bool, arith, inl, inr, refl, sym, ℕ, ◌<◌, ◌∙◌, ◌≡◌, ◌≤◌}, lemmas.Bool.Decides.eqb_tells}, specs.Prelude.Some}
use Rattle.finite_sums.proofs.Totals.{HasPlace, total_at, total_none, total_place, total_zero}
use Rattle.freeze_laws.proofs.stages.{Allowed.may, EachEvent.after_kind, Effects.effect, Facts.{freeze_role, up_to_off}, Positions.block_at}
use Rattle.freeze_laws.proofs.stages.Positions.{block_idle, nobody_at_four, not_full, one_position, other_position, passed_idle, passed_in_order}
use Rattle.freeze_laws.{proofs.stages.{Positions.{passed_own, way, who_freezes}, StageLaws.{freeze_bound, relied_on}}, specs.stages.Events.Happens}
use Rattle.freeze_laws.specs.stages.{Events.{Holds, StageEvent, Stages}, Laws.{ActionsAreAllowed, ActionsHaveTheirEffect, EventsKeep}}
use Rattle.freeze_laws.specs.stages.Laws.{FreezeIsUnderWay, FreezeKeepsOthersOut, FrozenAsAWhole, LevelsPassInOrder, NobodyAtStageFour}
use Rattle.freeze_laws.specs.stages.Laws.{OnlyTheFreezeMovesTheStage, OpenElsewhere, PositionsAreAlone, PositionsTellTheLevels, opening}
use Rattle.freeze_laws.specs.stages.Roles.{Aside, Freezing, KnowsStage, Owning, Place, StageRole, closes, freezes, has_position, is_full, remounts}

pub opening_is_right : (tasks nodes : ℕ) → Holds tasks nodes opening
opening_is_right tasks nodes = record {
  stages = record {
    stages = omega arith;
    superblock = omega arith;
    alone = omega (arith, total_zero tasks);
    freezing = total_zero tasks;
    writable = λ e. refl;
    remounting = sym (total_zero tasks);
    blocks = λ i low high. omega (arith, total_none tasks (λ t. closes i Aside) (λ t lt. up_to_off i 0 (omega (arith, low))));
    knows = λ t lt. tt;
  };
  marks = record { frozen = λ e m lt. refl; read_only = λ e m lt. refl; cleared = λ t lt m l. refl };
}

pub events_keep : EventsKeep
events_keep tasks nodes x x' t kind step = after_kind tasks nodes x step.right t step.there kind x' step.happens

pub actions_are_allowed : ActionsAreAllowed
actions_are_allowed l x x' t kind step s shows action a asks =
    (step.there, may l x step.right t step.there s shows kind x' step.happens action a asks)

pub actions_have_their_effect : ActionsHaveTheirEffect
actions_have_their_effect tasks nodes x x' t kind step s shows = effect tasks nodes x step.right t step.there s shows kind x' step.happens

pub freeze_is_under_way : FreezeIsUnderWay
freeze_is_under_way tasks nodes x h low high =
    let w : (t : ℕ) × (t < tasks) × (freezes (x.at t) ≡ 1) =
    who_freezes tasks x.stage x.sb x.remount x.block x.at h.stages
    (omega (arith, low, high, way tasks x.stage x.sb x.remount x.block x.at h.stages)) in
    let r : (place : Place) × (owner : Bool) × (x.at w.0 ≡ Freezing x.stage place owner) =
    freeze_role x.stage x.sb (x.at w.0) (h.stages.knows w.0 w.1) w.2 in
    (w.0, w.1, r.0, r.1, r.2)

remounts_at : (stage sb : ℕ) (r : StageRole) → KnowsStage stage sb r → (remounts r ≡ 0 → ⊥) → stage ≡ 0
remounts_at stage sb r k h = grind arith

-- a freeze keeps out who relies on stage 0
pub freeze_keeps_others_out : FreezeKeepsOthersOut
freeze_keeps_others_out tasks nodes x h t lt f =
    let b : _ = freeze_bound tasks x h.stages t lt (x.at t) refl f in (
      b.1,
      b.2,
      b.3,
      elim (eqb_tells x.remount 0) [
        | inl e ↦ e.1
        | inr e ↦
            let p : HasPlace tasks (λ u. remounts (x.at u)) =
            total_place tasks (λ u. remounts (x.at u)) (λ z. e.1 (h.stages.remounting ∙ z)) in
            absurd (omega (arith, b, remounts_at x.stage x.sb (x.at p.0) (h.stages.knows p.0 p.1) p.2))
      ],
      λ u sb lu q. absurd (omega (arith, b, (relied_on tasks x h.stages u lu (Owning (Some 0) sb) q).0)),
    )

pub positions_are_alone : PositionsAreAlone
positions_are_alone tasks nodes x h t lt p = (
  not_full tasks x.stage x.sb x.remount x.block x.at h.stages t lt p,
  other_position tasks x.stage x.sb x.remount x.block x.at h.stages
      t lt p,
)

pub positions_tell_the_levels : PositionsTellTheLevels
positions_tell_the_levels tasks nodes x h t lt p = (
  passed_own tasks x.stage x.sb x.remount x.block x.at h.stages t lt p,
  block_at tasks x.stage x.sb x.remount x.block x.at h.stages t
      lt p,
)

-- where a block is set and no task's own the file system is frozen as a whole, and then nobody has a position
pub frozen_as_a_whole : FrozenAsAWhole
frozen_as_a_whole tasks nodes x h =
    let w : _ = way tasks x.stage x.sb x.remount x.block x.at h.stages in (
      (λ e.
          let full : is_full x.stage x.sb ≡ 1 = omega (arith, e, w) in
          let none : (t : ℕ) → t < tasks → has_position (x.at t) ≡ 0 = λ t lt.
          omega (
            arith,
            full,
            one_position tasks x.stage x.sb x.remount x.block x.at h.stages,
            total_at tasks t
                (λ u. has_position (x.at u)) lt,
          ) in (
            (λ i low high. block_idle tasks x.stage x.sb x.remount x.block x.at h.stages none i low high ∙ full),
            omega (arith, full, passed_idle tasks x.stage x.sb x.remount x.block x.at h.stages none),
            none,
          )),
      λ i low high set free.
          let full : is_full x.stage x.sb ≡ 1 =
          omega (arith, set, h.stages.blocks i low high, total_none tasks (λ u. closes i (x.at u)) free) in
          omega (arith, full, w, h.stages.stages, h.stages.superblock),
    )

pub nobody_at_stage_four : NobodyAtStageFour
nobody_at_stage_four tasks nodes x h = nobody_at_four tasks x.stage x.sb x.remount x.block x.at h.stages

pub levels_pass_in_order : LevelsPassInOrder
levels_pass_in_order tasks nodes x h = passed_in_order tasks x.stage x.sb x.remount x.block x.at h.stages

pub open_elsewhere : OpenElsewhere
open_elsewhere tasks nodes x h none full = (
  omega (arith, full, passed_idle tasks x.stage x.sb x.remount x.block x.at h.stages none),
  λ i low high. block_idle tasks x.stage x.sb x.remount x.block x.at h.stages none i low high ∙ full,
)

-- a store of a stage asks for what is said of it: at stages 1 to 3 nobody but the freeze can be there
module _ (tasks nodes : ℕ) (x : Stages) (h : Holds tasks nodes x) (t : ℕ) (lt : t < tasks) (low : 1 ≤ x.stage) (high : x.stage ≤ 3)
    (out : freezes (x.at t) ≡ 0) where
  pub stage_stays : (kind : StageEvent) (x' : Stages) → Happens tasks nodes t x x' kind → x'.stage ≡ x.stage
  stage_stays kind x' happens = grind arith

-- only the freeze under way moves the stage
pub only_the_freeze_moves_the_stage : OnlyTheFreezeMovesTheStage
only_the_freeze_moves_the_stage tasks nodes x x' t kind step low high out =
    stage_stays tasks nodes x step.right t step.there low high out kind x' step.happens
