-- One freeze at most is at a stage of its own: one that waits is, but for its first lock.
use Rattle.progress_laws.proofs.Prelude.{Config, Freeze, FreezeStep, IsGood, Phase, Some, Words, World, ap, arith, eqb_tells, false, freeze_owns}
use Rattle.progress_laws.proofs.Prelude.{freeze_waits, inl, inr, total, true, ℕ, ◌<◌, ◌∙◌, ◌≡◌, ◌≤◌}
use Rattle.freeze_laws.{proofs.stages.Facts.other_zero, specs.stages.Roles.{freezes, under_way}}
use Rattle.gate_schedules.specs.operations.Progress.{is_first_lock}
use Rattle.gate_world.specs.{Roles.freeze_stage_role, Rules.{Stages, stage_role_of, stage_roles}}

pub under_le : (stage : ℕ) → under_way stage ≤ 1
under_le stage = grind arith

-- a freeze that waits, but for its first lock, is at a stage of its own
pub waits_freezing : (w : Words) (nodes : ℕ) (s : FreezeStep) → freeze_waits w s ≡ true → is_first_lock s ≡ false →
    freezes (freeze_stage_role nodes s) ≡ 1
waits_freezing w nodes s waits first = grind arith

-- one that owns `umount` is past its first lock
pub owner_later : (s : FreezeStep) → freeze_owns s ≡ 1 → is_first_lock s ≡ false
owner_later s own = grind arith

module _ (c : Config) (w : World) (good : IsGood c w) where
  pub few_freeze : total c.tasks (λ z. freezes (stage_roles w z)) ≤ 1
  few_freeze = omega (arith, (good Stages).freezing, under_le w.words.stage)

  pub freezing_at : (t : ℕ) (x : Freeze) → (w.views t).phase ≡ Some (Phase.Freezes x) → freeze_waits w.words x.step ≡ true →
      is_first_lock x.step ≡ false → freezes (stage_roles w t) ≡ 1
  freezing_at t x at waits first = ap (λ p. freezes (stage_role_of p)) at ∙ waits_freezing w.words x.nodes x.step waits first

  -- of two such each is the other
  pub one_freezes : (t u : ℕ) → t < c.tasks → u < c.tasks → freezes (stage_roles w t) ≡ 1 → freezes (stage_roles w u) ≡ 1 → u ≡ t
  one_freezes t u lt lu mine its =
      elim (eqb_tells u t) [
        | inl e ↦ e.1
        | inr ne ↦ absurd (omega (arith, its, other_zero c.tasks t (λ z. freezes (stage_roles w z)) few_freeze lt mine u lu ne.1))
      ]
