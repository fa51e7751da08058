-- The causes of a thaw's refusals, along an execution, and the counts, which a thaw leaves.
use Rattle.gate_schedules.proofs.Prelude.{CauseOf, Config, HookAnswer, List, Option, Phase, Some, Thaw, ThawStep, World, after_of, arith, found_at}
use Rattle.gate_schedules.proofs.Prelude.{phase_after, ℕ, ◌∷◌, ◌≡◌}
use Rattle.{freeze_levels.specs.Thaws.at_thaw, gate_world.specs.refusals.KeptCauses.ThawCause}

-- a task whose view another transition leaves alone: the cause of each step stays
pub thaw_stays : (c : Config) (t : ℕ) (w next : World) (earlier : List World) (x : Thaw) (s : ThawStep) →
    (next.views t).phase ≡ Some (Phase.Thaws (at_thaw x s)) → ThawCause c t w earlier x.holder s → ThawCause c t next (w ∷ earlier) x.holder s
thaw_stays c t w next earlier x s e h = grind arith

-- the task that steps: what its next phase says, in the state after the step
module _ (c : Config) (t : ℕ) (w next : World) (earlier : List World) (x : Thaw) where
  -- what comes after a step has its cause
  pub thaw_own : (hook : HookAnswer) (s : ThawStep) → (w.views t).phase ≡ Some (Phase.Thaws (at_thaw x s)) →
      let comes : Option Phase =
      phase_after (after_of (Phase.Thaws (at_thaw x s)) (found_at w.words (Phase.Thaws (at_thaw x s)) hook) hook).0 in
      (next.views t).phase ≡ comes → CauseOf c t next (w ∷ earlier) comes
  thaw_own hook s e e' = grind arith
