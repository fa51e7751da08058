-- The causes and the waits of a write access: those of its gate, whichever it is at.
use Rattle.gate_schedules.proofs.Prelude.{CauseOf, Config, DownRead, HasReason, IsGood, List, Next, Phase, Want, World, WritePhase, arith, map_next}
use Rattle.gate_schedules.proofs.Prelude.{phase_after, ℕ, ◌<◌, ◌∷◌, ◌≡◌}
use Rattle.{composite_ops.specs.write_access.Phases.{then_gives_back, then_wants}, gate_world.specs.refusals.Causes.{WasClosed, asks, last_asked}}
use Rattle.gate_schedules.proofs.operations.{readers.{Causes.{AsksNext, HasNextCause}, Waits.WhereRefused}, want.Causes.{NextCause, next_asks}}
use Rattle.gate_schedules.proofs.operations.want.Waits.{NextWaits}

module _ (c : Config) (t : ℕ) (w next : World) (earlier : List World) (m p : ℕ) where
  -- after a step at level 1 the task asks where a down-read does
  pub takes_asks : (n : Next DownRead) → (next.views t).phase ≡ phase_after (map_next Phase.Writes (then_wants m p n)) →
      AsksNext c t w next earlier n
  takes_asks n e = grind arith

  -- and what comes then has its cause
  pub takes_cause : (n : Next DownRead) → HasNextCause c t w next earlier n →
      CauseOf c t next (w ∷ earlier) (phase_after (map_next Phase.Writes (then_wants m p n)))
  takes_cause n h = grind arith

module _ (c : Config) (t : ℕ) (w : World) (earlier : List World) (m p : ℕ) where
  -- after a step at the mount the task asks where a want does
  pub wants_asked : (n : Next Want) → asks (phase_after (map_next Phase.Writes (then_gives_back m p n))) ≡ next_asks n
  wants_asked n = grind arith

  -- and what comes then has its cause, which the mount's refusal has while the level is left
  pub wants_cause : (n : Next Want) → NextCause c t w earlier m n →
      CauseOf c t w earlier (phase_after (map_next Phase.Writes (then_gives_back m p n)))
  wants_cause n h = grind arith

  pub takes_waits : (r : DownRead) (n : Next DownRead) → WhereRefused (WasClosed c t r.level (last_asked t (w ∷ earlier))) n →
      HasReason c w earlier t (Phase.Writes (WritePhase.Takes m r)) (map_next Phase.Writes (then_wants m p n))
  takes_waits r n h = grind arith

  -- a wait at the mount is one for who has HOLD set
  pub wants_waits : (good : IsGood c w) (lt : t < c.tasks) (x : Want) (n : Next Want) → NextWaits c w earlier good t lt x n →
      HasReason c w earlier t (Phase.Writes (WritePhase.Wants x)) (map_next Phase.Writes (then_gives_back m p n))
  wants_waits good lt x n h = grind arith
