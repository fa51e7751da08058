-- The causes and the waits of a close: those of a down-read of level 3, where it is a last one.
use Rattle.gate_schedules.proofs.Prelude.{CauseOf, ClosePhase, Config, DownRead, GateError, List, Next, NodeWord, Option, Phase, Result, World}
use Rattle.gate_schedules.proofs.Prelude.{after_look, arith, map_next, phase_after, ℕ, ◌∷◌, ◌≡◌}
use Rattle.composite_ops.specs.{declared.file_closes.phases.Closing.Closing, file_closes.Phases.{closed_from, then_frees}}
use Rattle.gate_schedules.proofs.operations.readers.Causes.{AsksNext, HasNextCause}

module _ (c : Config) (t : ℕ) (w next : World) (earlier : List World) (file p : ℕ) (node : NodeWord) where
  -- after a step at level 3 the task asks where a down-read does
  pub enters_asks : (n : Next DownRead) → (next.views t).phase ≡ phase_after (map_next Phase.Closes (then_frees file node p n)) →
      AsksNext c t w next earlier n
  enters_asks n e = grind arith

  -- and what comes then has its cause
  pub enters_cause : (n : Next DownRead) → HasNextCause c t w next earlier n →
      CauseOf c t next (w ∷ earlier) (phase_after (map_next Phase.Closes (then_frees file node p n)))
  enters_cause n h = grind arith

module _ (c : Config) (t : ℕ) (w : World) (earlier : List World) where
  pub looked_cause : (x : Closing) (r : Option (Result NodeWord GateError)) →
      CauseOf c t w earlier (phase_after (map_next Phase.Closes (after_look (ClosePhase.LoadsFile x) (closed_from x) r)))
  looked_cause x r = grind arith
