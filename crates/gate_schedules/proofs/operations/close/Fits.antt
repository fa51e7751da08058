-- What fits after a step of a close.
use Rattle.gate_schedules.proofs.Prelude.{ActionFits, Agree, ClosePhase, Config, DownRead, Fits, Holdings, HookAnswer, IsWithin, IsWord, NodeWord}
use Rattle.gate_schedules.proofs.Prelude.{Phase, arith, common_steps, down_read_after, held_after, map_next, phase_after, ℕ, ◌<◌, ◌≤◌}
use Rattle.{composite_ops.specs.file_closes.Phases.{after, next, then_frees}, gate_world.specs.Fits.CloseFits}
use Rattle.gate_schedules.proofs.frames.OperationLaws.{extents_touched}

pub enters_fits : (c : Config) (t : ℕ) (held : Holdings) (file : ℕ) (node : NodeWord) (r : DownRead) (found : ℕ) →
    CloseFits c t held (ClosePhase.Enters file node r) → Fits c t (held_after (down_read_after r r.step found).1 held)
    (phase_after (map_next Phase.Closes (then_frees file node r.cpu (down_read_after r r.step found).0)))
enters_fits c t held file node r found f = grind arith

-- what comes after each step fits
pub close_goes : (c : Config) (t : ℕ) (held : Holdings) (x : ClosePhase) (found : ℕ) → CloseFits c t held x →
    Fits c t (held_after (after x found).1 held) (phase_after (map_next Phase.Closes (after x found).0))
close_goes c t held x found f = grind (arith, common_steps)

-- the word of each step is there
pub close_there : (c : Config) (n : ℕ) → c.tasks ≤ n → (t : ℕ) → t < n → (held : Holdings) (hook : HookAnswer)
    (x : ClosePhase) → CloseFits c t held x → IsWord (extents_touched n c) (next x).0
close_there c n le t lt held hook x f = grind arith

-- and its action can be done
pub close_acts : (c : Config) → IsWithin c → (t : ℕ) (held : Holdings) (x : ClosePhase) (found : ℕ) →
    CloseFits c t held x → ActionFits held (after x found).1
close_acts c lim t held x found f = grind arith

-- it fits holdings that agree
pub close_agrees : (c : Config) (t : ℕ) (held seen : Holdings) → Agree c held seen → (x : ClosePhase) → CloseFits c t held x → CloseFits c t seen x
close_agrees c t held seen same x fits = grind arith
