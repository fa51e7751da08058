-- Each phase of a write access is alike to the phase of its gate, before a step and after it; and what fits then, and what is said of
-- causes and of waits.
use Rattle.gate_schedules.proofs.Prelude.{DownRead, MountPhase, Next, Phase, Some, Want, WritePhase, arith, map_next, phase_after, ℕ}
use Rattle.{composite_ops.specs.write_access.Phases.{then_gives_back, then_wants}, gate_world.specs.{SameRoles.SameRoles, Work.inner_phase}}

pub alike_plain : (x : WritePhase) → SameRoles (Some (Phase.Writes x)) (Some (inner_phase x))
alike_plain x = grind arith

-- what comes after a step at level 1 is alike to what comes in its own operation: the want that follows has no role yet
pub alike_takes : (m p : ℕ) (n : Next DownRead) →
    SameRoles (phase_after (map_next Phase.DownReads n)) (phase_after (map_next Phase.Writes (then_wants m p n)))
alike_takes m p n = grind arith

-- and so is what comes after a step at the mount: an end of level 1 has no role
pub alike_wants : (m p : ℕ) (n : Next Want) →
    SameRoles (phase_after (map_next Phase.Mounts (map_next MountPhase.Want n))) (phase_after (map_next Phase.Writes (then_gives_back m p n)))
alike_wants m p n = grind arith
