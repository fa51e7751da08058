-- A want whose mount is not held, a drop, and a change that finds `umount` free run out.
use Rattle.gate_schedules.proofs.Prelude.{Config, MountPhase, Phase, PhaseEnds, Want, arith, ℕ}
use Rattle.mount_counts.specs.declared.phases.Change.{Change}

pub want_ends : (c : Config) (x : Want) → PhaseEnds c (Phase.Mounts (MountPhase.Want x))
want_ends c x = grind arith

pub drop_ends : (c : Config) (m p : ℕ) → PhaseEnds c (Phase.Mounts (MountPhase.Drop m p))
drop_ends c m p = record { falls = λ lim w good t lt hook at free. tt }

pub change_ends : (c : Config) (x : Change) → PhaseEnds c (Phase.Mounts (MountPhase.Change x))
change_ends c x = grind arith
