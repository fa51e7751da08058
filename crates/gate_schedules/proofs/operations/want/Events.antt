-- Each step of a want and of a drop, as one law.
use Rattle.gate_schedules.proofs.Prelude.{Bool, Config, GateStepKeeps, HookAnswer, IsGood, IsWithin, MountPhase, Phase, Some, StepKeeps, WantStep}
use Rattle.gate_schedules.proofs.Prelude.{World, ℕ, ◌<◌, ◌≡◌}
use Rattle.gate_schedules.proofs.{mounts.Parts.whole_step, operations.want.Counts.{counts_down, counts_up, drops}}
use Rattle.gate_schedules.proofs.operations.want.Loads.{loads_hold, loads_read_only, loads_remount, loads_superblock, want}

want_gates : (c : Config) → IsWithin c → (w : World) → IsGood c w → (t : ℕ) → t < c.tasks → (hook : HookAnswer) →
    (m p : ℕ) (wait : Bool) (s : WantStep) →
    (w.views t).phase ≡ Some (Phase.Mounts (want m p wait s)) → GateStepKeeps c w t hook (Phase.Mounts (want m p wait s))
want_gates c lim w good t lt hook m p wait WantStep.CountsUp e = counts_up c lim w good t lt m p wait hook e
want_gates c lim w good t lt hook m p wait WantStep.LoadsHold e = loads_hold c w good t lt m p hook wait e
want_gates c lim w good t lt hook m p wait WantStep.LoadsRemount e = loads_remount c w good t lt m p wait hook e
want_gates c lim w good t lt hook m p wait WantStep.LoadsReadOnly e = loads_read_only c w good t lt m p wait hook e
want_gates c lim w good t lt hook m p wait WantStep.LoadsSuperblock e = loads_superblock c w good t lt m p wait hook e
want_gates c lim w good t lt hook m p wait (WantStep.CountsDown refusal) e = counts_down c lim w good t lt m p hook wait refusal e

pub want_keeps : (c : Config) → IsWithin c → (w : World) → IsGood c w → (t : ℕ) → t < c.tasks → (hook : HookAnswer) →
    (m p : ℕ) (wait : Bool) (s : WantStep) →
    (w.views t).phase ≡ Some (Phase.Mounts (want m p wait s)) → StepKeeps c w t hook (Phase.Mounts (want m p wait s))
want_keeps c lim w good t lt hook m p wait s e = whole_step c w t lt good hook (want m p wait s) e
    (want_gates c lim w good t lt hook m p wait s e)

pub drop_keeps : (c : Config) → IsWithin c → (w : World) → IsGood c w → (t : ℕ) → t < c.tasks → (hook : HookAnswer) → (m p : ℕ) →
    (w.views t).phase ≡ Some (Phase.Mounts (MountPhase.Drop m p)) → StepKeeps c w t hook (Phase.Mounts (MountPhase.Drop m p))
drop_keeps c lim w good t lt hook m p e = whole_step c w t lt good hook (MountPhase.Drop m p) e (drops c lim w good t lt m p hook e)
