-- Each step of a change, as one law.
use Rattle.gate_schedules.proofs.Prelude.{Bool, ChangeStep, Config, HookAnswer, IsGood, IsWithin, Phase, Some, StepKeeps, World, ℕ, ◌<◌, ◌≡◌}
use Rattle.gate_world.specs.Rules.{GateStepKeeps}
use Rattle.gate_schedules.proofs.{mounts.Parts.whole_step, operations.change.{Loads.{change, loads_flags, loads_superblock}, Steps.clears_hold}}
use Rattle.gate_schedules.proofs.operations.change.Steps.{clears_read_only, locks, releases, sets_hold, sets_read_only, sums}

change_gates : (c : Config) → IsWithin c → (w : World) → IsGood c w → (t : ℕ) → t < c.tasks → (hook : HookAnswer) →
    (m : ℕ) (ro wait : Bool) (task processors : ℕ) (s : ChangeStep) →
    (w.views t).phase ≡ Some (Phase.Mounts (change m ro wait task processors s)) →
    GateStepKeeps c w t hook (Phase.Mounts (change m ro wait task processors s))
change_gates c lim w good t lt hook m ro wait task processors ChangeStep.Locks e = locks c w good t lt m ro task processors hook wait e
change_gates c lim w good t lt hook m ro wait task processors ChangeStep.LoadsFlags e = loads_flags c w good t lt m ro wait task processors hook e
change_gates c lim w good t lt hook m ro wait task processors ChangeStep.LoadsSuperblock e = loads_superblock c w good t lt m ro wait task processors hook e
change_gates c lim w good t lt hook m ro wait task processors ChangeStep.ClearsReadOnly e =
    clears_read_only c lim w good t lt m ro wait task processors hook e
change_gates c lim w good t lt hook m ro wait task processors ChangeStep.SetsHold e = sets_hold c lim w good t lt m ro wait task processors hook e
change_gates c lim w good t lt hook m ro wait task processors (ChangeStep.Sums sum) e = sums c lim w good t lt m ro wait task processors hook sum e
change_gates c lim w good t lt hook m ro wait task processors ChangeStep.SetsReadOnly e =
    sets_read_only c lim w good t lt m ro wait task processors hook e
change_gates c lim w good t lt hook m ro wait task processors (ChangeStep.ClearsHold answer) e =
    clears_hold c lim w good t lt m ro wait task processors hook answer e
change_gates c lim w good t lt hook m ro wait task processors (ChangeStep.Releases answer) e =
    releases c lim w good t lt m ro wait task processors hook answer e

pub change_keeps : (c : Config) → IsWithin c → (w : World) → IsGood c w → (t : ℕ) → t < c.tasks → (hook : HookAnswer) →
    (m : ℕ) (ro wait : Bool) (task processors : ℕ) (s : ChangeStep) →
    (w.views t).phase ≡ Some (Phase.Mounts (change m ro wait task processors s)) →
    StepKeeps c w t hook (Phase.Mounts (change m ro wait task processors s))
change_keeps c lim w good t lt hook m ro wait task processors s e =
    whole_step c w t lt good hook (change m ro wait task processors s) e (change_gates c lim w good t lt hook m ro wait task processors s e)
