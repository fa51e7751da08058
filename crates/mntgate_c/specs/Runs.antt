-- What a run of steps is.
use Rattle.std.specs.Prelude.{None, Ok, Some, suc, zero, ℕ, ◌≡◌, ◌≤◌, ◌⊎◌}
use Rattle.{cpu_words.specs.Hooks.HookAnswer, gate_steps.specs.call_events.Stepped.Stepped}
use Rattle.gate_transitions.specs.{Answers.asked_by, declared.steps.{Progress.{Progress, TheVariants.Going}, Step.Step}}
use Rattle.{gate_world.specs.declared.work.Phase.Phase, vfs_gates.specs.TaskStates.SeatedTask}

-- one step that reads no hook, and how the operation stands after it
pub record StepsOn (old left : SeatedTask) (progress : Progress) : Type 0 where
  pub phase : Phase
  pub at : old.phase ≡ Some phase
  pub unasked : asked_by old.phase ≡ None
  pub step : Step
  pub told : progress ≡ step.progress
  pub stepped : Stepped phase (Ok tt) old step left

-- so many such steps, one after the other, each but the last of an operation that goes on
abbrev pub RunsOn : ℕ → SeatedTask → Progress → SeatedTask → Progress → Type 0
RunsOn zero first began left progress = (left ≡ first) × (progress ≡ began)
RunsOn (suc n) first began left progress = (mid : SeatedTask) × RunsOn n first began mid Going × StepsOn mid left progress

-- A run of at most so many steps, but one at least: its first reads what a hook answered, if it reads one, and no other reads any. It ends
-- where the operation doesn't go on, where its next step reads a hook, or with the last step that it may do.
pub record Runs (phase : Phase) (hook : HookAnswer) (most : ℕ) (old left : SeatedTask) (progress : Progress) : Type 0 where
  pub step : Step
  pub first : SeatedTask
  pub stepped : Stepped phase hook old step first
  pub more : ℕ
  pub few : (more ≡ 0) ⊎ (suc more ≤ most)
  pub runs_on : RunsOn more first step.progress left progress
  pub ends : progress ≡ Going → asked_by left.phase ≡ None → most ≤ suc more
