-- What the core's step is, as one fact.
use Rattle.std.specs.Prelude.{◌≡◌, ℕ}
use Rattle.cpu_words.specs.Hooks.{HookAnswer}
use Rattle.gate_world.specs.{Worlds.{World, happens}, declared.entries.Entry.TheVariants.{Steps}}
use Rattle.gate_transitions.specs.{Answers.{step_answer}, declared.steps.Step.{Step}}
use Rattle.gate_core.specs.{Memory.{Memory, Represents}, Moves.{stepped, progress_in}}

-- A task's next step makes the second memory of the first: it is that of the task's phase, shows what the transition makes of each state that
-- the first one shows, and is told as it is of that state.
pub record IsStep (before after : Memory) (t : ℕ) (hook : HookAnswer) (step : Step) : Type 0 where
  pub config : after.config ≡ before.config
  pub answer : (w : World) → Represents before w → step ≡ step_answer before.config w t hook
  pub shows : (w : World) → Represents before w → Represents after (happens before.config w (Steps t hook))
  pub progress : step.progress ≡ progress_in before t hook
  pub memory : after ≡ stepped before t hook
