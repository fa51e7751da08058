-- Transitions of tasks that are idle.
use Rattle.std.proofs.{Common.{None, refl, ℕ, ◌<◌, ◌≡◌}, lemmas.Bool.lt-ltb}
use Rattle.{cpu_words.specs.Hooks.HookAnswer, gate_transitions.specs.Answers.{idle_step, step_answer}}
use Rattle.gate_world.specs.{Worlds.{World, happens}, declared.{config.Config.Config, entries.Entry.TheVariants.Steps}}

pub idle_steps : (c : Config) (w : World) (t : ℕ) (hook : HookAnswer) → t < c.tasks → (w.views t).phase ≡ None →
    (step_answer c w t hook ≡ idle_step) × (happens c w (Steps t hook) ≡ w)
idle_steps c w t hook lt idle = rw (lt-ltb t c.tasks lt, idle) (refl, refl)
