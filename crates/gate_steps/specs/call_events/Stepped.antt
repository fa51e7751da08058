-- What one step of a task is.
use Rattle.std.specs.Prelude.{List, None, Option, Some, [], ℕ, ◌∷◌, ◌≡◌}
use Rattle.cpu_words.specs.{Hooks.HookAnswer, Touches.{event_of, found_by}}
use Rattle.gate_transitions.specs.{Answers.{phase_step, progress_of}, declared.steps.Step.Step}
use Rattle.gate_world.specs.{Views.phase_after, Work.{after_of, next_of}, declared.{config.Config.Config, entries.Entry.Entry, operations.Op.Op}}
use Rattle.gate_world.specs.declared.work.Phase.{Phase}
use Rattle.gate_steps.specs.{Seating.{DealtNumbers, HasWitness, items_after}, call_events.SeatedTasks.SeatedTask}

-- the step of a phase that found this
abbrev pub found_step : Phase → HookAnswer → ℕ → Step
found_step phase hook found = record {
  event = Some (event_of (next_of phase hook).0 (next_of phase hook).1 found);
  action = (after_of phase (found_by (next_of phase hook).1 found) hook).1;
  progress = progress_of (after_of phase (found_by (next_of phase hook).1 found) hook).0;
}

-- and the task after it
abbrev pub state_after : SeatedTask → Phase → HookAnswer → ℕ → List (List Entry) → SeatedTask
state_after old phase hook found seen = record old {
  begins = None;
  phase = phase_after (after_of phase (found_by (next_of phase hook).1 found) hook).0;
  items = items_after old.begins phase hook found old.items;
  seen = seen;
}

-- the step is the one that the phase has in this state
abbrev pub ToldIn : (c : Config) (begins : Option Op) (phase : Phase) (hook : HookAnswer) (found : ℕ) (items : DealtNumbers)
    (seen left : List (List Entry)) → HasWitness c begins phase hook items found seen left → Step → Type 0
ToldIn c begins phase hook found [] seen left move step = ⊥
ToldIn c begins phase hook found (x ∷ xs) seen left move step = step ≡ phase_step move.world hook (Some phase)

-- One step of the task's own number, which found something in a state that the invariant holds of, before it and after it. The step is the
-- one that the phase has in that state.
pub record Stepped (phase : Phase) (hook : HookAnswer) (old : SeatedTask) (done : Step) (left : SeatedTask) : Type 0 where
  pub found : ℕ
  pub step : done ≡ found_step phase hook found
  pub new : left ≡ state_after old phase hook found left.seen
  pub moves : HasWitness old.config old.begins phase hook old.items found old.seen left.seen
  pub told : ToldIn old.config old.begins phase hook found old.items old.seen left.seen moves done
