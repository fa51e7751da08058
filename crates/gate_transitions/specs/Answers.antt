-- What the core's calls answer, in the state that its memory shows.
use Rattle.std.specs.Prelude.{None, Option, Result, Some, if◌then◌else◌, nat_lt, ℕ}
use Rattle.access_model.specs.declared.{errors.GateError.GateError, replies.Next.{Next, TheVariants.{Done, Go, Wait}}}
use Rattle.{cpu_words.specs.{Hooks.HookAnswer, Touches.event_of}, freeze_levels.specs.declared.hooks.HookKind.HookKind}
use Rattle.gate_world.specs.{Beginnings.or_refusal, Work.{after_of, hook_of, next_of}, Worlds.{World, begin_refusal, found_at, value_at}}
use Rattle.gate_world.specs.declared.{config.Config.Config, operations.Op.Op, work.Phase.Phase}
use Rattle.gate_transitions.specs.declared.steps.{Progress.{Progress, TheVariants.{Done as Ended, Going, Idle, Waiting}}, Step.Step}

-- the refusal, where there is one
abbrev pub unless_refused : Option GateError → Result (Unit {0}) GateError
unless_refused refusal = or_refusal tt refusal

-- a beginning is refused exactly for these reasons, in their order
abbrev pub begin_answer : Config → World → ℕ → Op → Result (Unit {0}) GateError
begin_answer c w t op = unless_refused (begin_refusal c w t op)

-- how an operation stands by what comes next
abbrev pub progress_of : Next Phase → Progress
progress_of (Go phase) = Going
progress_of (Wait phase) = Waiting
progress_of (Done answer) = Ended answer

-- an idle task does nothing
abbrev pub idle_step : Step
idle_step = record { event = None; action = None; progress = Idle }

-- the one step of a phase, the action that it adds, and how the operation stands
abbrev pub phase_step : World → HookAnswer → Option Phase → Step
phase_step w hook None = idle_step
phase_step w hook (Some phase) = record {
  event = Some (event_of (next_of phase hook).0 (next_of phase hook).1 (value_at w.words phase hook));
  action = (after_of phase (found_at w.words phase hook) hook).1;
  progress = progress_of (after_of phase (found_at w.words phase hook) hook).0;
}

-- a step of a task, or of none
abbrev pub step_answer : Config → World → ℕ → HookAnswer → Step
step_answer c w t hook = if nat_lt t c.tasks then phase_step w hook (w.views t).phase else idle_step

-- the hook whose answer the next step of an operation under way reads; an idle task has no next step
abbrev pub asked_by : Option Phase → Option HookKind
asked_by None = None
asked_by (Some phase) = hook_of phase

-- the hook whose answer the next step of a task reads, or of none
abbrev pub wanted_hook : Config → World → ℕ → Option HookKind
wanted_hook c w t = if nat_lt t c.tasks then asked_by (w.views t).phase else None
