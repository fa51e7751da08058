-- What the core's calls make of its memory, and what they answer by it.
use Rattle.std.specs.Prelude.{ℕ, nat_lt, if◌then◌else◌, is_some, Option, Some, None, slice_index, slice_set}
use Rattle.access_model.specs.declared.{actions.Action.Action, errors.GateError.{GateError, TheVariants.Invalid}, replies.Next.Next}
use Rattle.cpu_words.specs.{Hooks.HookAnswer, Names.place, Touches.{left, found_by}}
use Rattle.freeze_levels.specs.declared.hooks.HookKind.{HookKind}
use Rattle.gate_world.specs.{Accesses.accesses_after, Beginnings.{first_phase, refusal}, Views.phase_after, Work.{next_of, after_of}}
use Rattle.gate_world.specs.declared.{operations.Op.Op, work.Phase.Phase}
use Rattle.gate_transitions.specs.{Answers.{progress_of, asked_by}, TaskStates.{task_holdings}, declared.steps.Progress.{Progress}}
use Rattle.gate_transitions.specs.declared.steps.Progress.TheVariants.{Idle}
use Rattle.gate_core.specs.Memory.{Memory, seat_of}

-- the phase of a task, of an idle one or none that is there None
abbrev pub phase_in : Memory → ℕ → Option Phase
phase_in memory t = if nat_lt t memory.config.tasks then (seat_of memory t).phase else None

-- why a task can't begin an operation
abbrev pub refusal_in : Memory → ℕ → Op → Option GateError
refusal_in memory t op =
    if nat_lt t memory.config.tasks then
    refusal memory.config (is_some (seat_of memory t).phase) (task_holdings (seat_of memory t)) op else
    Some Invalid

-- the memory after a beginning that is refused for this reason, or not
abbrev pub begun_of : Memory → ℕ → Op → Option GateError → Memory
begun_of memory t op None = record {
  config = memory.config;
  words = memory.words;
  seats = slice_set memory.seats t (record { phase = Some (first_phase memory.config t op); accesses = (seat_of memory t).accesses });
}
begun_of memory t op (Some refused) = memory

-- the memory after a beginning
abbrev pub begun : Memory → ℕ → Op → Memory
begun memory t op = begun_of memory t op (refusal_in memory t op)

-- what the word of a phase's next step is
abbrev pub value_in : Memory → Phase → HookAnswer → ℕ
value_in memory phase hook = slice_index memory.words (place (next_of phase hook).0)

-- what comes after that step, and the action that it adds
abbrev pub done_in : Memory → Phase → HookAnswer → Next Phase × Option Action
done_in memory phase hook = after_of phase (found_by (next_of phase hook).1 (value_in memory phase hook)) hook

-- the memory after the next step of a task at this phase
abbrev pub stepped_of : Memory → ℕ → HookAnswer → Option Phase → Memory
stepped_of memory t hook None = memory
stepped_of memory t hook (Some phase) = record {
  config = memory.config;
  words = slice_set memory.words (place (next_of phase hook).0) (left (next_of phase hook).1 (value_in memory phase hook));
  seats = slice_set memory.seats t (record {
    phase = phase_after (done_in memory phase hook).0;
    accesses = accesses_after (seat_of memory t).accesses (done_in memory phase hook).1;
  });
}

-- the memory after a task's next step
abbrev pub stepped : Memory → ℕ → HookAnswer → Memory
stepped memory t hook = stepped_of memory t hook (phase_in memory t)

-- how the operation of a task at this phase stands after its next step
abbrev pub progress_by : Memory → HookAnswer → Option Phase → Progress
progress_by memory hook None = Idle
progress_by memory hook (Some phase) = progress_of (done_in memory phase hook).0

-- how the operation of a task stands after its next step
abbrev pub progress_in : Memory → ℕ → HookAnswer → Progress
progress_in memory t hook = progress_by memory hook (phase_in memory t)

-- the hook whose answer a task's next step reads
abbrev pub hook_in : Memory → ℕ → Option HookKind
hook_in memory t = asked_by (phase_in memory t)
