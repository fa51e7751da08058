-- by cases on the phase
use Rattle.gate_schedules.proofs.frames.Hooks.{ignores}
use Rattle.gate_schedules.proofs.operations.an_event_ignores_answers_that_it_does_not_read.Goals as goal

pub returns : goal.returns
returns g = ignores
