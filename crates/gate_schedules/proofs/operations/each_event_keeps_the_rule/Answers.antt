use Rattle.gate_schedules.proofs.operations.AllOperations.{phase_keeps}
use Rattle.gate_schedules.proofs.operations.each_event_keeps_the_rule.Goals as goal

pub returns-clause-keeps : goal.returns-clause-keeps
returns-clause-keeps g = λ c within w good t lt hook phase e. (phase_keeps c phase).step within w good t lt hook e

pub returns-clause-completes : goal.returns-clause-completes
returns-clause-completes g = λ c within w good t lt hook phase e. (phase_keeps c phase).completes within w good t lt hook e
