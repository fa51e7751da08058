use Rattle.gate_schedules.proofs.schedules.HeadlineProof.{whole_rule}
use Rattle.gate_schedules.proofs.schedules.every_schedule_keeps_the_rule.Goals as goal

pub returns : goal.returns
returns c = record { rule = whole_rule }
