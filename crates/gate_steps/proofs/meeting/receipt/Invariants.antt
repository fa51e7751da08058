use Rattle.gate_steps.proofs.Prelude.{[]}
use Rattle.gate_steps.proofs.meeting.receipt.Given as goal

abbrev pub ghosts-divide_as : goal.ghosts-divide_as
ghosts-divide_as a = record { mine = a.seat.now.me.0.items; others = [] }
