use Rattle.gate_steps.proofs.Prelude.{arith}
use Rattle.gate_steps.proofs.Looking.{divides}
use Rattle.gate_steps.proofs.meeting.divide_as.Goals as goal

pub split_seat-requires : goal.split_seat-requires
split_seat-requires g c = (
  c.requires.table,
  (let w = c.requires.words in omega arith),
  divides c.args.shared.now.key c.args.seat.now.id c.args.seat.now.me.0.items g.J.Divided.mine g.J.Divided.others c.args.seat.now.me.0.seen
      c.requires.divided,
)
