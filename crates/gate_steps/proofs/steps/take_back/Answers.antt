use Rattle.gate_steps.proofs.Prelude.{arith}
use Rattle.gate_steps.proofs.Giving.{joins}
use Rattle.gate_steps.proofs.steps.take_back.Goals as goal

pub join_seat-requires : goal.join_seat-requires
join_seat-requires c = (
  c.requires.table.0,
  c.requires.table.1,
  c.requires.slots,
  (let w = c.requires.words in omega arith),
  joins c.args.shared.now.key c.args.seat.now.id c.args.other.id c.args.seat.now.me.0 c.args.other.me.0,
)
