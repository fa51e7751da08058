use Rattle.gate_steps.proofs.Prelude.{arith, subst, ℕ}
use Rattle.gate_steps.{proofs.Giving.splits, specs.Seating.Spares}
use Rattle.gate_steps.proofs.steps.give_as.Goals as goal

pub split_seat-requires : goal.split_seat-requires
split_seat-requires g c = (
  c.requires.table,
  (let w = c.requires.words in omega arith),
  splits c.args.shared.now.key c.args.seat.now.id g.J.Given.number c.args.seat.now.me.0.items c.args.seat.now.me.0.seen
      (subst (λ (n : ℕ). Spares n c.args.seat.now.me.0.items) c.requires.number c.requires.spare),
)
