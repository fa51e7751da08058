use Rattle.std.specs.Slots.{slots_items}
use Rattle.gate_steps.proofs.Closing.{closes}
use Rattle.gate_steps.proofs.tables.close.Goals as goal

pub returns-clause-closing : goal.returns-clause-closing
returns-clause-closing c =
    let closed = c.close_with.result in
    closes c.args.table.shared.key c.args.seat.id c.args.seat.me.0 (slots_items closed.words)
    (slots_items closed.slots) c.close_with.ensures.values.2
