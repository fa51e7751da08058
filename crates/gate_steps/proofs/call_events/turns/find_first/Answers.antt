-- the step is known, so what it left of the task's fields and what comes after it are
use Rattle.gate_steps.proofs.Prelude.{Ok, Some}
use Rattle.gate_steps.proofs.call_events.{Leading.led_by, Turning.{acts_so, inside_so}}
use Rattle.gate_steps.proofs.call_events.turns.find_first.Goals as goal

pub touch-requires-clause-table : goal.touch-requires-clause-table
touch-requires-clause-table g c = c.requires.stands.table

pub touch-requires-clause-inside : goal.touch-requires-clause-inside
touch-requires-clause-inside g c =
    inside_so c.args.gates.now.config c.args.gates.now.table.shared.key c.args.gates.now.key (Some c.args.op) (g.P.PendingOp.as_phase c.args.under_way)
    c.args.accesses.now c.args.seat.now.me.0.items c.requires.stands.agrees (Ok tt)

pub touch-requires-clause-acts : goal.touch-requires-clause-acts
touch-requires-clause-acts g c =
    acts_so c.args.gates.now.config c.args.gates.now.table.shared.key c.args.gates.now.key (Some c.args.op) (g.P.PendingOp.as_phase c.args.under_way)
    c.args.accesses.now c.args.seat.now.me.0.items c.requires.stands.agrees (Ok tt)

pub returns-clause-led : goal.returns-clause-led
returns-clause-led g c =
    led_by c.args.gates.now (Some c.args.op) (g.P.PendingOp.as_phase c.args.under_way) c.args.accesses.now c.args.accesses.now c.args.seat.now
    c.touch.new.seat (Ok tt) c.touch.result (c.args.word, c.args.touch) c.requires.known c.touch.ensures.found
    (c.requires.leaves c.touch.result) c.requires.stands c.touch.ensures.event c.touch.ensures.moves c.touch.ensures.table
    c.touch.ensures.slots c.requires.unasked
