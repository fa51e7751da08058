use Rattle.gate_steps.proofs.Prelude.{map_next}
use Rattle.gate_steps.proofs.call_events.Turning.{acts_so, adds_so, inside_so, stay_agrees, stepped_so}
use Rattle.gate_steps.proofs.call_events.turns.do_event.Goals as goal

pub event-event-requires-clause-table : goal.event-event-requires-clause-table
event-event-requires-clause-table g c = c.requires.table

pub event-event-requires-clause-inside : goal.event-event-requires-clause-inside
event-event-requires-clause-inside g c =
    inside_so c.args.gates.now.config c.args.gates.now.table.shared.key c.args.gates.now.key c.args.begins
    (g.P.PendingOp.as_phase c.args.under_way)
    c.args.accesses.now c.args.seat.now.me.0.items c.requires.agrees c.args.hook

pub event-event-requires-clause-acts : goal.event-event-requires-clause-acts
event-event-requires-clause-acts g c =
    acts_so c.args.gates.now.config c.args.gates.now.table.shared.key c.args.gates.now.key c.args.begins
    (g.P.PendingOp.as_phase c.args.under_way)
    c.args.accesses.now c.args.seat.now.me.0.items c.requires.agrees c.args.hook

pub apply-requires : goal.apply-requires
apply-requires g c =
    adds_so c.args.gates.now.config c.args.gates.now.table.shared.key c.args.gates.now.key c.args.begins
    (g.P.PendingOp.as_phase c.args.under_way)
    c.args.accesses.now c.args.seat.now.me.0.items c.requires.agrees c.args.hook
    c.event-event.result.found c.event-event.result c.event-event.ensures.is
    (map_next g.P.PendingOp.as_phase c.after-next.result.0, c.after-next.result.1) c.after-next.ensures

pub returns-clause-seated : goal.returns-clause-seated
returns-clause-seated g c = record {
  same_table = c.event-event.ensures.table;
  same_slots = c.event-event.ensures.slots;
  agrees =
      stay_agrees c.args.gates.now.config c.args.gates.now.table.shared.key c.args.gates.now.key c.args.begins
      (g.P.PendingOp.as_phase c.args.under_way)
      c.args.accesses.now c.apply.new.self c.args.hook c.args.seat.now.me.0.items c.event-event.new.seat.me.0.items
      c.event-event.result.found c.event-event.result c.event-event.ensures.is
      (map_next g.P.PendingOp.as_phase c.after-next.result.0, c.after-next.result.1) c.after-next.ensures c.apply.ensures
      c.event-event.ensures.event;
}

pub returns-clause-stepped : goal.returns-clause-stepped
returns-clause-stepped g c =
    let agrees = c.requires.agrees in
    stepped_so c.args.gates.now.config c.args.gates.now.table.shared.key c.args.gates.now.key c.args.begins
    (g.P.PendingOp.as_phase c.args.under_way)
    c.args.accesses.now c.apply.new.self c.args.hook c.args.seat.now.me.0.items c.event-event.new.seat.me.0.items
    c.event-event.result.found c.event-event.result c.event-event.ensures.is
    (map_next g.P.PendingOp.as_phase c.after-next.result.0, c.after-next.result.1) c.after-next.ensures c.apply.ensures
    c.event-event.ensures.event agrees.number agrees.flags agrees.ghost_agrees c.args.seat.now.me.0.seen c.event-event.new.seat.me.0.seen
    c.event-event.ensures.moves c.event-event.new.seat.table_id c.args.seat.now.table_id c.event-event.ensures.table
