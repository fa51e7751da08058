-- the step is the one that the answer decides, and the hook was asked right before it
use Rattle.gate_steps.proofs.Prelude.{None, call_at, refl}
use Rattle.gate_steps.proofs.call_events.{Asking.was_asked, Leading.led_asking_by, Turning.{acts_so, inside_so}}
use Rattle.gate_steps.proofs.call_events.turns.find_asking.Goals as goal

pub touch-found-requires-clause-table : goal.touch-found-requires-clause-table
touch-found-requires-clause-table g c = c.requires.stands.table

pub touch-found-requires-clause-inside : goal.touch-found-requires-clause-inside
touch-found-requires-clause-inside g c =
    inside_so c.args.gates.now.config c.args.gates.now.table.shared.key c.args.gates.now.key None (g.P.PendingOp.as_phase c.args.under_way)
    c.args.accesses.now c.args.seat.now.me.0.items c.requires.stands.agrees c.ask-answer.result

pub touch-found-requires-clause-acts : goal.touch-found-requires-clause-acts
touch-found-requires-clause-acts g c =
    acts_so c.args.gates.now.config c.args.gates.now.table.shared.key c.args.gates.now.key None (g.P.PendingOp.as_phase c.args.under_way)
    c.args.accesses.now c.args.seat.now.me.0.items c.requires.stands.agrees c.ask-answer.result

pub returns : goal.returns
returns g c = (
  c.touch-found.result,
  led_asking_by c.args.gates.now None (g.P.PendingOp.as_phase c.args.under_way) c.args.accesses.now c.args.accesses.now c.args.seat.now
      c.touch-found.new.seat c.ask-answer.result c.touch-found.result (c.next-word.result.0, c.next-word.result.1) c.next-word.ensures
      c.touch-found.ensures.found (c.requires.leaves c.touch-found.result c.ask-answer.result) c.requires.stands
      c.touch-found.ensures.event c.touch-found.ensures.moves c.touch-found.ensures.table c.touch-found.ensures.slots
      g.H.TimedHooks.answers c.args.hooks.now c.ask-answer.new.self
      (was_asked g.H.TimedHooks.answers (call_at (g.P.PendingOp.as_phase c.args.under_way)) c.args.seat.now.me.0.items c.args.call c.requires.wanted
      c.ask-answer.result c.args.hooks.now c.ask-answer.new.self c.ask-answer.result refl c.ask-answer.new.self refl c.ask-answer.ensures),
)
