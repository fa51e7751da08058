-- each step goes on from what the one before it left, and fewer are left
use Rattle.call_ends.proofs.Prelude.{None, ap, map_next, refl, ◌∙◌}
use Rattle.gate_world.specs.Views.{phase_after}
use Rattle.gate_steps.proofs.call_events.{Onward.{agrees_so, called_so, done_at, falls_so, goes_so, stands_at, tries_so}, Turning.went_so}
use Rattle.call_ends.proofs.ends.run_to_reply.Goals as goal

pub loop-answer-init : goal.loop-answer-init
loop-answer-init g c = record {
  table = refl;
  slots = refl;
  agrees = c.requires.stands.agrees;
  trying = c.requires.trying;
  stay = λ number flags ghost_agrees. ghost_agrees;
  goes = λ of start goes. goes;
}

pub do_event-next-requires : goal.do_event-next-requires
do_event-next-requires g c =
    let now = c.loop-answer.invariant in
    record { table = now.table ∙ c.requires.stands.table; agrees = now.agrees }

pub returns-in-Done-clause-seated : goal.returns-in-Done-clause-seated
returns-in-Done-clause-seated g c =
    let now = c.loop-answer.invariant in
    let left = c.do_event-next.ensures.seated in
    record {
      same_table = left.same_table ∙ now.table;
      same_slots = left.same_slots ∙ now.slots;
      agrees = λ number flags ghost_agrees.
          agrees_so number c.args.gates.now.config c.do_event-next.new.accesses flags c.do_event-next.new.seat.me.0.items _ None
          (ap (λ n. phase_after n) (done_at g.P.PendingOp.as_phase c.do_event-next.result.next c.in-Done.answer c.in-Done.is))
          (left.agrees number flags (now.stay number flags ghost_agrees));
    }

pub returns-in-Done-clause-called : goal.returns-in-Done-clause-called
returns-in-Done-clause-called g c of start goes =
    called_so of start (map_next g.P.PendingOp.as_phase c.do_event-next.result.next) c.in-Done.answer c.do_event-next.new.seat.table_id
    c.args.gates.now.config c.do_event-next.new.seat.me.0
    (done_at g.P.PendingOp.as_phase c.do_event-next.result.next c.in-Done.answer c.in-Done.is)
    (went_so c.args.gates.now.config c.args.gates.now.within of start c.do_event-next.result.event c.do_event-next.result.action
    (map_next g.P.PendingOp.as_phase c.do_event-next.result.next) _ (c.loop-answer.invariant.goes of start goes) c.do_event-next.ensures.stepped)

pub loop-answer-smaller-in-Go : goal.loop-answer-smaller-in-Go
loop-answer-smaller-in-Go g c =
    falls_so c.args.gates.now.config c.args.gates.now.within c.do_event-next.result.event c.do_event-next.result.action
    (map_next g.P.PendingOp.as_phase c.do_event-next.result.next) _ c.do_event-next.ensures.stepped _
    (stands_at g.P.PendingOp.as_phase c.do_event-next.result.next c.in-Go.further c.in-Go.is) c.loop-answer.invariant.trying

pub loop-answer-smaller : goal.loop-answer-smaller
loop-answer-smaller g c =
    falls_so c.args.gates.now.config c.args.gates.now.within c.do_event-next.result.event c.do_event-next.result.action
    (map_next g.P.PendingOp.as_phase c.do_event-next.result.next) _ c.do_event-next.ensures.stepped _
    (stands_at g.P.PendingOp.as_phase c.do_event-next.result.next c.in-Go.further c.in-Go.is) c.loop-answer.invariant.trying

pub loop-answer-preserved-in-Go : goal.loop-answer-preserved-in-Go
loop-answer-preserved-in-Go g c =
    let now = c.loop-answer.invariant in
    let left = c.do_event-next.ensures.seated in
    let stepped = c.do_event-next.ensures.stepped in
    let next = map_next g.P.PendingOp.as_phase c.do_event-next.result.next in
    let is = stands_at g.P.PendingOp.as_phase c.do_event-next.result.next c.in-Go.further c.in-Go.is in
    let config = c.args.gates.now.config in
    let within = c.args.gates.now.within in
    let event = c.do_event-next.result.event in
    let action = c.do_event-next.result.action in
    let accesses = c.do_event-next.new.accesses in
    let items = c.do_event-next.new.seat.me.0.items in
    record {
      table = left.same_table ∙ now.table;
      slots = left.same_slots ∙ now.slots;
      agrees = record { number = now.agrees.number; flags = now.agrees.flags; ghost_agrees = agrees_so _ config accesses _ items _ _ is (left.agrees _ _ now.agrees.ghost_agrees) };
      trying = tries_so config within event action next _ stepped _ is now.trying;
      stay = λ number flags ghost_agrees. agrees_so number config accesses flags items _ _ is (left.agrees number flags (now.stay number flags ghost_agrees));
      goes = λ of start goes. goes_so config within event action next _ stepped _ is of start (now.goes of start goes);
    }

pub loop-answer-preserved : goal.loop-answer-preserved
loop-answer-preserved g c =
    let now = c.loop-answer.invariant in
    let left = c.do_event-next.ensures.seated in
    let stepped = c.do_event-next.ensures.stepped in
    let next = map_next g.P.PendingOp.as_phase c.do_event-next.result.next in
    let is = stands_at g.P.PendingOp.as_phase c.do_event-next.result.next c.in-Go.further c.in-Go.is in
    let config = c.args.gates.now.config in
    let within = c.args.gates.now.within in
    let event = c.do_event-next.result.event in
    let action = c.do_event-next.result.action in
    let accesses = c.do_event-next.new.accesses in
    let items = c.do_event-next.new.seat.me.0.items in
    record {
      table = left.same_table ∙ now.table;
      slots = left.same_slots ∙ now.slots;
      agrees = record { number = now.agrees.number; flags = now.agrees.flags; ghost_agrees = agrees_so _ config accesses _ items _ _ is (left.agrees _ _ now.agrees.ghost_agrees) };
      trying = tries_so config within event action next _ stepped _ is now.trying;
      stay = λ number flags ghost_agrees. agrees_so number config accesses flags items _ _ is (left.agrees number flags (now.stay number flags ghost_agrees));
      goes = λ of start goes. goes_so config within event action next _ stepped _ is of start (now.goes of start goes);
    }
