use Rattle.gate_steps.proofs.Prelude.{map_next}
use Rattle.gate_steps.proofs.call_events.Turning.{went_with_so}
use Rattle.gate_steps.proofs.call_events.turns.step_once.Goals as goal

pub do_event-next-requires : goal.do_event-next-requires
do_event-next-requires g c = c.requires

pub returns-clause-seated : goal.returns-clause-seated
returns-clause-seated g c = c.do_event-next.ensures.seated

pub returns-clause-asks : goal.returns-clause-asks
returns-clause-asks g c op start asks waits goes =
    went_with_so c.args.gates.now.config c.args.gates.now.within op start c.do_event-next.result.event c.do_event-next.result.action
    (map_next g.P.PendingOp.as_phase c.do_event-next.result.next) c.args.hook asks waits
    goes c.do_event-next.ensures.stepped
