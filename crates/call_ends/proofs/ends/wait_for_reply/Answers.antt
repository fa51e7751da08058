-- the rest goes on from where the line has led
use Rattle.call_ends.proofs.Prelude.{Go, Some, ap, asking_stands, map_next, refl, subst}
use Rattle.call_ends.proofs.Waited.{replied}
use Rattle.gate_steps.{proofs.call_events.Leading.seated_on, specs.call_events.Led.StaysSeated}
use Rattle.call_ends.proofs.ends.wait_for_reply.Goals as goal

pub step_waiting-requires : goal.step_waiting-requires
step_waiting-requires g c = asking_stands c.begin_in_line-next.ensures c.requires

pub returns-in-Done-clause-seated : goal.returns-in-Done-clause-seated
returns-in-Done-clause-seated g c =
    subst (λ n. StaysSeated c.args.gates.now (Some c.args.op) (Go (g.P.PendingOp.as_phase c.args.first)) c.args.accesses.now c.args.seat.now
    (map_next g.P.PendingOp.as_phase n) c.begin_in_line-next.new.accesses c.begin_in_line-next.new.seat) c.in-Done.is c.begin_in_line-next.ensures.seated

pub returns-in-Done-clause-called : goal.returns-in-Done-clause-called
returns-in-Done-clause-called g c of start before goes =
    replied g.H.TimedHooks.answers 0 0 refl (ap (λ n. map_next g.P.PendingOp.as_phase n) c.in-Done.is)
    (c.begin_in_line-next.ensures.went of start before 0 goes)

pub returns-clause-seated : goal.returns-clause-seated
returns-clause-seated g c = seated_on c.begin_in_line-next.ensures.seated c.step_waiting.ensures.seated

pub returns-clause-called : goal.returns-clause-called
returns-clause-called g c of start before goes =
    c.step_waiting.ensures.called of start before (c.begin_in_line-next.ensures.went of start before 0 goes)
