-- an operation that the line goes on with has one step more
use Rattle.call_ends.proofs.Prelude.{Ok, ap, led_from, led_nowhere, led_once, led_to, map_next, stands_from, sym}
use Rattle.call_ends.proofs.lines.step_if_at.Goals as goal

pub step_once-requires : goal.step_once-requires
step_once-requires g c = stands_from (ap (λ n. map_next g.P.PendingOp.as_phase n) (sym c.in-Go.is)) c.requires

pub returns-then-goes_on : goal.returns-then-goes_on
returns-then-goes_on g c =
    led_from (ap (λ n. map_next g.P.PendingOp.as_phase n) (sym c.in-Go.is))
    (led_once (Ok tt) c.is_at-goes_on.ensures c.step_once.ensures.seated c.step_once.ensures.asks)

pub returns-else-goes_on : goal.returns-else-goes_on
returns-else-goes_on g c =
    led_to (ap (λ n. map_next g.P.PendingOp.as_phase n) c.in-Go.is)
    (led_nowhere c.args.gates.now (map_next g.P.PendingOp.as_phase c.args.next) c.args.accesses.now c.args.seat.now)

pub returns-in-Wait : goal.returns-in-Wait
returns-in-Wait g c =
    led_to (ap (λ n. map_next g.P.PendingOp.as_phase n) c.in-Wait.is)
    (led_nowhere c.args.gates.now (map_next g.P.PendingOp.as_phase c.args.next) c.args.accesses.now c.args.seat.now)

pub returns-in-Done : goal.returns-in-Done
returns-in-Done g c =
    led_to (ap (λ n. map_next g.P.PendingOp.as_phase n) c.in-Done.is)
    (led_nowhere c.args.gates.now (map_next g.P.PendingOp.as_phase c.args.next) c.args.accesses.now c.args.seat.now)
