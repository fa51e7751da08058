-- an operation that does not go on has no line
use Rattle.call_ends.proofs.Prelude.{ap, asking_from, led_nowhere, led_to, led_unasked, map_next, refl, stands_from, sym}
use Rattle.call_ends.proofs.operations.go_on_in_line.Goals as goal

pub run_fast_path-requires : goal.run_fast_path-requires
run_fast_path-requires g c = stands_from (ap (λ n. map_next g.P.PendingOp.as_phase n) (sym c.in-Go.is)) c.requires

pub returns-in-Go : goal.returns-in-Go
returns-in-Go g c = asking_from (ap (λ n. map_next g.P.PendingOp.as_phase n) (sym c.in-Go.is)) c.run_fast_path.ensures

pub returns-in-Wait : goal.returns-in-Wait
returns-in-Wait g c =
    led_unasked (led_to (ap (λ n. map_next g.P.PendingOp.as_phase n) c.in-Wait.is)
    (led_nowhere c.args.gates.now (map_next g.P.PendingOp.as_phase c.args.next) c.args.accesses.now c.args.seat.now)) refl

pub returns-in-Done : goal.returns-in-Done
returns-in-Done g c =
    led_unasked (led_to (ap (λ n. map_next g.P.PendingOp.as_phase n) c.in-Done.is)
    (led_nowhere c.args.gates.now (map_next g.P.PendingOp.as_phase c.args.next) c.args.accesses.now c.args.seat.now)) refl
