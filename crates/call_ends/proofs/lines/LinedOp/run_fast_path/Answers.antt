-- no step
use Rattle.call_ends.proofs.Prelude.{Go, led_nowhere, led_unasked, refl}
use Rattle.call_ends.proofs.lines.LinedOp.run_fast_path.Goals as goal

pub returns : goal.returns
returns g c = led_unasked (led_nowhere c.args.gates.now (Go (g.Self.PendingOp.as_phase c.args.self)) c.args.accesses.now c.args.seat.now) refl
