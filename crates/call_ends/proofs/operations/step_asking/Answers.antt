-- the hook that the step reads was asked right before it
use Rattle.call_ends.proofs.Prelude.{sym, ◌∙◌}
use Rattle.call_ends.proofs.operations.step_asking.Goals.{in-None, in-Some}
use Rattle.gate_steps.{proofs.call_events.Asking.{AskedFor, asks_more, was_asked, was_not}, specs.call_events.Asking.{asks_with, call_at}}
use Rattle.call_ends.proofs.operations.step_asking.Goals as goal

pub step_once-requires : goal.step_once-requires
step_once-requires g c = c.requires

pub returns : goal.returns
returns g c =
    let wanted = call_at (g.P.PendingOp.as_phase c.args.under_way) in
    let at = c.args.seat.now.me.0.items in
    let asked : AskedFor g.H.TimedHooks.answers wanted at c.match-asks.hook c.args.hooks.now c.match-asks.hooks =
    elim c.match-asks.branch [
      | in-Some w ↦ was_asked g.H.TimedHooks.answers wanted at w.in-Some.call (sym c.asks.ensures ∙ w.in-Some.is)
          c.match-asks.hook c.args.hooks.now c.match-asks.hooks _ w.hook-is _ w.hooks-is w.ask-hook.ensures
      | in-None w ↦ was_not g.H.TimedHooks.answers wanted at (sym c.asks.ensures ∙ w.in-None.is)
          c.match-asks.hook c.args.hooks.now c.match-asks.hooks w.hooks-is
    ] in record {
      seated = c.step_once.ensures.seated;
      went = λ op start before waits goes. (
        asks_with wanted at c.match-asks.hook goes.0,
        c.step_once.ensures.asks op start goes.0 waits goes.1,
        asks_more g.H.TimedHooks.answers wanted at c.match-asks.hook goes.0 before c.args.hooks.now c.match-asks.hooks goes.2 asked,
      );
    }
