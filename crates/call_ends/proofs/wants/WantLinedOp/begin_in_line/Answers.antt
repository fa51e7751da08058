-- each step of the line goes on from what the one before it left
use Rattle.call_ends.proofs.Prelude.{Ok, led_on, led_once, led_unasked, refl, seated_stands, still_stands}
use Rattle.call_ends.proofs.wants.WantLinedOp.begin_in_line.Goals as goal

pub step_if_at-next-requires : goal.step_if_at-next-requires
step_if_at-next-requires g c = seated_stands c.step_once-next.ensures.seated c.requires

pub ask_in_line-requires : goal.ask_in_line-requires
ask_in_line-requires g c =
    still_stands c.step_if_at-next.ensures (seated_stands c.step_once-next.ensures.seated c.requires)

pub returns : goal.returns
returns g c =
    led_unasked
    (led_on (led_once (Ok tt) refl c.step_once-next.ensures.seated c.step_once-next.ensures.asks)
    (led_on c.step_if_at-next.ensures c.ask_in_line.ensures))
    refl
