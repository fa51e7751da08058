-- the second step goes on from what the first one left
use Rattle.call_ends.proofs.Prelude.{Ok, led_on, led_once, led_unasked, refl, seated_stands}
use Rattle.call_ends.proofs.closes.ClosePhaseLinedOp.begin_in_line.Goals as goal

pub step_if_at-requires : goal.step_if_at-requires
step_if_at-requires g c = seated_stands c.step_once-next.ensures.seated c.requires

pub returns : goal.returns
returns g c =
    led_unasked
    (led_on (led_once (Ok tt) refl c.step_once-next.ensures.seated c.step_once-next.ensures.asks)
    c.step_if_at.ensures)
    refl
