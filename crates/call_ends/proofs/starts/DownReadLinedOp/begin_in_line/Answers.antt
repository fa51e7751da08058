-- each step of the line goes on from what the one before it left
use Rattle.call_ends.proofs.Prelude.{Ok, led_on, led_once, led_unasked, refl, seated_stands}
use Rattle.call_ends.proofs.starts.DownReadLinedOp.begin_in_line.Goals as goal

pub count_in_line-requires : goal.count_in_line-requires
count_in_line-requires g c = seated_stands c.step_once-next.ensures.seated c.requires

pub returns : goal.returns
returns g c =
    led_unasked
    (led_on (led_once (Ok tt) refl c.step_once-next.ensures.seated c.step_once-next.ensures.asks) c.count_in_line.ensures)
    refl
