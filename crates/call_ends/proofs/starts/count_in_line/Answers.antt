-- each step of the line goes on from what the one before it left
use Rattle.call_ends.proofs.Prelude.{led_on, still_stands}
use Rattle.call_ends.proofs.starts.count_in_line.Goals as goal

pub step_if_at-next-requires : goal.step_if_at-next-requires
step_if_at-next-requires c = c.requires

pub step_if_at-next-requires-2 : goal.step_if_at-next-requires-2
step_if_at-next-requires-2 c = still_stands c.step_if_at-next.ensures c.requires

pub step_if_at-requires : goal.step_if_at-requires
step_if_at-requires c = still_stands c.step_if_at-next-2.ensures (still_stands c.step_if_at-next.ensures c.requires)

pub returns : goal.returns
returns c =
    led_on c.step_if_at-next.ensures (led_on c.step_if_at-next-2.ensures c.step_if_at.ensures)
