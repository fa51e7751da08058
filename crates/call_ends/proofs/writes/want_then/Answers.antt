-- each step of the line goes on from what the one before it left
use Rattle.call_ends.proofs.Prelude.{led_on, still_stands}
use Rattle.call_ends.proofs.writes.want_then.Goals as goal

pub step_if_at-next-requires : goal.step_if_at-next-requires
step_if_at-next-requires c = c.requires

pub step_if_at-next-requires-2 : goal.step_if_at-next-requires-2
step_if_at-next-requires-2 c = still_stands c.step_if_at-next.ensures c.requires

pub step_if_at-next-requires-3 : goal.step_if_at-next-requires-3
step_if_at-next-requires-3 c = still_stands c.step_if_at-next-2.ensures (still_stands c.step_if_at-next.ensures c.requires)

pub step_if_at-next-requires-4 : goal.step_if_at-next-requires-4
step_if_at-next-requires-4 c = still_stands c.step_if_at-next-3.ensures (still_stands c.step_if_at-next-2.ensures (still_stands c.step_if_at-next.ensures c.requires))

pub step_if_at-requires : goal.step_if_at-requires
step_if_at-requires c = still_stands c.step_if_at-next-4.ensures (still_stands c.step_if_at-next-3.ensures (still_stands c.step_if_at-next-2.ensures (still_stands c.step_if_at-next.ensures c.requires)))

pub returns : goal.returns
returns c =
    led_on c.step_if_at-next.ensures
    (led_on c.step_if_at-next-2.ensures
    (led_on c.step_if_at-next-3.ensures
    (led_on c.step_if_at-next-4.ensures
    c.step_if_at.ensures)))
