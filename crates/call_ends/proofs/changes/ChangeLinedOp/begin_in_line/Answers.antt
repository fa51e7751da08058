-- each part of the line goes on from what the one before it left
use Rattle.call_ends.proofs.Prelude.{led_on, led_unasked, refl, still_stands}
use Rattle.call_ends.proofs.changes.ChangeLinedOp.begin_in_line.Goals as goal

pub add_counts-next-requires : goal.add_counts-next-requires
add_counts-next-requires g c = still_stands c.begin_change-next.ensures c.requires

pub end_change-requires : goal.end_change-requires
end_change-requires g c = still_stands c.add_counts-next.ensures (still_stands c.begin_change-next.ensures c.requires)

pub returns : goal.returns
returns g c =
    led_unasked
    (led_on c.begin_change-next.ensures (led_on c.add_counts-next.ensures c.end_change.ensures))
    refl
