-- the stores go on from what `reconfigure` has answered
use Rattle.call_ends.proofs.Prelude.{asking_on, asking_stands, led_on, led_unasked, refl, still_stands}
use Rattle.call_ends.proofs.remount_lines.end_read_only.Goals as goal

pub find-cleared-requires-clause-stands : goal.find-cleared-requires-clause-stands
find-cleared-requires-clause-stands g c = asking_stands c.in_default.ensures.1 c.requires

pub release-requires : goal.release-requires
release-requires g c = still_stands c.find-cleared.ensures.led (asking_stands c.in_default.ensures.1 c.requires)

pub returns : goal.returns
returns g c =
    asking_on c.in_default.ensures.1 (led_unasked (led_on c.find-cleared.ensures.led c.release.ensures) refl)
