-- the return goes on from what `reconfigure` has answered
use Rattle.call_ends.proofs.Prelude.{asking_on, asking_stands, led_unasked, refl}
use Rattle.call_ends.proofs.remount_lines.make_writable.Goals as goal

pub release-requires : goal.release-requires
release-requires g c = asking_stands c.in_default.ensures.1 c.requires

pub returns : goal.returns
returns g c = asking_on c.in_default.ensures.1 (led_unasked c.release.ensures refl)
