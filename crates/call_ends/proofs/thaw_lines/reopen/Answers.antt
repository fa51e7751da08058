-- the exit goes on from the store
use Rattle.call_ends.proofs.Prelude.{led_on, still_stands}
use Rattle.call_ends.proofs.thaw_lines.reopen.Goals as goal

pub exit-requires : goal.exit-requires
exit-requires c = still_stands c.find-cleared.ensures.led c.requires

pub returns : goal.returns
returns c = led_on c.find-cleared.ensures.led c.exit.ensures
