-- the transition goes on from the grace period
use Rattle.call_ends.proofs.Prelude.{led_on, still_stands}
use Rattle.call_ends.proofs.callbacks.run_callback.Goals as goal

pub call_back-requires : goal.call_back-requires
call_back-requires c = still_stands c.in_default.ensures c.requires

pub returns : goal.returns
returns c = led_on c.in_default.ensures c.call_back.ensures
