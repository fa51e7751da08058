-- the operation stands at its first step
use Rattle.call_ends.proofs.Prelude.{led_from, led_unasked, refl, stands_from}
use Rattle.call_ends.proofs.Beginning.{callback_begun}
use Rattle.call_ends.proofs.operations.CallbackLinedOp.begin_in_line.Goals as goal

pub callback_first-requires : goal.callback_first-requires
callback_first-requires g c =
    stands_from (callback_begun c.args.self c.requires.agrees) c.requires

pub returns : goal.returns
returns g c =
    led_unasked (led_from (callback_begun c.args.self c.requires.agrees) c.callback_first.ensures) refl
