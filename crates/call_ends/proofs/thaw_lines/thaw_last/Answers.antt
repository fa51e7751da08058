-- the reopening goes on from what `unfreeze_fs` has answered
use Rattle.call_ends.proofs.Prelude.{asking_on, asking_stands, led_unasked, refl}
use Rattle.call_ends.proofs.Reopening.{leaves_last}
use Rattle.call_ends.proofs.thaw_lines.thaw_last.Goals as goal

pub find_asking-answer-requires-clause-leaves : goal.find_asking-answer-requires-clause-leaves
find_asking-answer-requires-clause-leaves g c =
    λ found hook. leaves_last c.args.thaw c.args.accesses.now found hook

pub reopen_all-requires : goal.reopen_all-requires
reopen_all-requires g c =
    asking_stands c.in_default.ensures.1 c.requires

pub returns : goal.returns
returns g c =
    asking_on c.in_default.ensures.1 (led_unasked c.reopen_all.ensures refl)
