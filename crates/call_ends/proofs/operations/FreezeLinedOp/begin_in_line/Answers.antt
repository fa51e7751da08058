-- the operation stands at its first step
use Rattle.call_ends.proofs.Prelude.{asking_from, stands_from}
use Rattle.call_ends.proofs.Beginning.{freeze_begun}
use Rattle.call_ends.proofs.operations.FreezeLinedOp.begin_in_line.Goals as goal

pub freeze_first-requires : goal.freeze_first-requires
freeze_first-requires g c =
    stands_from (freeze_begun c.args.self c.requires.agrees) c.requires

pub returns : goal.returns
returns g c =
    asking_from (freeze_begun c.args.self c.requires.agrees) c.freeze_first.ensures
