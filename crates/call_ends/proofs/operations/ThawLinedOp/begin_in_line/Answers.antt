-- the operation stands at its first step
use Rattle.call_ends.proofs.Prelude.{asking_from, stands_from}
use Rattle.call_ends.proofs.Beginning.{thaw_begun}
use Rattle.call_ends.proofs.operations.ThawLinedOp.begin_in_line.Goals as goal

pub thaw_first-requires : goal.thaw_first-requires
thaw_first-requires g c =
    stands_from (thaw_begun c.args.self c.requires.agrees) c.requires

pub returns : goal.returns
returns g c =
    asking_from (thaw_begun c.args.self c.requires.agrees) c.thaw_first.ensures
