-- the operation stands at its first step
use Rattle.call_ends.proofs.Prelude.{asking_from, stands_from}
use Rattle.call_ends.proofs.Beginning.{remount_begun}
use Rattle.call_ends.proofs.operations.RemountLinedOp.begin_in_line.Goals as goal

pub remount_first-requires : goal.remount_first-requires
remount_first-requires g c =
    stands_from (remount_begun c.args.self c.requires.agrees) c.requires

pub returns : goal.returns
returns g c =
    asking_from (remount_begun c.args.self c.requires.agrees) c.remount_first.ensures
