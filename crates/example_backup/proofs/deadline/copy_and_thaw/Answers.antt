-- a snapshot and a thaw take nothing
use Rattle.std.proofs.Common.{refl}
use Rattle.vfs_gates.proofs.Rounds.{rests_after}
use Rattle.example_backup.proofs.deadline.copy_and_thaw.Goals as goal

pub returns-in_err-thaw-clause-rests : goal.returns-in_err-thaw-clause-rests
returns-in_err-thaw-clause-rests g c = rests_after refl (rests_after refl c.requires.rests c.snapshot-taken.ensures) c.thaw.ensures.replies
