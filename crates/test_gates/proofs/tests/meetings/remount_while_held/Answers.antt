-- the tasks meet before the remount and after it
use Rattle.vfs_gates.proofs.several_tasks.Beside.{beside_busy, write_held}
use Rattle.test_gates.proofs.tests.meetings.remount_while_held.Goals as goal

pub returns : goal.returns
returns g c =
    beside_busy 0 _ _ _ _ _ _ _ _ (write_held c.in_ok-want_write.ensures) c.meet.ensures c.meet-2.ensures c.remount_sb-remount.ensures.replies
