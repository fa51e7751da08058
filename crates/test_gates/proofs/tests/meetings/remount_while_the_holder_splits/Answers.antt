-- the backup meets both tasks that may have the number
use Rattle.std.proofs.Common.{subst, sym}
use Rattle.{gate_steps.specs.Seating.HaveHistory, gate_world.specs.declared.config.Config.Config}
use Rattle.vfs_gates.{proofs.{Returning.was_done, several_tasks.Beside.write_held}, specs.{Op.TheVariants.WantWrite, TaskStates.SeatedTask}}
use Rattle.test_gates.proofs.Splits.{split_refuses, took_number}
use Rattle.test_gates.proofs.tests.meetings.remount_while_the_holder_splits.Goals as goal

pub returns : goal.returns
returns g c =
    let want = c.in_ok-want_write.ensures in
    let took = was_done (WantWrite 0 0) _ _ want in
    let holder : SeatedTask = c.want_write.new.self in
    split_refuses 0 _ holder _ _ _ _ _ _ _ _ _ (write_held want) (took_number (WantWrite 0 0) _ holder want)
    (subst (λ (k : Config). HaveHistory k holder.items holder.seen) (sym want.config) took.called.history) c.meet.ensures
    c.in_ok-third.ensures.made c.remount_sb-remount.ensures.replies.config c.meet-2.ensures c.meet-3.ensures _ c.remount_sb-remount.ensures.replies
