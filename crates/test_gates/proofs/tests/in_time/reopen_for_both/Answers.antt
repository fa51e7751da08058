-- what the other's change left is seen over the join
use Rattle.std.proofs.Common.{ap, false, subst, sym, true, ◌∙◌}
use Rattle.vfs_gates.{proofs.Grown.both_stay_seen, specs.{Grown.StaySeen, Op.TheVariants.ChangeMount, Runs.Performs, TaskStates.SeatedTask}}
use Rattle.test_gates.{proofs.InTime.{behind_it, where_done}, specs.InTime.ComesAfterTheOther}
use Rattle.test_gates.proofs.tests.in_time.reopen_for_both.Goals as goal

pub returns : goal.returns
returns g c =
    let other : SeatedTask = c.args.other in
    let gone : SeatedTask = c.change_mount.new.self in
    let both : SeatedTask = c.join.new.self in
    let left : SeatedTask = c.change_mount-2.new.self in
    let first = c.in_ok-change_mount.ensures in
    let joined = c.in_default.ensures.joined.4 in
    let stays : StaySeen gone.seen both.seen =
    subst (StaySeen gone.seen) (sym (ap (λ (s : SeatedTask). s.seen) joined)) (both_stay_seen c.args.task.now.seen gone.seen).1 in
    where_done c.change_mount-2.result (ComesAfterTheOther (ChangeMount 0 true true) other left) (λ is.
    record {
      gone = gone;
      first = first;
      both = both;
      behind = behind_it (ChangeMount 0 true true) (ChangeMount 0 false true) other gone both left first
          (subst (Performs (ChangeMount 0 false true) both left) is c.change_mount-2.ensures)
          (c.in_default.ensures.config ∙ (c.requires.task.1 ∙ sym (first.config ∙ c.requires.other.1))) stays;
    })
