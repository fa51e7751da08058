-- what the first change left is seen over a further call and the split
use Rattle.std.proofs.Common.{Ok, ap, subst, sym, true, ◌∙◌}
use Rattle.vfs_gates.{proofs.Rounds.seen_after, specs.{Grown.StaySeen, Op.TheVariants.ChangeMount, TaskStates.SeatedTask}}
use Rattle.test_gates.proofs.InTime.{behind_it}
use Rattle.test_gates.proofs.tests.in_time.shut_by_a_new_task.Goals as goal

pub returns : goal.returns
returns g c =
    let first = c.in_ok-change_mount.ensures in
    let further = c.in_ok-change_mount-2.ensures in
    let split = c.in_ok-child.ensures.made in
    let left : SeatedTask = c.change_mount.new.self in
    let begins : SeatedTask = c.in_ok-child.child in record {
      left = left;
      first = first;
      begins = begins;
      behind = behind_it (ChangeMount 0 true true) (ChangeMount 0 true true) _ left begins _ first c.in_ok-change_mount-3.ensures
          (ap (λ (s : SeatedTask). s.config) split.given ∙ further.config)
          (subst (StaySeen left.seen) (sym (ap (λ (s : SeatedTask). s.seen) split.given)) (seen_after {outcome = Ok tt} further));
    }
