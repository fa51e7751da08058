-- the backup's receipt goes to the writer before its change
use Rattle.std.proofs.Common.{Ok, ap, false, subst, sym, true, ◌++◌, ◌∙◌}
use Rattle.vfs_gates.specs.{Op.TheVariants.ChangeMount, Runs.Performs, TaskStates.SeatedTask}
use Rattle.test_gates.proofs.InTime.{done_in_order}
use Rattle.test_gates.proofs.tests.in_time.shut_and_tell.Goals as goal

pub returns : goal.returns
returns g c =
    let old : SeatedTask = c.args.backup.now in
    let left : SeatedTask = c.receipt-told.new.self in
    let told = c.receipt-told.ensures in
    let first = subst (λ (s : SeatedTask). Performs (ChangeMount 0 true true) old s (Ok tt)) (sym told.same) c.in_ok-change_mount.ensures in
    let other : SeatedTask = c.args.writer.now in
    done_in_order (ChangeMount 0 true true) (ChangeMount 0 false true) old left other _ c.change_mount-2.new.self
    (c.requires.writer.1 ∙ sym c.requires.backup.1)
    (c.take_in.ensures ∙ ap (λ l. record other { seen = other.seen ++ l }) (told.given.1 ∙ sym (ap (λ (s : SeatedTask). s.seen) told.same)))
    c.change_mount-2.result first c.change_mount-2.ensures
