-- the writer's receipt goes to the backup before the change, and the backup's to the writer after it
use Rattle.std.proofs.Common.{◌++◌, sym, ap, ◌∙◌, subst, true}
use Rattle.vfs_gates.proofs.{Grown.{both_stay_seen}, Returning.{was_done}, several_tasks.Beside.{met_again, write_held}, several_tasks.Heard.{heard_refused}}
use Rattle.vfs_gates.specs.{Grown.{StaySeen}, Op.TheVariants.{ChangeMount, DropWrite, WantWrite}, Rounds.{Performs, SeatedTask}}
use Rattle.test_gates.proofs.tests.meetings.change_between_words.Goals as goal

pub returns : goal.returns
returns g c = λ done.
    let want = c.in_ok-want_write.ensures in
    let took = was_done (WantWrite 0 0) _ _ want in
    let change = was_done (ChangeMount 0 true true) _ _
    (subst (Performs (ChangeMount 0 true true) c.take_in.new.self c.change_mount-change.new.self) done c.change_mount-change.ensures) in
    let gave = was_done (DropWrite 0 0) _ _ c.in_ok-drop_write.ensures in
    let held = c.receipt-held.ensures in
    let tried = c.receipt-tried.ensures in
    let told = c.take_in.ensures in
    let heard = c.take_in-2.ensures in
    let holder : SeatedTask = c.want_write.new.self in
    let asks : SeatedTask = c.take_in-2.new.self in
    heard_refused 0 true (WantWrite 0 0) (DropWrite 0 0) _ holder asks _ c.take_in.new.self c.change_mount-change.new.self _ _ change.reply took.called
    (write_held want) change.called (ap (λ (s : SeatedTask). s.config) told ∙ (c.requires.backup.1 ∙ sym (want.config ∙ c.requires.writer.1)))
    (subst (λ l. StaySeen l c.take_in.new.self.seen) held.given.1
    (subst (StaySeen c.receipt-held.result.seen) (sym (ap (λ (s : SeatedTask). s.seen) told))
    (both_stay_seen c.args.backup.now.seen c.receipt-held.result.seen).1))
    gave.called (met_again holder c.receipt-held.new.self asks holder.seen (c.receipt-held.new.self.seen ++ c.receipt-tried.result.seen) held.same heard)
    (subst (λ l. StaySeen l asks.seen) tried.given.1
    (subst (StaySeen c.receipt-tried.result.seen) (sym (ap (λ (s : SeatedTask). s.seen) heard))
    (both_stay_seen c.receipt-held.new.self.seen c.receipt-tried.result.seen).1))
