-- the tasks meet before the change and after it
use Rattle.std.proofs.Common.{ap, refl, subst, sym, ◌<◌, ◌∙◌}
use Rattle.vfs_gates.proofs.{Rounds.{from_after, from_met, rests_after, times_stay}, several_tasks.Beside.{met_again, rests_busy}}
use Rattle.vfs_gates.specs.Rounds.{Rests, SeatedTask, times}
use Rattle.example_first.proofs.two_tasks.change_while_held.Goals as goal

pub returns : goal.returns
returns g c =
    let once = c.meet.ensures in
    let again = c.meet-2.ensures in
    let call = c.change_mount-outcome.ensures in
    let rests = subst Rests (sym once.first) c.requires.rests in
    let gates = c.args.gates.now in
    record {
      busy = rests_busy c.args.mount _ _ _ _ _ _ _ _ c.requires.holds once again rests
          (subst (λ (s : SeatedTask). c.args.mount < s.config.mounts) (sym once.first) c.requires.mount) call;
      from = from_met gates c.change_mount-outcome.new.self _ again.seen again.first
          (from_after gates call (from_met gates c.args.backup.now _ once.seen once.first c.requires.backup));
      rests = subst Rests (sym again.first) (rests_after refl rests call);
      numbers = λ n. ap (λ (s : SeatedTask). times n s.items) again.first ∙
          (times_stay call n ∙ ap (λ (s : SeatedTask). times n s.items) once.first);
      writer = met_again c.args.writer.now c.meet.new.other _ once.seen again.seen once.second again.second;
    }
