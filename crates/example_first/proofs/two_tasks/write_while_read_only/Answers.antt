-- the tasks meet before the change, after it, and after the other's call
use Rattle.std.proofs.Common.{refl, subst, sym, true, ◌<◌}
use Rattle.vfs_gates.proofs.{Rounds.{from_after, from_met}, several_tasks.{Beside.met_again, BothShut.both_read_only}}
use Rattle.vfs_gates.specs.Rounds.{Rests, SeatedTask}
use Rattle.example_first.proofs.two_tasks.write_while_read_only.Goals as goal

pub returns : goal.returns
returns g c =
    let gates = c.args.gates.now in
    let once = c.meet.ensures in
    let again = c.meet-2.ensures in
    let last = c.meet-3.ensures in
    let still = met_again c.args.writer.now c.meet.new.other c.meet-2.new.other once.seen again.seen once.second again.second in
    record {
      read_only = both_read_only c.args.mount true _ _ _ _ _ _ _ _ _ _ _ _ refl once c.in_ok-change_mount.ensures again
          c.want_write-late.ensures last c.requires.all c.args.cpu refl (subst Rests (sym still) c.requires.rests)
          (subst (λ (s : SeatedTask). c.args.mount < s.config.mounts) (sym still) c.requires.mount)
          (subst (λ (s : SeatedTask). c.args.cpu < s.config.processors) (sym still) c.requires.cpu);
      backup = from_met gates c.meet-2.new.self _ last.seen last.first (from_met gates c.change_mount.new.self _ again.seen again.first
          (from_after gates c.in_ok-change_mount.ensures (from_met gates c.args.backup.now _ once.seen once.first c.requires.backup)));
      writer = from_met gates c.want_write-late.new.self _ last.seen last.second (from_after gates c.want_write-late.ensures
          (from_met gates c.meet.new.other _ again.seen again.second
          (from_met gates c.args.writer.now _ once.seen once.second c.requires.writer)));
    }
