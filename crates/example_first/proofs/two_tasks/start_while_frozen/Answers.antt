-- the tasks meet before the freeze, after it, and after the other's call
use Rattle.std.proofs.Common.{None, false, subst, sym, ◌≡◌}
use Rattle.vfs_gates.{proofs.several_tasks.{Beside.met_again, BothFrozen.both_refuse_a_start}, specs.{Op.TheVariants.Start, Rounds.SeatedTask}}
use Rattle.vfs_gates.specs.TaskStates.{refusal_at}
use Rattle.example_first.proofs.two_tasks.start_while_frozen.Goals as goal

pub returns : goal.returns
returns g c =
    let once = c.meet.ensures in
    let again = c.meet-2.ensures in
    let still = met_again c.args.writer.now c.meet.new.other c.meet-2.new.other once.seen again.seen once.second again.second in
    record {
      again = both_refuse_a_start _ _ _ _ _ _ _ _ _ _ _ _ once c.in_ok-freeze.ensures.replies again c.meet-3.ensures c.requires.all
          c.args.level c.args.cpu c.requires.writable
          (subst (λ (s : SeatedTask). refusal_at (Start c.args.level c.args.cpu false) s ≡ None) (sym still) c.requires.begins)
          c.try_start-late.ensures;
    }
