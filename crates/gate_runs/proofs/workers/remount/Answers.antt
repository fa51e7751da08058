-- one round more
use Rattle.gate_runs.proofs.Prelude.{RemountRound, ap, arith, false, refl, true, ◌+◌, ◌∙◌, ◌≤◌}
use Rattle.gate_runs.{proofs.{Answering.rests_by, Repeating.{busy_once, one_more}}, specs.Counts.with_waits}
use Rattle.gate_world.specs.declared.operations.Op.TheVariants.{ChangeMount}
use Rattle.vfs_gates.proofs.{CallingBack.none_err, Resting.some_mount, Rounds.made_writable}
use Rattle.gate_runs.proofs.workers.remount.Goals as goal

pub loop-round-preserved : goal.loop-round-preserved
loop-round-preserved g c =
    let before = c.loop-round.invariant in
    let found = c.in_ok-busy.field-0 in
    let closed = c.in_ok-busy.ensures in
    let once : found ≤ 1 = busy_once found _ _ closed.closed in
    let waits = c.with_waits.ensures ∙ ap (λ n. with_waits n c.change_mount.new.self) c.with_waits-waits.ensures in
    record {
      from = (c.change_mount.ensures.table ∙ closed.from.0, c.change_mount.ensures.config ∙ closed.from.1);
      rests = rests_by _ (ChangeMount 0 false true) c.close_mount.new.task c.change_mount.new.self _ refl closed.rests c.in_ok-change_mount.ensures;
      few = omega (arith, before.few, once);
      did = one_more RemountRound c.loop-round._round _ _ _ before.did (record {
        mid = c.close_mount.new.task;
        busy = found;
        closed = closed.closed;
        opened = c.in_ok-change_mount.ensures;
        counts = λ i. record { busy = c.loop-round.met.busy + found; waits = waits i };
      });
    }

pub returns-in_err-change_mount-clause-answered : goal.returns-in_err-change_mount-clause-answered
returns-in_err-change_mount-clause-answered g c =
    let closed = c.in_ok-busy.ensures in
    absurd (none_err _ (made_writable {m = 0} {old = c.close_mount.new.task} {left = c.change_mount.new.self} closed.rests
    (some_mount c.close_mount.new.task c.args.gates.now closed.from) c.in_err-change_mount.ensures))
