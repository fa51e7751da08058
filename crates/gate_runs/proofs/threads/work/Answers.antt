-- A task comes home with its rounds done: a writer's place is told by its number, and so is the remounter.
use Rattle.gate_runs.proofs.Prelude.{HasBegun, arith, rules, subst, ◌+◌, ◌-◌, ◌≡◌}
use Rattle.gate_runs.{proofs.{Homes.comes_back, Keeping.remounts_freeze_none}, specs.Counts.no_remounts}
use Rattle.gate_runs.proofs.threads.work.Goals as goal

pub remount-requires : goal.remount-requires
remount-requires g c = record { from = c.requires.ready.from; rests = c.requires.ready.rests }

pub write-requires : goal.write-requires
write-requires g c = record {
  from = c.requires.ready.from;
  planned = c.requires.ready.planned;
  writer = omega (arith, c.requires.ready.last);
  begins = subst (λ n. HasBegun n c.args.task.now) (let same : c.args.number ≡ c.args.number - 2 + 2 = omega arith in same) c.requires.ready.begun;
  rests = c.requires.ready.rests;
}

pub returns : goal.returns
returns g c = record {
  home = (
    c.write.ensures.from,
    c.write.ensures.rests,
    comes_back _ _ _ _ _ c.requires.ready c.write.ensures.freezes,
    (c.args.task.now, c.requires.ready.begun, (c.args.number - 2, omega arith, c.in_ok-writes.ensures.rounds)),
    tt,
  );
}

pub returns-then-number-eq-REMOUNTER : goal.returns-then-number-eq-REMOUNTER
returns-then-number-eq-REMOUNTER g c =
    let rounds = c.in_ok-remount.ensures.rounds in
    let thaws = remounts_freeze_none c.args.plan.rounds (c.args.task.now, no_remounts) (c.remount.new.task, c.in_ok-remount.field-0) rounds in record {
      home = (
        c.remount.ensures.from,
        c.remount.ensures.rests,
        comes_back _ _ _ _ _ c.requires.ready thaws,
        (c.args.task.now, c.requires.ready.begun, search (rules, rounds)),
        tt,
      );
    }
