-- one thread more
use Rattle.gate_runs.proofs.Prelude.{Gives, ap, arith, err_from_is_err_and, length, refl, subst, sym, ◌+◌, ◌∙◌, ◌≡◌}
use Rattle.gate_runs.proofs.Staying.{each_next}
use Rattle.gate_runs.proofs.threads.start_workers.Goals as goal

pub loop-number-init : goal.loop-number-init
loop-number-init g c =
    let none : length c.args.workers.now.items ≡ 0 = ap length c.requires.none in record {
      from = c.requires.from;
      rests = c.requires.rests;
      same = refl;
      gives = c.requires.gives;
      all = omega (arith, none, c.args.workers.now.ok.0);
      homes = rw c.requires.none tt;
    }

pub start_worker-requires-clause-from : goal.start_worker-requires-clause-from
start_worker-requires-clause-from g c = λ _ _. c.loop-number.invariant.from

pub start_worker-requires-clause-gives : goal.start_worker-requires-clause-gives
start_worker-requires-clause-gives g c = λ _ _. c.loop-number.invariant.gives

pub start_worker-requires-clause-planned : goal.start_worker-requires-clause-planned
start_worker-requires-clause-planned g c = λ _ _. c.requires.planned

pub returns-in_err-worker-clause-from : goal.returns-in_err-worker-clause-from
returns-in_err-worker-clause-from g c = c.start_worker.ensures.from

pub returns-in_err-worker-clause-rests : goal.returns-in_err-worker-clause-rests
returns-in_err-worker-clause-rests g c = let p = err_from_is_err_and c.from_residual.result c.from_residual.ensures.1 in rw p.1 tt

pub returns-in_err-worker-clause-same : goal.returns-in_err-worker-clause-same
returns-in_err-worker-clause-same g c = let p = err_from_is_err_and c.from_residual.result c.from_residual.ensures.1 in rw p.1 tt

pub returns-in_err-worker-clause-gives : goal.returns-in_err-worker-clause-gives
returns-in_err-worker-clause-gives g c = let p = err_from_is_err_and c.from_residual.result c.from_residual.ensures.1 in rw p.1 tt

pub returns-in_err-worker-clause-all : goal.returns-in_err-worker-clause-all
returns-in_err-worker-clause-all g c = let p = err_from_is_err_and c.from_residual.result c.from_residual.ensures.1 in rw p.1 tt

pub returns-in_err-worker-clause-homes : goal.returns-in_err-worker-clause-homes
returns-in_err-worker-clause-homes g c = let p = err_from_is_err_and c.from_residual.result c.from_residual.ensures.1 in rw p.1 tt

pub returns-in_err-worker-clause-refused : goal.returns-in_err-worker-clause-refused
returns-in_err-worker-clause-refused g c =
    let p = err_from_is_err_and c.from_residual.result c.from_residual.ensures.1 in rw (p.1, p.2) c.in_err-worker.ensures.refused

pub returns-in_default-clause-from : goal.returns-in_default-clause-from
returns-in_default-clause-from g c = c.in_ok-worker.ensures.from

pub returns-clause-from : goal.returns-clause-from
returns-clause-from g c = c.loop-number.invariant.from

pub start_worker-requires-clause-rests : goal.start_worker-requires-clause-rests
start_worker-requires-clause-rests g c = λ _ _. c.loop-number.invariant.rests

pub returns-clause-rests : goal.returns-clause-rests
returns-clause-rests g c = c.loop-number.invariant.rests

pub returns-clause-same : goal.returns-clause-same
returns-clause-same g c = c.loop-number.invariant.same

pub returns-clause-homes : goal.returns-clause-homes
returns-clause-homes g c = c.loop-number.invariant.homes

pub loop-number-preserved : goal.loop-number-preserved
loop-number-preserved g c =
    let before = c.loop-number.invariant in
    let started = c.in_ok-worker.ensures in
    let place : length c.loop-number.workers.items + 1 ≡ c.loop-number.number = omega (arith, before.all, c.loop-number.workers.ok.0) in
    record {
      from = started.from;
      rests = started.rests;
      same = started.same ∙ before.same;
      gives = started.gives;
      all = omega (arith, c.in-Ok.ensures.len, before.all);
      homes = rw c.in-Ok.ensures.items (each_next _ _ _ (length c.loop-number.workers.items) refl before.homes
          (started.home.0, started.home.1, started.home.2, started.home.3 ∙ sym place));
    }

pub returns-clause-gives : goal.returns-clause-gives
returns-clause-gives g c =
    let all : c.loop-number.number ≡ c.args.plan.tasks =
    omega (arith, c.writers-number-end.ensures, c.loop-number-test.false, c.loop-number.auto.number-end, c.args.plan.within.tasks_from) in
    subst (λ n. Gives c.loop-number.task n c.args.plan.tasks) all c.loop-number.invariant.gives
