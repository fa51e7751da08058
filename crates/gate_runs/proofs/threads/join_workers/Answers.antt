-- the last of those that were left has done its part
use Rattle.gate_runs.proofs.Prelude.{Among, GateError, IfErr, IfOk, Ok, Plan, Result, WriterRefused, [], arith, subst, suc, vec_len, ◌+◌, ◌-◌, ◌∙◌}
use Rattle.gate_runs.proofs.Prelude.{◌≡◌}
use Rattle.gate_runs.proofs.{Homes.{all_parts, either_refused, parts_on, remounted_of, wrote_of}, Joining.{has_back_more, has_none_back}}
use Rattle.gate_runs.{proofs.Staying.each_popped, specs.{Homes.{HasBack, NeverFroze, TaskShare}, declared.threads.Met.Met}}
use Rattle.gate_runs.proofs.threads.join_workers.Goals as goal

pub join_worker-requires-clause-home : goal.join_worker-requires-clause-home
join_worker-requires-clause-home g c = (each_popped _ _ c.pop.new.self.items c.in-Some.worker c.in-Some.ensures.items c.loop-worker.invariant.homes).1.0

pub loop-worker-init : goal.loop-worker-init
loop-worker-init g c = record {
  from = c.requires.from;
  rests = c.requires.rests;
  there = c.requires.there;
  homes = c.requires.homes;
  others = λ s h. h;
  back = has_none_back c.args.task.now (vec_len c.args.workers.now + 1) (vec_len c.args.workers.now + 1) (omega arith);
  parts = record {
    remounted = λ none. absurd (omega (arith, none, c.requires.some));
    wrote = record { each = []; all = omega arith; parts = tt; sum = c.none-2.ensures };
  };
  refused = tt;
}

pub loop-worker-preserved : goal.loop-worker-preserved
loop-worker-preserved g c =
    let before = c.loop-worker.invariant in
    let joined = c.join_worker.ensures in
    let popped = each_popped _ _ c.pop.new.self.items c.in-Some.worker c.in-Some.ensures.items before.homes in
    let promise = c.in-Some.worker.promise in
    let plan = c.args._plan in
    let ends = Among c.join_worker.new.task.items in
    let held = g.W.RunObserver.held c.args._watch.now in
    let count = vec_len c.args.workers.now - 1 in
    let number : promise.number ≡ vec_len c.pop.new.self + 1 = popped.1.3 ∙ omega (arith, c.pop.new.self.ok.0) in
    let next : vec_len c.loop-worker.workers ≡ suc (vec_len c.pop.new.self) = omega (arith, c.in-Some.ensures.len) in
    let part : (its : Met) → c.join_worker.result ≡ Ok its → TaskShare ends held plan.processors plan.rounds promise.number its =
    λ its is.
    subst (λ (p : Plan). TaskShare ends held p.processors p.rounds promise.number its) popped.1.1
    (subst (λ v. TaskShare ends (g.W.RunObserver.held v) promise.plan.processors promise.plan.rounds promise.number its) popped.1.2
    (subst (λ (r : Result Met GateError). IfOk r (TaskShare ends (g.W.RunObserver.held promise.watch.now) promise.plan.processors promise.plan.rounds promise.number)) is joined.part)) in
    record {
      from = joined.from;
      rests = joined.rests.0;
      there = joined.rests.1;
      homes = popped.0;
      others = λ s h. joined.others s (before.others s h);
      back = has_back_more (vec_len c.pop.new.self + 1) (vec_len c.loop-worker.workers + 1) (vec_len c.args.workers.now + 1) c.args.task.now
          c.loop-worker.task joined.took.0 c.join_worker.new.task (omega (arith, next)) before.there
          (subst (λ n. NeverFroze n joined.took.0) number joined.took.1) joined.took.2 before.back;
      parts = all_parts ends held plan.processors plan.rounds (vec_len c.loop-worker.workers) (vec_len c.pop.new.self) count promise.number
          c.loop-worker.met c.join_worker.result c.with_worker-met.result next number part
          (parts_on (Among c.loop-worker.task.items) ends joined.others held plan.processors plan.rounds (vec_len c.loop-worker.workers) count
          c.loop-worker.met before.parts) c.with_worker-met.ensures.done;
      refused = either_refused (WriterRefused c.args.gates.now plan.tasks plan.processors plan.rounds) c.loop-worker.met c.join_worker.result c.with_worker-met.result
          before.refused (subst (λ (p : Plan). IfErr c.join_worker.result (WriterRefused c.args.gates.now p.tasks p.processors p.rounds)) popped.1.1 joined.refused)
          c.with_worker-met.ensures.refused;
    }

pub returns-clause-back : goal.returns-clause-back
returns-clause-back g c =
    subst (λ n. HasBack (n + 1) (vec_len c.args.workers.now + 1) c.args.task.now c.loop-worker.task) c.in_default.ensures.cases.0 c.loop-worker.invariant.back

pub returns-clause-remounted : goal.returns-clause-remounted
returns-clause-remounted g c = remounted_of _ _ _ _ _ _ c.loop-worker.met c.in_default.ensures.cases.0 c.loop-worker.invariant.parts

pub returns-clause-wrote : goal.returns-clause-wrote
returns-clause-wrote g c = wrote_of _ _ _ _ _ _ c.loop-worker.met c.in_default.ensures.cases.0 c.loop-worker.invariant.parts
