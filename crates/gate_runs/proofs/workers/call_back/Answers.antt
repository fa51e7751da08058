-- one level more
use Rattle.gate_runs.proofs.Prelude.{Bool, CallsBack, Repeats, SeatedTask, arith, false, refl, rules, subst, true, ℕ, ◌+◌, ◌-◌, ◌∙◌, ◌≡◌, ◌≤◌}
use Rattle.{gate_world.specs.declared.operations.Op.TheVariants.Callback, vfs_gates.proofs.CallingBack.never_refused}
use Rattle.gate_runs.{proofs.{Answering.rests_by, Repeating.one_more}, specs.Counts.with_ran}
use Rattle.gate_runs.proofs.workers.call_back.Goals as goal

ran_once : (ran : Bool) (so_far : ℕ) → with_ran ran so_far ≤ so_far + 1
ran_once true so_far = omega arith
ran_once false so_far = omega arith

pub loop-level-preserved : goal.loop-level-preserved
loop-level-preserved g c =
    let before = c.loop-level.invariant in
    let k = c.loop-level.level - 1 in
    let level : c.loop-level.level ≡ k + 1 = omega (arith, c.loop-level.auto.level) in
    let next : k + 1 ≡ c.loop-level.level + 1 - 1 = omega (arith, c.loop-level.auto.level) in
    let counts : c.loop-level.ran + c.from.result ≡ with_ran c.in_ok-callback.field-0 c.loop-level.ran = search rules in
    let once = ran_once c.in_ok-callback.field-0 c.loop-level.ran in
    let then : SeatedTask × ℕ × ℕ = (c.callback.new.self, c.loop-level.ran + c.from.result, c.with_waits-waits.result) in
    let ran : CallsBack (k + 1) (c.loop-level.task, c.loop-level.ran, c.loop-level.waits) then =
    subst (λ n. CallsBack n (c.loop-level.task, c.loop-level.ran, c.loop-level.waits) then) level
    (c.in_ok-callback.field-0, c.in_ok-callback.ensures, counts, c.with_waits-waits.ensures) in
    record {
      from = (c.callback.ensures.table ∙ before.from.0, c.callback.ensures.config ∙ before.from.1);
      rests = rests_by _ (Callback c.loop-level.level) c.loop-level.task c.callback.new.self _ refl before.rests c.in_ok-callback.ensures;
      few = omega (arith, before.few, counts, once);
      did = subst (λ n. Repeats (λ k. CallsBack (k + 1)) n (c.args.task.now, 0, c.args.so_far) then) next
          (one_more (λ k. CallsBack (k + 1)) k _ _ _ before.did ran);
    }

pub returns-clause-ran : goal.returns-clause-ran
returns-clause-ran g c =
    let four : c.loop-level.level ≡ 4 = omega (arith, c.loop-level-test.false, c.loop-level.auto.level-end) in
    subst (λ n. Repeats (λ k. CallsBack (k + 1)) (n - 1) (c.args.task.now, 0, c.args.so_far) (c.loop-level.task, c.loop-level.ran, c.loop-level.waits)) four c.loop-level.invariant.did

pub returns-in_err-callback-clause-answered : goal.returns-in_err-callback-clause-answered
returns-in_err-callback-clause-answered g c =
    let high : c.loop-level.level ≤ 3 = omega (arith, c.loop-level-test.true) in
    absurd (never_refused c.loop-level.level c.loop-level.task c.callback.new.self c.loop-level.auto.level high _ c.loop-level.invariant.rests.0 c.in_err-callback.ensures)
