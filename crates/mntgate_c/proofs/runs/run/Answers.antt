-- each step goes on from the one before it, which went on and was followed by none that reads a hook
use Rattle.std.{proofs.Common.{ap, arith, refl, subst, suc, sym, ◌+◌, ◌∙◌, ◌≡◌}, specs.Prelude.None}
use Rattle.gate_transitions.specs.{Answers.asked_by, declared.steps.{Progress.TheVariants.{Going, Idle}, Step.Step}}
use Rattle.gate_steps.specs.call_events.Runs.{ProgressMatches}
use Rattle.mntgate_c.proofs.Running.{Ran, one_more}
use Rattle.mntgate_c.proofs.runs.run.Goals as goal

pub loop-more-init : goal.loop-more-init
loop-more-init c =
    let one = c.step-progress.ensures in
    record {
      table = one.table;
      config = one.config;
      told = one.told;
      idle = λ none. let done = one.idle none in (done.0, ap (λ (s : Step). s.progress) done.1);
      ran = λ phase at. (c.step-progress.result, c.step-progress.new.self, one.event phase at, (refl, refl));
    }

pub loop-more-preserved : goal.loop-more-preserved
loop-more-preserved c =
    let now = c.loop-more.invariant in
    let one = c.step-progress-in-loop-more.ensures in
    let going : c.loop-more.progress ≡ Going = c.in-Going.is in
    let unasked : asked_by c.loop-more.task.phase ≡ None = sym c.wants_hook.ensures ∙ c.in-None.is in
    record {
      table = one.table ∙ now.table;
      config = one.config ∙ now.config;
      told = λ op start goes. one.told op start (subst (λ p. ProgressMatches op start p c.loop-more.task) going (now.told op start goes));
      idle = λ none. absurd (let other : Idle ≡ Going = sym (now.idle none).1 ∙ going in let f : ⊥ = cc in f);
      ran = λ phase at.
          let had : Ran phase c.args.hook c.args.task.now c.loop-more._more c.loop-more.task Going =
          subst (λ p. Ran phase c.args.hook c.args.task.now c.loop-more._more c.loop-more.task p) going (now.ran phase at) in
          let more : Ran phase c.args.hook c.args.task.now (suc c.loop-more._more) c.step-progress-in-loop-more.new.self
          c.step-progress-in-loop-more.result.progress =
          one_more phase c.args.hook c.args.task.now c.loop-more.task c.step-progress-in-loop-more.new.self c.loop-more._more
          c.step-progress-in-loop-more.result had unasked one.event in
          subst (λ n. Ran phase c.args.hook c.args.task.now n c.step-progress-in-loop-more.new.self c.step-progress-in-loop-more.result.progress)
          (let e : suc c.loop-more._more ≡ c.loop-more._more + 1 = omega arith in e) more;
    }
