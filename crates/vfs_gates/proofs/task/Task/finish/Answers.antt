use Rattle.vfs_gates.proofs.Prelude.{IsWithin, refl, subst, sym, ◌∙◌}
use Rattle.gate_steps.proofs.call_events.Running.{ends_there, falls, goes_further}
use Rattle.vfs_gates.proofs.task.Task.finish.Goals as goal

pub loop-answer-init : goal.loop-answer-init
loop-answer-init c = record { table = refl; config = refl; trying = c.requires.trying; goes = λ op start goes. goes }

pub step-step-requires : goal.step-step-requires
step-step-requires c = let now = c.loop-answer in (now.invariant.table ∙ c.requires.from.0, now.invariant.config ∙ c.requires.from.1)

pub returns-in-Done : goal.returns-in-Done
returns-in-Done c op start goes = let now = c.loop-answer in let here = now.invariant.goes op start goes in (
  c.in-Done.answer,
  c.outcome.ensures,
  ends_there op start now.self c.step-step.new.self c.step-step.result _ here c.step-step.ensures.event
      (subst IsWithin (sym c.requires.from.1 ∙ goes.config) c.args.gates.now.words.within) c.in-Done.answer c.in-Done.is,
)

pub loop-answer-smaller : goal.loop-answer-smaller
loop-answer-smaller c = let now = c.loop-answer in let trying = now.invariant.trying in
    falls trying.op trying.start now.self c.step-step.new.self c.step-step.result _ trying.goes c.step-step.ensures.event
    (subst IsWithin (sym c.requires.from.1 ∙ (sym now.invariant.config ∙ trying.goes.config)) c.args.gates.now.words.within) trying.tries
    c.in_default.not-Done

pub loop-answer-preserved : goal.loop-answer-preserved
loop-answer-preserved c = let now = c.loop-answer in let trying = now.invariant.trying in record {
  table = c.step-step.ensures.table ∙ now.invariant.table;
  config = c.step-step.ensures.config ∙ now.invariant.config;
  trying = record {
    op = trying.op;
    start = trying.start;
    goes = goes_further trying.op trying.start now.self c.step-step.new.self c.step-step.result _ trying.goes
        c.step-step.ensures.event c.in_default.not-Done;
    tries = trying.tries;
  };
  goes = λ op start goes. goes_further op start now.self c.step-step.new.self c.step-step.result _
      (now.invariant.goes op start goes) c.step-step.ensures.event c.in_default.not-Done;
}
