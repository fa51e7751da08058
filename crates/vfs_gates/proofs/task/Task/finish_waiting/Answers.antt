use Rattle.vfs_gates.proofs.Prelude.{IsWithin, refl, subst, sym, ◌∙◌}
use Rattle.gate_steps.proofs.call_events.Running.{ends_there, goes_further}
use Rattle.vfs_gates.proofs.task.Task.finish_waiting.Goals as goal

pub loop-init : goal.loop-init
loop-init g c = record { next = tt; finite = tt; table = refl; config = refl; goes = λ op start goes. goes }

pub returns-in-Done : goal.returns-in-Done
returns-in-Done g c op start goes = let now = c.loop in (
  c.in-Done.answer,
  c.outcome.ensures,
  ends_there op start now.self c.step-step.new.self c.step-step.result _ (now.invariant.goes op start goes)
      c.step-step.ensures.event (subst IsWithin (sym c.requires.1 ∙ goes.config) c.args.gates.now.words.within) c.in-Done.answer c.in-Done.is,
)

pub loop-preserved : goal.loop-preserved
loop-preserved g c = let now = c.loop in record {
  next = tt;
  finite = tt;
  table = c.step-step.ensures.table ∙ now.invariant.table;
  config = c.step-step.ensures.config ∙ now.invariant.config;
  goes = λ op start goes. goes_further op start now.self c.step-step.new.self c.step-step.result _
      (now.invariant.goes op start goes) c.step-step.ensures.event c.in_default.not-Done;
}

pub step-step-requires : goal.step-step-requires
step-step-requires g c = let now = c.loop in (now.invariant.table ∙ c.requires.0, now.invariant.config ∙ c.requires.1)
