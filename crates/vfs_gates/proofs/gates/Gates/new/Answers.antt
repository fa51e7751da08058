-- the words are as they begin until the first step, and the first task rests
use Rattle.vfs_gates.proofs.Prelude.{Rests, SeatedTask, refl, subst, sym, true≢false}
use Rattle.vfs_gates.{proofs.{Resting.first_empty, closed_gates.Closing.opens_so}, specs.Ended.HasOpeningWords}
use Rattle.vfs_gates.proofs.gates.Gates.new.Goals as goal

pub returns-clause-words : goal.returns-clause-words
returns-clause-words c = subst (λ (s : SeatedTask). HasOpeningWords c.args.config s.items) (sym c.first.ensures) (opens_so c.args.config)

pub returns-clause-rests : goal.returns-clause-rests
returns-clause-rests c = subst Rests (sym c.first.ensures) (refl, first_empty c.args.config c.args.config.tasks)

pub returns-clause-within : goal.returns-clause-within
returns-clause-within c = c.if-not-is_within.ensures.0 refl

pub returns-clause-invalid : goal.returns-clause-invalid
returns-clause-invalid c outside = absurd (outside (c.if-not-is_within.ensures.0 refl))

pub returns-then-not-is_within : goal.returns-then-not-is_within
returns-then-not-is_within c = record {
  made = tt;
  words = tt;
  rests = tt;
  within = tt;
  invalid = λ outside. refl;
  memory = λ within. absurd (true≢false (sym (c.if-not-is_within.ensures.1 within)));
}
