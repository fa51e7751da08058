use Rattle.exploration.proofs.Lists.{err_from}
use Rattle.mntgate.{proofs.Listed.{cut_off, kept, listed}, specs.Outcomes.IsUnlisted.IsRefused}
use Rattle.mntgate.proofs.outcomes.answer_outcomes.Goals as goal

pub returns-clause-listed : goal.returns-clause-listed
returns-clause-listed g c = λ text pairs.
    listed _ _ _ _ _ _ _ _ c.write_told.result c.new-told.ensures.nothing (c.in_ok-answered.ensures.told text pairs) c.write_told.ensures.ends
    c.write_told.ensures.written

pub returns-clause-why : goal.returns-clause-why
returns-clause-why g c = λ text pairs.
    cut_off _ _ _ _ _ _ _ _ c.write_told.result c.new-told.ensures.nothing (c.in_ok-answered.ensures.told text pairs) c.write_told.ensures.why
    c.write_told.ensures.part

pub returns-in_err-answered-clause-why : goal.returns-in_err-answered-clause-why
returns-in_err-answered-clause-why g c = λ text pairs.
    err_from _ c.in_err-answered.field-0.0 _ c.from_residual.ensures.1 (IsRefused (c.in_err-answered.ensures.why text pairs) (kept _))
