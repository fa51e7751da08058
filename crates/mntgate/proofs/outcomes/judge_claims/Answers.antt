use Rattle.mntgate.proofs.Listed.{claims_as}
use Rattle.mntgate.proofs.outcomes.judge_claims.Goals as goal

pub returns-clause-told : goal.returns-clause-told
returns-clause-told g c = λ text.
    claims_as _ _ _ _ _ _ _ _ _ _ _ c.tell_claims.result c.form_of.ensures.mark c.form_of.ensures.margin c.plan_of.ensures.limit
    (c.tell_claims.ensures.told (c.form_of.ensures.plain text) c.requires.claims)
