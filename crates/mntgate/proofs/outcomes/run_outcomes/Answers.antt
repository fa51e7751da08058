use Rattle.std.proofs.Common.{◌≡◌, sym, subst, IfSome}
use Rattle.mntgate.specs.Outcomes.EndsTold.{IsUnwritten, IsWritten}
use Rattle.mntgate.proofs.outcomes.run_outcomes.Goals as goal

pub returns-in-Ok-answer_outcomes-clause-told : goal.returns-in-Ok-answer_outcomes-clause-told
returns-in-Ok-answer_outcomes-clause-told g c = λ text pairs.
    IsWritten c.as_slice-bytes.result.now (λ none. subst (λ bytes. IfSome (g.I.Read.remaining c.args.reader.now) (λ all. bytes ≡ all))
    (sym c.as_slice-bytes.ensures.value) (c.in-Ok.ensures.read none)) (c.in-Ok-answer_outcomes.ensures.listed text pairs)

pub returns-in-Ok-clause-told : goal.returns-in-Ok-clause-told
returns-in-Ok-clause-told g c = λ text pairs.
    IsUnwritten c.as_slice-bytes.result.now c.in-Err-answer_outcomes.why (λ none. subst (λ bytes. IfSome (g.I.Read.remaining c.args.reader.now) (λ all. bytes ≡ all))
    (sym c.as_slice-bytes.ensures.value) (c.in-Ok.ensures.read none)) (c.in-Err-answer_outcomes.ensures.why text pairs) c.report.ensures
