use Rattle.std.proofs.{Common.{refl, arith}, lemmas.Grind.{common_steps}}
use Rattle.transcripts.proofs.Showing.{stepped_none, stepped_some, not_refused, by_ok}
use Rattle.transcripts.proofs.session.Session.step_judged.Goals as goal

pub returns-in-Some-clause-allowed : goal.returns-in-Some-clause-allowed
returns-in-Some-clause-allowed g c p h =
    let may = not_refused _ p _ _ _ c.in-Some.action h c.step-step.ensures.answer c.in-Some.is in
    let done = c.apply.ensures.answer.1 may in
    let told = c.is_ok-is_allowed.ensures.value in
    grind (arith, common_steps, done, told)

pub returns-in-Some-clause-shows : goal.returns-in-Some-clause-shows
returns-in-Some-clause-shows g c p h =
    let step = c.step-step.ensures in
    let may = not_refused _ p _ _ _ c.in-Some.action h step.answer c.in-Some.is in
    let done = by_ok c.apply.result _ c.apply.ensures.done (c.apply.ensures.answer.1 may) in
    stepped_some _ _ p _ _ _ c.in-Some.action h refl step.answer step.shows c.in-Some.is done

pub returns-in-None-clause-shows : goal.returns-in-None-clause-shows
returns-in-None-clause-shows g c p h =
    let step = c.step-step.ensures in
    stepped_none _ _ p _ _ _ h refl step.answer step.shows c.in-None.is refl
