use Rattle.std.proofs.lemmas.Result.{IfOk-weaker}
use Rattle.mntgate.proofs.Asked.{done_plainly, passes, ran, replayed, replays}
use Rattle.mntgate.proofs.dispatch.run.Goals as goal

pub returns-clause-plain : goal.returns-clause-plain
returns-clause-plain g c h = IfOk-weaker c.do_asked.result _ _
    (λ ending x. replays _ _ _ _ c.in_ok-asked.asked (c.in_ok-asked.ensures.plain h) ending x) c.do_asked.ensures

pub returns-clause-only : goal.returns-clause-only
returns-clause-only g c = IfOk-weaker c.do_asked.result _ _
    (λ ending x done. c.in_ok-asked.ensures.only (done_plainly _ _ _ _ c.in_ok-asked.asked ending x done)) c.do_asked.ensures

pub returns-clause-done : goal.returns-clause-done
returns-clause-done g c = IfOk-weaker c.do_asked.result _ _
    (λ ending x done. replayed _ _ _ _ c.in_ok-asked.asked ending x done) c.do_asked.ensures

pub returns-clause-passed : goal.returns-clause-passed
returns-clause-passed g c = IfOk-weaker c.do_asked.result _ _
    (λ ending x passed. passes _ _ _ _ c.in_ok-asked.asked ending x passed) c.do_asked.ensures

pub returns-clause-ran : goal.returns-clause-ran
returns-clause-ran g c = IfOk-weaker c.do_asked.result _ _ (λ ending x is.
    ran _ _ _ _ c.in_ok-asked.asked ending (λ numbers ends. record { numbers = numbers; whole = ends.ran is }) x is) c.do_asked.ensures
