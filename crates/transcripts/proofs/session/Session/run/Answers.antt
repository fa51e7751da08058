use Rattle.std.proofs.Common.{sym, ◌∙◌}
use Rattle.transcripts.proofs.Showing.{same_progress}
use Rattle.transcripts.proofs.Running.{progress_in_run, shows_in_run, starts, goes_on, is_idle, stops, shows_so, progress_so}
use Rattle.transcripts.proofs.session.Session.run.Goals as goal

pub loop-events-init : goal.loop-events-init
loop-events-init g c p h = starts _ p _ _ h

pub returns-in-Idle-clause-progress : goal.returns-in-Idle-clause-progress
returns-in-Idle-clause-progress g c p h =
    let way = c.loop-events.invariant p h in
    let hook = c.hook_answer-hook.ensures way.now way.shown in
    let after = progress_in_run _ p _ _ _ way _ hook in
    let is = sym c.in-Idle.is ∙ same_progress _ _ (c.in_ok-progress.ensures.answer way.now way.shown) ∙ after in
    c.in-Idle.is ∙ sym (progress_so p _ _ _ _ (is_idle _ p _ _ _ way c.loop-events-test.true is))

pub returns-in-Idle-clause-shows : goal.returns-in-Idle-clause-shows
returns-in-Idle-clause-shows g c p h =
    let way = c.loop-events.invariant p h in
    let hook = c.hook_answer-hook.ensures way.now way.shown in
    let after = progress_in_run _ p _ _ _ way _ hook in
    let is = sym c.in-Idle.is ∙ same_progress _ _ (c.in_ok-progress.ensures.answer way.now way.shown) ∙ after in
    shows_so _ p _ _ _ _ (is_idle _ p _ _ _ way c.loop-events-test.true is)
    (shows_in_run _ p _ _ _ way _ hook _ (c.in_ok-progress.ensures.shows way.now way.shown))

pub returns-in-Waiting-clause-progress : goal.returns-in-Waiting-clause-progress
returns-in-Waiting-clause-progress g c p h =
    let way = c.loop-events.invariant p h in
    let hook = c.hook_answer-hook.ensures way.now way.shown in
    let after = progress_in_run _ p _ _ _ way _ hook in
    let is = same_progress _ _ (c.in_ok-progress.ensures.answer way.now way.shown) ∙ after in
    sym (progress_so p _ _ _ _ (stops _ p _ _ _ way _ c.loop-events-test.true is c.in-Waiting.is))

pub returns-in-Waiting-clause-shows : goal.returns-in-Waiting-clause-shows
returns-in-Waiting-clause-shows g c p h =
    let way = c.loop-events.invariant p h in
    let hook = c.hook_answer-hook.ensures way.now way.shown in
    let after = progress_in_run _ p _ _ _ way _ hook in
    let is = same_progress _ _ (c.in_ok-progress.ensures.answer way.now way.shown) ∙ after in
    shows_so _ p _ _ _ _ (stops _ p _ _ _ way _ c.loop-events-test.true is c.in-Waiting.is)
    (shows_in_run _ p _ _ _ way _ hook _ (c.in_ok-progress.ensures.shows way.now way.shown))

pub loop-events-preserved : goal.loop-events-preserved
loop-events-preserved g c p h =
    let way = c.loop-events.invariant p h in
    let hook = c.hook_answer-hook.ensures way.now way.shown in
    let after = progress_in_run _ p _ _ _ way _ hook in
    let is = sym c.in-Going.is ∙ same_progress _ _ (c.in_ok-progress.ensures.answer way.now way.shown) ∙ after in
    goes_on _ _ p _ _ _ way c.loop-events-test.true is
    (shows_in_run _ p _ _ _ way _ hook _ (c.in_ok-progress.ensures.shows way.now way.shown))
