-- What a task asks is what its phase asks in the state.
use Rattle.std.proofs.Common.{List, ap, arith, get_or, subst, sym, ◌-◌, ◌<◌, ◌∙◌, ◌≡◌}
use Rattle.{gate_transitions.specs.Answers.{asked_by, wanted_hook}, vfs_gates.specs.TaskStates.SeatedTask}
use Rattle.program_replay.proofs.Driving.{later_task, wants}
use Rattle.program_replay.proofs.gates_driver.GatesDriverDriver.wants_hook.Goals as goal

pub returns-then-task-eq0 : goal.returns-then-task-eq0
returns-then-task-eq0 c config w shows =
    let some = shows.shows.within.some_task in
    subst (λ t. c.wants_hook.result ≡ wanted_hook config w t) (sym c.if-task-eq0.true)
    (c.wants_hook.ensures ∙ sym (wants config w c.args.self.now shows 0 (omega (arith, some))))

pub returns-in_ok-get : goal.returns-in_ok-get
returns-in_ok-get c config w shows =
    let driver = c.args.self.now in
    let found = c.in_ok-get.ensures.lookup in
    let many = shows.shows.count in
    let lt : c.args.task < config.tasks = omega (arith, many, found.3.0, c.deref.ensures.len, driver.others.ok.0) in
    let element = found.3.1 driver.first ∙ ap (λ (l : List SeatedTask). get_or l (c.args.task - 1) driver.first) c.deref.ensures.value in
    c.wants_hook-else-task-eq0.ensures
    ∙ (ap (λ (s : SeatedTask). asked_by s.phase) (element ∙ sym (later_task driver.first driver.others.items c.args.task c.if-task-eq0.false driver.first))
    ∙ sym (wants config w driver shows c.args.task lt))
