-- The first task has all numbers but its own to give, and none has done anything.
use Rattle.std.proofs.Common.{ap, arith, length, refl, ◌+◌, ◌∙◌, ◌≡◌}
use Rattle.vfs_gates.{proofs.Splitting.gives_all, specs.TaskStates.SeatedTask}
use Rattle.program_replay.proofs.Opening.{first_new, opening_shown}
use Rattle.program_replay.proofs.gates_driver.GatesDriver.new.Goals as goal

pub split_all-requires-clause-gives : goal.split_all-requires-clause-gives
split_all-requires-clause-gives c =
    let made = c.in_ok-gates.ensures.made in
    gives_all _ c.args.config c.in_ok-gates.ensures.within.some_task (ap (λ (t : SeatedTask). t.phase) made.1) (ap (λ (t : SeatedTask). t.items) made.1)

pub split_all-requires-clause-new : goal.split_all-requires-clause-new
split_all-requires-clause-new c =
    let made = c.in_ok-gates.ensures.made in
    let all = ap (λ (t : SeatedTask). t.items) made.1 in
    let idle = ap (λ (t : SeatedTask). t.phase) made.1 in
    let gives = gives_all c.in_ok-gates.first c.args.config c.in_ok-gates.ensures.within.some_task idle all in
    first_new c.in_ok-gates.first c.args.config gives.there idle (ap (λ (t : SeatedTask). t.seen) made.1) all

pub returns-clause-opens : goal.returns-clause-opens
returns-clause-opens c =
    let made = c.in_ok-gates.ensures.made in
    let within = c.in_ok-gates.ensures.within in
    let e = c.in_ok-others.ensures in
    let many = e.count within.some_task in
    let count : length c.in_ok-others.others.items + 1 ≡ c.args.config.tasks = omega (arith, many, c.in_ok-others.others.ok.0) in
    record {
      config = refl;
      shows = opening_shown c.args.config within c.split_all.new.first c.in_ok-others.others.items c.in_ok-words.words.items e.stays e.new e.own e.numbers
          (e.first.1 ∙ made.0) (λ k t lt. (e.others k t lt).1 ∙ made.0) count c.in_ok-words.ensures;
    }
