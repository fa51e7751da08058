-- the task has done nothing before, and closed gates have no other number
use Rattle.std.proofs.Common.{ap}
use Rattle.{access_model.specs.declared.actions.Holder.TheVariants.User, vfs_gates.specs.{Held.own_actions, TaskStates.{SeatedTask, own_number}}}
use Rattle.test_gates.proofs.Alone.{not_busy_alone}
use Rattle.test_gates.proofs.tests.alone.freeze_alone.Goals as goal

pub returns : goal.returns
returns g c =
    let made = c.in_ok-gates.ensures.made.1 in
    not_busy_alone User c.in_ok-gates.task (ap (λ (s : SeatedTask). s.config.tasks) made) (ap (λ (s : SeatedTask). own_number s.items) made)
    c.freeze-frozen.new.self c.freeze-frozen.result (ap own_actions made) c.freeze-frozen.ensures.replies c.in_ok-close.field-0.words
    c.in_ok-close.ensures
