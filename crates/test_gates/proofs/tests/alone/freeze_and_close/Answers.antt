-- closed gates have no other number, so nobody else has thawed
use Rattle.std.proofs.{Common.ap, lemmas.Result.IfOk-weaker}
use Rattle.{access_model.specs.declared.actions.Holder.TheVariants.User, vfs_gates.specs.TaskStates.{SeatedTask, own_number}}
use Rattle.test_gates.proofs.Alone.{left_frozen_alone}
use Rattle.test_gates.proofs.tests.alone.freeze_and_close.Goals as goal

pub returns : goal.returns
returns g c =
    let made = c.in_ok-gates.ensures.made.1 in
    IfOk-weaker c.close.result _ _
    (λ closed ended. left_frozen_alone User c.in_ok-gates.task (ap (λ (s : SeatedTask). s.config.tasks) made)
    (ap (λ (s : SeatedTask). own_number s.items) made) c.freeze.new.self c.in_ok-freeze.ensures.replies closed.words ended) c.close.ensures
