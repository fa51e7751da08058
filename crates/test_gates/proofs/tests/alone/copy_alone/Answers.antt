-- closed gates have no other number
use Rattle.std.proofs.Common.{ap}
use Rattle.{access_model.specs.declared.actions.Holder.TheVariants.User, vfs_gates.specs.TaskStates.{SeatedTask, own_number}}
use Rattle.test_gates.proofs.Alone.{frozen_still_alone, not_invalid_alone}
use Rattle.test_gates.proofs.tests.alone.copy_alone.Goals as goal

pub returns : goal.returns
returns g c =
    let made = c.in_ok-gates.ensures.made.1 in
    let one = ap (λ (s : SeatedTask). s.config.tasks) made in
    let own = ap (λ (s : SeatedTask). own_number s.items) made in
    record {
      stands = not_invalid_alone User c.in_ok-gates.task one own c.freeze.new.self c.snapshot-copied.new.self c.snapshot-copied.result
          c.in_ok-freeze.ensures.replies c.snapshot-copied.ensures c.in_ok-close.field-0.words c.in_ok-close.ensures;
      tree = frozen_still_alone User c.in_ok-gates.task one own c.freeze.new.self c.snapshot-copied.new.self c.snapshot-copied.result
          c.in_ok-freeze.ensures.replies c.snapshot-copied.ensures c.in_ok-close.field-0.words c.in_ok-close.ensures;
    }
