-- the three levels, one after the other: an idle task is never refused, and any other is at the first of them
use Rattle.vfs_gates.proofs.Prelude.{Err, err_from_is_err_and, ◌≡◌}
use Rattle.access_model.specs.declared.errors.GateError.TheVariants.{Order}
use Rattle.vfs_gates.proofs.{CallingBack.{none_err, none_ok, settles_then}, Holding.as_before_twice}
use Rattle.vfs_gates.proofs.task.Task.settle.Goals as goal

pub returns-clause-from : goal.returns-clause-from
returns-clause-from g c = c.settle_level-3.ensures.from

pub returns-clause-settled : goal.returns-clause-settled
returns-clause-settled g c =
    settles_then c.args.self.now c.settle_level.new.self c.settle_level-2.new.self c.settle_level-3.new.self c.settle_level-3.result
    c.in_ok-settle_level.ensures.settled c.in_ok-settle_level-2.ensures.settled c.settle_level-3.ensures.settled

pub returns-clause-idle : goal.returns-clause-idle
returns-clause-idle g c idle =
    let one = (c.settle_level.ensures.idle idle).1 in
    let two = (c.settle_level-2.ensures.idle one.idle).1 in
    let three = c.settle_level-3.ensures.idle two.idle in (
      three.0,
      as_before_twice c.args.self.now c.settle_level-2.new.self c.settle_level-3.new.self
          (as_before_twice c.args.self.now c.settle_level.new.self c.settle_level-2.new.self one two) three.1,
    )

pub returns-clause-refused : goal.returns-clause-refused
returns-clause-refused g c busy = absurd (none_ok _ _ (c.in_ok-settle_level.ensures.refused busy).0)

pub returns-in_err-settle_level-clause-settled : goal.returns-in_err-settle_level-clause-settled
returns-in_err-settle_level-clause-settled g c =
    let p = err_from_is_err_and c.from_residual.result c.from_residual.ensures.1 in rw p.1 tt

pub returns-in_err-settle_level-clause-idle : goal.returns-in_err-settle_level-clause-idle
returns-in_err-settle_level-clause-idle g c idle = absurd (none_err _ (c.in_err-settle_level.ensures.idle idle).0)

pub returns-in_err-settle_level-clause-refused : goal.returns-in_err-settle_level-clause-refused
returns-in_err-settle_level-clause-refused g c busy =
    let p = err_from_is_err_and c.from_residual.result c.from_residual.ensures.1 in
    let refused = c.in_err-settle_level.ensures.refused busy in (let is : c.from_residual.result ≡ Err Order = rw (p.1, p.2) refused.0 in is, refused.1)

pub returns-in_err-settle_level-2-clause-settled : goal.returns-in_err-settle_level-2-clause-settled
returns-in_err-settle_level-2-clause-settled g c =
    let p = err_from_is_err_and c.from_residual-in_err-settle_level-2.result c.from_residual-in_err-settle_level-2.ensures.1 in rw p.1 tt

pub returns-in_err-settle_level-2-clause-idle : goal.returns-in_err-settle_level-2-clause-idle
returns-in_err-settle_level-2-clause-idle g c idle =
    absurd (none_err _ (c.in_err-settle_level-2.ensures.idle (c.settle_level.ensures.idle idle).1.idle).0)

pub returns-in_err-settle_level-2-clause-refused : goal.returns-in_err-settle_level-2-clause-refused
returns-in_err-settle_level-2-clause-refused g c busy = absurd (none_ok _ _ (c.in_ok-settle_level.ensures.refused busy).0)
