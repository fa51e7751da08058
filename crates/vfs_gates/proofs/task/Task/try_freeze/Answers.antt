-- the freeze asks the file system's hooks by those without patience
use Rattle.std.proofs.Common.{rules}
use Rattle.gate_world.specs.declared.operations.Op.TheVariants.{Freeze as FreezeOp}
use Rattle.vfs_gates.{proofs.OwnHooks.own_end, specs.Patience.without_patience}
use Rattle.vfs_gates.proofs.task.Task.try_freeze.Goals as goal

pub returns : goal.returns
returns g c =
    own_end (λ s. s.hooks.ghost_name) (λ s. s.hooks.now) _ (without_patience g.H.TimedHooks.answers) (λ call at before after answer asked. asked)
    (FreezeOp c.args.holder) c.args.self.now c.freeze-outcome.new.self c.freeze-outcome.result _ c.freeze-outcome.new.hooks
    c.freeze-outcome.ensures _ (search rules)
