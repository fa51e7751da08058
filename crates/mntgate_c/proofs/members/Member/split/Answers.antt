-- What was split off goes back where there is no memory for it.
use Rattle.std.proofs.{Common.{subst, sym}, lemmas.Result.err_from_is_err_and}
use Rattle.{access_model.specs.declared.errors.GateError.TheVariants.NoMemory, vfs_gates.specs.{Held.Rests, TaskStates.SeatedTask}}
use Rattle.mntgate_c.{proofs.{Results.if_err_then, Splitting.{none_for_it, not_split}}, specs.Openings.SplitIsRefused}
use Rattle.mntgate_c.proofs.members.Member.split.Goals as goal

pub returns-in_err-task-clause-refused : goal.returns-in_err-task-clause-refused
returns-in_err-task-clause-refused c =
    let p = err_from_is_err_and c.from_residual.result c.from_residual.ensures.1 in
    let rests : Rests c.self.inside.task = subst Rests (sym c.self.view_is) c.requires in
    let refused = c.in_err-task.ensures.refused in
    rw (p.1, p.2) (subst (λ (s : SeatedTask). SplitIsRefused s c.split.new.self c.in_err-task.field-0.0) c.self.view_is
    (not_split c.self.inside.task c.split.new.self c.in_err-task.field-0.0 rests refused.0 refused.1))

pub returns-in-Ok-clause-refused : goal.returns-in-Ok-clause-refused
returns-in-Ok-clause-refused c =
    let rests : Rests c.self.inside.task = subst Rests (sym c.self.view_is) c.requires in
    let split = c.in_ok-task.ensures in
    if_err_then c.boxed_or_absorbed.result (λ refusal told. subst (SplitIsRefused c.args.self.now c.boxed_or_absorbed.new.self) (sym told.0)
    (subst (λ (s : SeatedTask). SplitIsRefused s c.boxed_or_absorbed.new.self NoMemory) c.self.view_is
    (none_for_it c.self.inside.task c.split.new.self c.in_ok-task.task c.boxed_or_absorbed.new.self rests split.made (split.rests.1 rests) told.1)))
    c.boxed_or_absorbed.ensures.refused

pub returns-in-Err-clause-refused : goal.returns-in-Err-clause-refused
returns-in-Err-clause-refused c =
    let rests : Rests c.self.inside.task = subst Rests (sym c.self.view_is) c.requires in
    let split = c.in_ok-task.ensures in
    subst (λ (s : SeatedTask). SplitIsRefused s c.take_back.new.self NoMemory) c.self.view_is
    (none_for_it c.self.inside.task c.split.new.self c.in_ok-task.task c.take_back.new.self rests split.made (split.rests.1 rests) c.take_back.ensures)
