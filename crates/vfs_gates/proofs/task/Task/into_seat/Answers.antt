-- what a task that rests knows rests
use Rattle.vfs_gates.proofs.Prelude.{AllRest, SeatedTask, ap, subst, sym, ◌∙◌}
use Rattle.vfs_gates.{proofs.Parting.all_rest, specs.TaskStates.HoldsNothing}
use Rattle.vfs_gates.proofs.task.Task.into_seat.Goals as goal

pub returns-clause-rested : goal.returns-clause-rested
returns-clause-rested c rests =
    let t = c.self.inside in
    subst (λ (s : SeatedTask). AllRest s.config t.seat.me.0.items) c.self.view_is
    (all_rest t.number t.config t.begins t.state t.spare t.seat.me.0.items c.self.invariant.0
    (ap (λ (s : SeatedTask). s.phase) c.self.view_is ∙ rests.0) (subst HoldsNothing (sym c.self.view_is) rests.1))
