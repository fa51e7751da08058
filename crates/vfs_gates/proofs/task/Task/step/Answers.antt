-- the step of its kind is the step of the operation
use Rattle.vfs_gates.proofs.Prelude.{IsWithin, SeatedTask, ap, refl, subst, sym, ◌∙◌}
use Rattle.std.proofs.lemmas.Option.{none-some}
use Rattle.gate_steps.proofs.call_events.Running.{told_then}
use Rattle.vfs_gates.proofs.task.Task.step.Goals as goal

pub step_there-requires-clause-at : goal.step_there-requires-clause-at
step_there-requires-clause-at c = sym (ap (λ (s : SeatedTask). s.phase) c.self.view_is) ∙ c.in-Some.is

pub returns-clause-event : goal.returns-clause-event
returns-clause-event c = c.step_there.ensures.event

pub returns-in_default-clause-idle : goal.returns-in_default-clause-idle
returns-in_default-clause-idle c idle = (refl, c.idle.ensures)

pub returns-in_default-clause-event : goal.returns-in_default-clause-event
returns-in_default-clause-event c phase at =
    absurd (none-some phase (sym c.in_default.is ∙ (ap (λ (s : SeatedTask). s.phase) c.self.view_is ∙ at)))

pub returns-clause-idle : goal.returns-clause-idle
returns-clause-idle c idle =
    absurd (none-some c.in-Some.phase (sym idle ∙ (sym (ap (λ (s : SeatedTask). s.phase) c.self.view_is) ∙ c.in-Some.is)))

pub returns-clause-told : goal.returns-clause-told
returns-clause-told c op start goes =
    told_then op start c.args.self.now _ _ c.args.hook goes (returns-clause-event c)
    (subst IsWithin (sym c.requires.1 ∙ goes.config) c.args.gates.now.words.within)

pub returns-in_default-clause-told : goal.returns-in_default-clause-told
returns-in_default-clause-told c op start goes =
    absurd (none-some goes.going.0 (sym c.in_default.is ∙ (ap (λ (s : SeatedTask). s.phase) c.self.view_is ∙ goes.going.1)))
