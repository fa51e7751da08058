-- the room shows the own view's last snapshot, and a task has a number of its own
use Rattle.vfs_gates.proofs.Prelude.{SeatedTask, ap, length, option_map, own_view, subst, words_in, ◌∙◌, ◌≤◌}
use Rattle.gate_world.specs.declared.views.Snapshot.{Snapshot}
use Rattle.vfs_gates.proofs.{Rooming.shows_last, Waiting.has_number}
use Rattle.vfs_gates.proofs.task.Task.tree.Goals as goal

pub returns-clause-last : goal.returns-clause-last
returns-clause-last c =
    let t = c.self.inside in
    c.last.ensures ∙ (shows_last (words_in t.buffers) (own_view t.seat.me.0.items).snapshot c.self.invariant.2.last ∙
    ap (λ (s : SeatedTask). option_map (λ (n : Snapshot). n.loaded) (own_view s.items).snapshot) c.self.view_is)

pub returns-clause-there : goal.returns-clause-there
returns-clause-there c =
    let t = c.self.inside in
    subst (λ (s : SeatedTask). 1 ≤ length s.items) c.self.view_is
    (has_number t.number t.config t.begins t.state t.spare t.seat.me.0.items c.self.invariant.0)
