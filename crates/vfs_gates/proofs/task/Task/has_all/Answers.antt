use Rattle.vfs_gates.proofs.Prelude.{SeatedTask, refl, subst, sym, times, ℕ, ◌<◌, ◌≤◌}
use Rattle.vfs_gates.proofs.Parting.{all_marked}
use Rattle.vfs_gates.proofs.task.Task.has_all.Goals as goal

pub returns-then-rests : goal.returns-then-rests
returns-then-rests c =
    let t = c.self.inside in
    let l = all_marked t.number t.config t.begins t.state t.spare t.seat.me.0.items c.self.invariant.0 in
    let told = c.are_all.ensures in
    let rest = c.if-rests.ensures.0 refl in
    let P : SeatedTask → Type 0 = λ s. (n : ℕ) → n < s.config.tasks → 1 ≤ times n s.items in
    ((λ is. (rest.0, rest.1, subst P c.self.view_is (l.0 (told.0 is)))), (λ h. told.1 (l.1 (subst P (sym c.self.view_is) h.2))))
