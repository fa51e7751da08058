use Rattle.vfs_gates.proofs.Prelude.{Empty, SeatedTask, own_view, refl, subst, sym}
use Rattle.vfs_gates.proofs.Parting.{holds_same}
use Rattle.vfs_gates.proofs.task.Task.rests.Goals as goal

pub returns-then-is_idle : goal.returns-then-is_idle
returns-then-is_idle c =
    let t = c.self.inside in
    let both = holds_same t.number t.config t.begins t.state t.spare t.seat.me.0.items c.self.invariant.0 in
    let told = c.holds_nothing.ensures in
    let P : SeatedTask → Type 0 = λ s. Empty s.config (own_view s.items) in (
      (λ is. (c.if-is_idle.ensures.0 refl, subst P c.self.view_is (both.0 (told.0 is)))),
      (λ h. told.1 (both.1 (subst P (sym c.self.view_is) h.1))),
    )
