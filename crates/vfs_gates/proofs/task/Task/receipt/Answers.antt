-- the task is as it was
use Rattle.vfs_gates.proofs.Prelude.{BuffersMatch, DealtNumbers, GhostAgrees, WaitsTell, ap, own_number, own_view, subst, sym, words_in, ◌∙◌}
use Rattle.vfs_gates.proofs.task.Task.receipt.Goals as goal

pub invariant_of-self : goal.invariant_of-self
invariant_of-self c =
    let old = c.self.inside in
    let same = sym (ap (λ z. z.0.items) c.receipt-seat.ensures.kept) in (
      subst (λ (l : DealtNumbers). GhostAgrees old.number old.config old.begins old.state old.spare l) same c.self.invariant.0,
      ap (λ z. z.1) c.receipt-seat.ensures.kept ∙ c.self.invariant.1,
      subst (λ (l : DealtNumbers). BuffersMatch old.config.nodes (words_in old.buffers) old.begins old.state.phase l) same c.self.invariant.2,
      subst (λ (l : DealtNumbers). WaitsTell old.config (own_number l) (own_view l) old.waited) same c.self.invariant.3,
    )
