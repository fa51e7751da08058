use Rattle.vfs_gates.proofs.Prelude.{Config, DealtNumbers, Empty, GhostAgrees, None, SeatedTask, ap, arith, length, own_number, own_view, set, subst}
use Rattle.vfs_gates.proofs.Prelude.{sym, true, words_in, ◌∙◌, ◌≡◌}
use Rattle.vfs_gates.proofs.{Parting.{below, join_self}, Rooming.{joined_view, room_same}, Waiting.{joined_number, tell_same}}
use Rattle.vfs_gates.proofs.task.Task.leave_to.Goals as goal

pub invariant_of-task : goal.invariant_of-task
invariant_of-task c = let mine = c.task.inside in let others = c.self.inside in let rest = c.requires.rest in let seen = c.self.view_is in
    let idle : others.state.phase ≡ None = ap (λ (s : SeatedTask). s.phase) seen ∙ rest.0 in
    let same : others.config ≡ mine.config = ap (λ (s : SeatedTask). s.config) seen ∙
    (c.requires.this.1 ∙ sym (ap (λ (s : SeatedTask). s.config) c.task.view_is ∙ c.requires.that.1)) in
    let none : Empty others.config (own_view others.seat.me.0.items) = subst (λ (s : SeatedTask). Empty s.config (own_view s.items)) (sym seen)
    rest.1 in
    let small = below others.number others.config others.begins others.state others.spare others.seat.me.0.items c.self.invariant.0 in
    let m = join_self mine.number mine.config mine.begins mine.state mine.spare others.number others.begins others.state others.spare
    c.add_all.new.numbers mine.seat.me.0.items others.seat.me.0.items
    c.task.invariant.0 (subst (λ (k : Config). GhostAgrees others.number k others.begins others.state others.spare others.seat.me.0.items) same
    c.self.invariant.0) idle
    (subst (λ (k : Config). Empty k (own_view others.seat.me.0.items)) same none) c.add_all.ensures
    (let long : length c.add_all.new.numbers ≡ 64 = c.add_all.array_long in omega arith) in
    let joined = c.take_back.ensures.joined in (
      subst (λ (l : DealtNumbers). GhostAgrees mine.number mine.config mine.begins mine.state (set c.add_all.new.numbers others.number true) l)
          (sym (ap (λ z. z.0.items) joined)) m,
      ap (λ z. z.1) joined ∙ c.task.invariant.1,
      room_same mine.config.nodes (words_in mine.buffers) mine.begins mine.state.phase mine.seat.me.0.items c.take_back.new.seat.me.0.items
          (ap (λ z. own_view z.0.items) joined ∙ joined_view mine.number mine.config mine.begins mine.state mine.spare mine.seat.me.0.items
          others.seat.me.0.items c.task.invariant.0) c.task.invariant.2,
      tell_same mine.config mine.seat.me.0.items c.take_back.new.seat.me.0.items mine.waited
          (ap (λ z. own_number z.0.items) joined ∙ joined_number mine.number mine.config mine.begins mine.state mine.spare mine.seat.me.0.items
          others.seat.me.0.items c.task.invariant.0)
          (ap (λ z. own_view z.0.items) joined ∙ joined_view mine.number mine.config mine.begins mine.state mine.spare mine.seat.me.0.items
          others.seat.me.0.items c.task.invariant.0) c.task.invariant.3,
    )
