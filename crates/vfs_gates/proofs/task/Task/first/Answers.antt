use Rattle.vfs_gates.proofs.Prelude.{DealtNumbers, GhostAgrees, None, TaskState, ap, own_view, subst, sym, words_in, ◌∙◌}
use Rattle.vfs_gates.proofs.{Parting.first_ghost_agrees, Rooming.{first_unseen, room_new}, Waiting.first_tells}
use Rattle.vfs_gates.proofs.task.Task.first.Goals as goal

pub invariant_of-result : goal.invariant_of-result
invariant_of-result c = let within = c.requires.within in
    let m = first_ghost_agrees c.args.config c.idle.result c.args.config.tasks c.others_of.result within c.idle.ensures within.some_task
    within.tasks c.others_of.ensures in (
      subst (λ (l : DealtNumbers). GhostAgrees 0 c.args.config None c.idle.result c.others_of.result l) (sym (ap (λ z. z.0.items) c.requires.seat)) m,
      ap (λ z. z.1) c.requires.seat,
      room_new c.args.config.nodes (words_in c.args.buffers) None c.idle.result.phase c.args.seat.me.0.items c.requires.room.0 c.requires.room.1
          (ap (λ z. (own_view z.0.items).snapshot) c.requires.seat ∙ first_unseen c.args.config) (ap (λ (k : TaskState). k.phase) c.idle.ensures),
      first_tells c.args.config c.args.seat.me.0.items (ap (λ z. z.0.items) c.requires.seat),
    )
