-- the fields after a step are what the seat knows after it
use Rattle.vfs_gates.proofs.Prelude.{BuffersMatch, Next, None, Option, Phase, SeatedTask, Some, ap, map_next, refl, subst, sym, task_state, words_in}
use Rattle.vfs_gates.proofs.Prelude.{◌+◌, ◌∙◌, ◌≡◌}
use Rattle.vfs_gates.proofs.{Rooming.{FollowsBy, stepped_room}, Waiting.{noted_tells, since, since_begun, since_going}}
use Rattle.vfs_gates.{proofs.task.Task.step_as.Goals.{else-is_some, then-is_some}, specs.Waits.{counted, is_wait}}
use Rattle.gate_steps.{proofs.call_events.Turning.{agrees_at, stepped_there}, specs.call_events.Turns.state_at}
use Rattle.vfs_gates.proofs.task.Task.step_as.Goals as goal

pub do_event-action-requires : goal.do_event-action-requires
do_event-action-requires g c =
    let t = c.self.inside in
    let phase : Phase = g.P.PendingOp.as_phase c.args.under_way in
    let at : t.state.phase ≡ Some phase = ap (λ (s : SeatedTask). s.phase) c.self.view_is ∙ c.requires.at in
    let same : t.config ≡ c.args.gates.now.words.config = ap (λ (s : SeatedTask). s.config) c.self.view_is ∙ c.requires.from.1 in
    record {
      table = ap (λ (s : SeatedTask). s.table) c.self.view_is ∙ c.requires.from.0;
      agrees = record {
        number = t.number;
        flags = t.spare;
        ghost_agrees = agrees_at t.number t.begins t.spare t.seat.me.0.items t.state (Some phase) c.self.invariant.0 same at;
      };
    }

pub invariant_of-self : goal.invariant_of-self
invariant_of-self g c =
    let t = c.self.inside in
    let phase : Phase = g.P.PendingOp.as_phase c.args.under_way in
    let at : t.state.phase ≡ Some phase = ap (λ (s : SeatedTask). s.phase) c.self.view_is ∙ c.requires.at in
    let same : t.config ≡ c.args.gates.now.words.config = ap (λ (s : SeatedTask). s.config) c.self.view_is ∙ c.requires.from.1 in
    let next : Next Phase = map_next g.P.PendingOp.as_phase c.do_event-action.result.next in
    let stands = sym (ap (λ p. p.1) c.standing-progress.ensures) in
    let agrees = c.do_event-action.ensures.seated.agrees t.number t.spare
    (agrees_at t.number t.begins t.spare t.seat.me.0.items t.state (Some phase) c.self.invariant.0 same at) in
    let so_far : c.if-is_some.so_far ≡ since t.begins t.waited = elim c.if-is_some.branch [
      | then-is_some w ↦ w.so_far-is ∙ sym (since_begun t.begins t.waited (sym c.is_some.ensures ∙ w.if-is_some.true))
      | else-is_some w ↦ w.so_far-is ∙ sym (since_going t.begins t.waited (sym c.is_some.ensures ∙ w.if-is_some.false))
    ] in
    let noted : c.saturating_add-self-inside.result ≡ counted (since t.begins t.waited + is_wait next) =
    c.saturating_add-self-inside.ensures ∙ ((λ i. counted (so_far i + c.waits.ensures i))) in (
      agrees_at t.number None t.spare c.do_event-action.new.seat.me.0.items (state_at _ c.do_event-action.new.accesses) c.standing-progress.result.1 agrees
          (sym same) stands,
      c.do_event-action.ensures.seated.same_slots ∙ c.self.invariant.1,
      subst (λ (o : Option Phase). BuffersMatch t.config.nodes (words_in c.follow.new.self) None o c.do_event-action.new.seat.me.0.items)
          stands
          (stepped_room t.config.nodes (words_in t.buffers) (words_in c.follow.new.self) t.begins phase c.args.hook t.seat.table_id
          c.do_event-action.new.seat.table_id c.args.gates.now.words.config t.seat.me.0.items c.do_event-action.new.seat.me.0.items
          c.do_event-action.result.event c.do_event-action.result.action next t.number
          (state_at (Some phase) t.state.accesses) t.spare
          (agrees_at t.number t.begins t.spare t.seat.me.0.items t.state (Some phase) c.self.invariant.0 same at)
          c.do_event-action.ensures.stepped
          (subst (λ (o : Option Phase). BuffersMatch t.config.nodes (words_in t.buffers) t.begins o t.seat.me.0.items) at c.self.invariant.2)
          (λ found. subst (λ (p : Phase). FollowsBy (words_in c.self.inside.buffers) (words_in c.follow.new.self) c.do_event-action.result.event p t.config.nodes t.begins c.args.hook found t.seat.me.0.items) c.phase.ensures
          (c.follow.ensures t.config.nodes t.begins c.args.hook found t.seat.me.0.items))),
      noted_tells same t.begins phase c.args.hook t.seat.table_id c.do_event-action.new.seat.table_id t.seat.me.0.items
          c.do_event-action.new.seat.me.0.items c.do_event-action.result.event c.do_event-action.result.action next
          t.number t.waited c.saturating_add-self-inside.result t.state.accesses t.spare
          (agrees_at t.number t.begins t.spare t.seat.me.0.items t.state (Some phase) c.self.invariant.0 same at)
          c.do_event-action.ensures.stepped c.self.invariant.3 noted,
    )

pub returns-clause-event : goal.returns-clause-event
returns-clause-event g c =
    let t = c.self.inside in
    let phase : Phase = g.P.PendingOp.as_phase c.args.under_way in
    let at : t.state.phase ≡ Some phase = ap (λ (s : SeatedTask). s.phase) c.self.view_is ∙ c.requires.at in
    let same : t.config ≡ c.args.gates.now.words.config = ap (λ (s : SeatedTask). s.config) c.self.view_is ∙ c.requires.from.1 in
    let next : Next Phase = map_next g.P.PendingOp.as_phase c.do_event-action.result.next in
    let stands = sym (ap (λ p. p.1) c.standing-progress.ensures) in
    let told = sym (ap (λ p. p.0) c.standing-progress.ensures) in
    let before = (λ i. task_state t.seat.table_id (sym same i) t.begins (sym at i) t.seat.me.0) ∙ c.self.view_is in
    stepped_there c.do_event-action.ensures.stepped before
    (λ i. record { event = Some c.do_event-action.result.event; action = c.do_event-action.result.action; progress = told i })
    (λ i. task_state c.do_event-action.new.seat.table_id (sym same i) None (stands i) c.do_event-action.new.seat.me.0) refl
