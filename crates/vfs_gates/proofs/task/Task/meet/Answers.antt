-- both tasks are as they were, but for what they have seen
use Rattle.vfs_gates.proofs.Prelude.{BuffersMatch, Config, DealtNumbers, Entry, GhostAgrees, List, Meets, SeatedTask, WaitsTell, ap, own_number}
use Rattle.vfs_gates.proofs.Prelude.{own_view, subst, sym, task_state, words_in, ◌++◌, ◌∙◌, ◌≡◌}
use Rattle.gate_steps.specs.Meetings.{StandsNow}
use Rattle.vfs_gates.proofs.task.Task.meet.Goals as goal

pub invariant_of-self : goal.invariant_of-self
invariant_of-self c =
    let old = c.self.inside in
    let same = sym c.meet.ensures.items.0 in (
      subst (λ (l : DealtNumbers). GhostAgrees old.number old.config old.begins old.state old.spare l) same c.self.invariant.0,
      c.meet.ensures.slots.0,
      subst (λ (l : DealtNumbers). BuffersMatch old.config.nodes (words_in old.buffers) old.begins old.state.phase l) same c.self.invariant.2,
      subst (λ (l : DealtNumbers). WaitsTell old.config (own_number l) (own_view l) old.waited) same c.self.invariant.3,
    )

pub invariant_of-other : goal.invariant_of-other
invariant_of-other c =
    let old = c.other.inside in
    let same = sym c.meet.ensures.items.1 in (
      subst (λ (l : DealtNumbers). GhostAgrees old.number old.config old.begins old.state old.spare l) same c.other.invariant.0,
      c.meet.ensures.slots.1,
      subst (λ (l : DealtNumbers). BuffersMatch old.config.nodes (words_in old.buffers) old.begins old.state.phase l) same c.other.invariant.2,
      subst (λ (l : DealtNumbers). WaitsTell old.config (own_number l) (own_view l) old.waited) same c.other.invariant.3,
    )

pub returns : goal.returns
returns c =
    let one = c.self.inside in
    let two = c.other.inside in
    let config : two.config ≡ one.config =
    ap (λ (s : SeatedTask). s.config) c.other.view_is ∙ (c.requires.that.1 ∙ sym (ap (λ (s : SeatedTask). s.config) c.self.view_is ∙ c.requires.this.1)) in
    let its : c.args.gates.now.words.config ≡ one.config = sym (ap (λ (s : SeatedTask). s.config) c.self.view_is ∙ c.requires.this.1) in
    let seen : List (List Entry) = c.meet.new.one.me.0.seen in
    let first : SeatedTask = task_state c.meet.new.one.table_id one.config one.begins one.state.phase c.meet.new.one.me.0 in
    let second : SeatedTask = task_state c.meet.new.two.table_id two.config two.begins two.state.phase c.meet.new.two.me.0 in
    subst (λ (s : SeatedTask). Meets s c.args.other.now first second) c.self.view_is
    (subst (λ (s : SeatedTask). Meets (task_state one.seat.table_id one.config one.begins one.state.phase one.seat.me.0) s first second) c.other.view_is
    (record {
      config = config;
      seen = seen;
      first = λ i. record {
        table = c.meet.ensures.table.0 i;
        config = one.config;
        begins = one.begins;
        phase = one.state.phase;
        items = c.meet.ensures.items.0 i;
        seen = seen;
      };
      second = λ i. record {
        table = c.meet.ensures.table.1 i;
        config = two.config;
        begins = two.begins;
        phase = two.state.phase;
        items = c.meet.ensures.items.1 i;
        seen = c.meet.ensures.seen i;
      };
      stand = subst (λ (k : Config). StandsNow k (one.seat.me.0.items ++ two.seat.me.0.items) (one.seat.me.0.seen ++ two.seat.me.0.seen) seen) its
          c.meet.ensures.stand;
    }))
