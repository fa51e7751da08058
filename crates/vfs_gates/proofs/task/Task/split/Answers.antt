use Rattle.vfs_gates.proofs.Prelude.{DealtNumbers, Empty, GhostAgrees, None, SeatedTask, SplitOf, TaskState, View, ap, arith, false, length}
use Rattle.vfs_gates.proofs.Prelude.{own_number, own_view, refl, spare_of, subst, sym, task_state, times, words_in, ℕ, ◌∙◌, ◌≡◌, ◌≤◌}
use Rattle.vfs_gates.proofs.{Parting.{lowest_there, none_begun, none_there, split_new, split_self}, Resting.given_empty, Rooming.given_unseen}
use Rattle.vfs_gates.proofs.{Rooming.{kept_view, room_new, room_same}, Waiting.{given_tells, kept_number, tell_same}}
use Rattle.std.proofs.{Common.set, lemmas.Result.err_from_is_err_and}
use Rattle.vfs_gates.proofs.task.Task.split.Goals as goal

pub invariant_of-result : goal.invariant_of-result
invariant_of-result c = let old = c.self.inside in let n : ℕ = c.in-Some.number in let low = c.in-Some.ensures.some in
    let m = split_new old.number old.config old.begins old.state old.spare old.seat.me.0.items n c.none.result c.idle.result c.self.invariant.0
    low.1 low.0 c.none.ensures.unset c.idle.ensures in
    let given = c.give-seat.ensures.given in
    let ghost_agrees = subst (λ (l : DealtNumbers). GhostAgrees n old.config None c.idle.result c.none.result l) (sym (ap (λ z. z.0.items) given)) m in (
      ghost_agrees,
      ap (λ z. z.1) given,
      room_new old.config.nodes _ None c.idle.result.phase c.give-seat.result.me.0.items c.in_ok-buffers.ensures.0 c.in_ok-buffers.ensures.1
          (ap (λ z. (own_view z.0.items).snapshot) given ∙ given_unseen n old.seat.me.0.items) (ap (λ (k : TaskState). k.phase) c.idle.ensures),
      given_tells n old.config c.idle.result c.none.result n old.seat.me.0.items c.give-seat.result.me.0.items (ap (λ z. z.0.items) given) ghost_agrees
          (ap (λ (k : TaskState). k.phase) c.idle.ensures),
    )

pub invariant_of-self : goal.invariant_of-self
invariant_of-self c = let old = c.self.inside in let n : ℕ = c.in-Some.number in let low = c.in-Some.ensures.some in
    let long : length old.spare ≡ 64 = c.self.told in
    let m = split_self old.number old.config old.begins old.state old.spare old.seat.me.0.items n c.self.invariant.0 (omega arith) in
    let kept = c.give-seat.ensures.kept in (
      subst (λ (l : DealtNumbers). GhostAgrees old.number old.config old.begins old.state (set old.spare n false) l) (sym (ap (λ z. z.0.items) kept)) m,
      ap (λ z. z.1) kept ∙ c.self.invariant.1,
      room_same old.config.nodes (words_in old.buffers) old.begins old.state.phase old.seat.me.0.items c.give-seat.new.seat.me.0.items
          (ap (λ z. own_view z.0.items) kept ∙ kept_view n old.seat.me.0.items) c.self.invariant.2,
      tell_same old.config old.seat.me.0.items c.give-seat.new.seat.me.0.items old.waited
          (ap (λ z. own_number z.0.items) kept ∙ kept_number n old.seat.me.0.items)
          (ap (λ z. own_view z.0.items) kept ∙ kept_view n old.seat.me.0.items) c.self.invariant.3,
    )

pub returns-clause-made : goal.returns-clause-made
returns-clause-made c =
    let old = c.self.inside in
    let n : ℕ = c.in-Some.number in
    let low = c.in-Some.ensures.some in
    let ghost_agrees = c.self.invariant.0 in
    let idle : old.state.phase ≡ None = ap (λ (s : SeatedTask). s.phase) c.self.view_is ∙ c.if-not-is_idle.ensures.0 refl in
    let spares = lowest_there old.number old.config old.begins old.state old.spare old.seat.me.0.items n ghost_agrees low.1 low.2 in
    let begun = none_begun old.number old.config old.begins old.state old.spare old.seat.me.0.items ghost_agrees idle in
    let given = c.give-seat.ensures in
    subst (λ (s : SeatedTask). SplitOf s
    (task_state c.give-seat.new.seat.table_id old.config old.begins old.state.phase c.give-seat.new.seat.me.0)
    (task_state c.give-seat.result.table_id old.config None c.idle.result.phase c.give-seat.result.me.0)) c.self.view_is
    (record {
      number = n;
      idle = idle;
      there = spares.0;
      lowest = spares.1;
      kept = λ i. task_state (given.table.0 i) old.config old.begins old.state.phase (given.kept i).0;
      given = λ i. task_state (given.table.1 i) old.config (sym begun i) ((ap (λ (k : TaskState). k.phase) c.idle.ensures ∙ sym idle) i)
          (given.given i).0;
    })

pub returns-clause-rests : goal.returns-clause-rests
returns-clause-rests c =
    let old = c.self.inside in
    let n : ℕ = c.in-Some.number in
    let low = c.in-Some.ensures.some in
    let ghost_agrees = c.self.invariant.0 in
    let idle : old.state.phase ≡ None = ap (λ (s : SeatedTask). s.phase) c.self.view_is ∙ c.if-not-is_idle.ensures.0 refl in
    let spares = lowest_there old.number old.config old.begins old.state old.spare old.seat.me.0.items n ghost_agrees low.1 low.2 in
    let given = given_empty old.number old.config old.begins old.state old.spare old.seat.me.0.items n ghost_agrees spares.0 in (
      (
        ap (λ (k : TaskState). k.phase) c.idle.ensures,
        subst (λ (l : DealtNumbers). Empty old.config (own_view l)) (sym (ap (λ z. z.0.items) c.give-seat.ensures.given)) given,
      ),
      (λ rests. (
        idle,
        subst (λ (v : View). Empty old.config v) (sym (ap (λ z. own_view z.0.items) c.give-seat.ensures.kept ∙ kept_view n old.seat.me.0.items))
            (subst (λ (s : SeatedTask). Empty s.config (own_view s.items)) (sym c.self.view_is) rests.1),
      )),
    )

pub returns-in_default : goal.returns-in_default
returns-in_default c =
    let old = c.self.inside in record {
      table = refl;
      config = refl;
      from = tt;
      made = tt;
      refused = (
        refl,
        (
          c.if-not-is_idle.ensures.0 refl,
          λ n. subst (λ (s : SeatedTask). times n (spare_of s.items) ≡ 0) c.self.view_is
              (none_there old.number old.config old.begins old.state old.spare old.seat.me.0.items c.self.invariant.0 c.in_default.ensures.none n),
        ),
      );
      rests = tt;
    }

pub returns-in_err-buffers : goal.returns-in_err-buffers
returns-in_err-buffers c =
    let old = c.self.inside in
    let n : ℕ = c.in-Some.number in
    let low = c.in-Some.ensures.some in
    let spares = lowest_there old.number old.config old.begins old.state old.spare old.seat.me.0.items n c.self.invariant.0 low.1 low.2 in
    let there : 1 ≤ times n (spare_of c.args.self.now.items) =
    subst (λ (s : SeatedTask). 1 ≤ times n (spare_of s.items)) c.self.view_is spares.0 in
    let p = err_from_is_err_and c.from_residual.result c.from_residual.ensures.1 in rw (p.1, p.2) (record {
      table = refl;
      config = refl;
      from = tt;
      made = tt;
      refused = (refl, (c.if-not-is_idle.ensures.0 refl, λ gave. let none : times n (spare_of c.args.self.now.items) ≡ 0 = gave n in absurd (omega arith)));
      rests = tt;
    })
