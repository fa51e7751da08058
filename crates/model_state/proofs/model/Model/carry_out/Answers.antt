-- An action leaves what it says.
use Rattle.access_model.specs.Actions.{MayDo, after_close, after_remove, levels_after, mounts_after, opens_after}
use Rattle.access_model.specs.{States.{openers, size_of, used_blocks}, declared.actions.Action.TheVariants.{Close, Grant, Grow, Open, Remove, Return}}
use Rattle.finite_sums.proofs.Totals.{total_at}
use Rattle.std.proofs.{Common.{None, ap, arith, length, subst, sym, ◌<◌, ◌∙◌, ◌≡◌, ◌≤◌}, lemmas.List.get_or_default}
use Rattle.model_state.proofs.Changes.{held_after, held_kept, inside_after, inside_kept, node_after, open_after, open_kept}
use Rattle.model_state.specs.Shown.{bounded_state_of, limits_of, opens_of, state_of, tree_of}
use Rattle.model_state.proofs.model.Model.carry_out.Goals as goal

-- a file's blocks are a part of all blocks, which stay within the capacity, so the sum fits
pub grow-requires : goal.grow-requires
unfolding bounded_state_of
grow-requires c =
    let m = c.args.self.now in
    let n = c.in-Grow.node in
    let may : MayDo (limits_of m) (state_of m) c.args.task (Grow n c.in-Grow.blocks) =
    subst (λ a. MayDo (limits_of m) (state_of m) c.args.task a) c.in-Grow.is c.requires.1 in
    let lt : n < length m.nodes.items = omega (arith, may.1, m.nodes.ok.0) in
    let same : tree_of m.nodes.items n ≡ c.index_mut-in-Grow.result.now =
    get_or_default m.nodes.items n None c.index_mut-in-Grow.result.now lt ∙ sym c.index_mut-in-Grow.ensures.value in
    let part : size_of (tree_of m.nodes.items n) ≤ used_blocks (limits_of m) (state_of m) =
    total_at m.nodes.len n (λ x. size_of (tree_of m.nodes.items x)) may.1 in
    omega (arith, part, may.4, ap size_of same, m.small_capacity)

-- the task's accesses are written back with one more
pub returns-in-Grant : goal.returns-in-Grant
unfolding bounded_state_of
returns-in-Grant c =
    let m = c.args.self.now in
    let gate = c.in-Grant.gate in
    let lt : c.args.task < length m.accesses.items = omega (arith, c.requires.0, m.each_task, m.accesses.ok.0) in
    let old = c.index_mut in
    let held = held_after m.accesses.items c.args.task lt old.result.now c.grant.new.self old.ensures.value
    (mounts_after (Grant gate)) c.grant.ensures.mounts in
    let inside = inside_after m.accesses.items c.args.task lt old.result.now c.grant.new.self old.ensures.value
    (levels_after (Grant gate)) c.grant.ensures.levels in
    let open_files = open_kept m.accesses.items c.args.task lt old.result.now c.grant.new.self old.ensures.value c.grant.ensures.files in
    rw c.in-Grant.is (λ i. record {
      limits = limits_of m;
      state = record (state_of m) { mounts = held i; levels = inside i; opens = open_files i };
    })

-- and with one less
pub returns-in-Return : goal.returns-in-Return
unfolding bounded_state_of
returns-in-Return c =
    let m = c.args.self.now in
    let gate = c.in-Return.gate in
    let lt : c.args.task < length m.accesses.items = omega (arith, c.requires.0, m.each_task, m.accesses.ok.0) in
    let old = c.index_mut-in-Return in
    let held = held_after m.accesses.items c.args.task lt old.result.now c.give_back.new.self old.ensures.value
    (mounts_after (Return gate)) c.give_back.ensures.mounts in
    let inside = inside_after m.accesses.items c.args.task lt old.result.now c.give_back.new.self old.ensures.value
    (levels_after (Return gate)) c.give_back.ensures.levels in
    let open_files =
    open_kept m.accesses.items c.args.task lt old.result.now c.give_back.new.self old.ensures.value c.give_back.ensures.files in
    rw c.in-Return.is (λ i. record {
      limits = limits_of m;
      state = record (state_of m) { mounts = held i; levels = inside i; opens = open_files i };
    })

-- the node of a file that is removed
pub returns-in-Remove : goal.returns-in-Remove
unfolding bounded_state_of
returns-in-Remove c =
    let m = c.args.self.now in
    let n = c.in-Remove.node in
    let may : MayDo (limits_of m) (state_of m) c.args.task (Remove n) =
    subst (λ a. MayDo (limits_of m) (state_of m) c.args.task a) c.in-Remove.is c.requires.1 in
    let lt : n < length m.nodes.items = omega (arith, may.1, m.nodes.ok.0) in
    let old = c.index_mut-in-Remove in
    let tree = node_after m.nodes.items n lt old.result.now c.unlink.new.node old.ensures.value
    (after_remove (openers (opens_of m.accesses.items) n)) (c.unlink.ensures ∙ ap (λ k. after_remove k old.result.now) c.openers-openers.ensures) in
    rw c.in-Remove.is (λ i. record { limits = limits_of m; state = record (state_of m) { tree = tree i } })

-- the task has one file more open
pub returns-in-Open : goal.returns-in-Open
unfolding bounded_state_of
returns-in-Open c =
    let m = c.args.self.now in
    let n = c.in-Open.node in
    let lt : c.args.task < length m.accesses.items = omega (arith, c.requires.0, m.each_task, m.accesses.ok.0) in
    let old = c.index_mut-in-Open in
    let new = c.set_open in
    let held = held_kept m.accesses.items c.args.task lt old.result.now new.new.self old.ensures.value new.ensures.mounts in
    let inside = inside_kept m.accesses.items c.args.task lt old.result.now new.new.self old.ensures.value new.ensures.levels in
    let open_files = open_after m.accesses.items c.args.task lt old.result.now new.new.self old.ensures.value (opens_after (Open n)) new.ensures.files in
    rw c.in-Open.is (λ i. record {
      limits = limits_of m;
      state = record (state_of m) { mounts = held i; levels = inside i; opens = open_files i };
    })

-- and one less
pub returns-in-Close : goal.returns-in-Close
unfolding bounded_state_of
returns-in-Close c =
    let m = c.args.self.now in
    let n = c.in-Close.node in
    let may : MayDo (limits_of m) (state_of m) c.args.task (Close n) =
    subst (λ a. MayDo (limits_of m) (state_of m) c.args.task a) c.in-Close.is c.requires.1 in
    let lt : c.args.task < length m.accesses.items = omega (arith, c.requires.0, m.each_task, m.accesses.ok.0) in
    let old = c.index_mut-in-Close in
    let new = c.set_open-in-Close in
    let held = held_kept m.accesses.items c.args.task lt old.result.now new.new.self old.ensures.value new.ensures.mounts in
    let inside = inside_kept m.accesses.items c.args.task lt old.result.now new.new.self old.ensures.value new.ensures.levels in
    let open_files = open_after m.accesses.items c.args.task lt old.result.now new.new.self old.ensures.value (opens_after (Close n)) new.ensures.files in
    let there : n < length m.nodes.items = omega (arith, may.0, m.nodes.ok.0) in
    let node = c.index_mut-in-Close-2 in
    let tree = node_after m.nodes.items n there node.result.now c.close.new.node node.ensures.value
    (after_close (openers (opens_of m.accesses.items) n))
    (c.close.ensures ∙ ap (λ k. after_close k node.result.now) c.openers-openers-in-Close.ensures) in
    rw c.in-Close.is (λ i. record {
      limits = limits_of m;
      state = record (state_of m) { mounts = held i; levels = inside i; opens = open_files i; tree = tree i };
    })
