-- a new model is the opening state
use Rattle.access_model.specs.States.{root}
use Rattle.std.proofs.{Common.{None, Some, ap, arith, false, replicate, ◌<◌, ◌∙◌, ◌≡◌}, Math.ListN.set, lemmas.Grind.common_steps}
use Rattle.model_state.proofs.Opening.{no_access, no_flag, nobody_inside, nothing_held, nothing_open, root_alone}
use Rattle.model_state.specs.Shown.{bounded_state_of, held_of, inside_of, opens_of, tree_of}
use Rattle.model_state.proofs.model.Model.new.Goals as goal

pub returns-clause-opens : goal.returns-clause-opens
unfolding bounded_state_of
returns-clause-opens c =
    let tree : c.in_ok-tree.tree.items ≡ replicate c.args.nodes None =
    c.in_ok-tree.ensures.items_if_clones_equal (λ y h. grind (arith, common_steps)) in
    let accesses : c.in_ok-vec.field-0.items ≡ replicate c.args.tasks no_access =
    c.in_ok-vec.ensures.items_if_clones_equal (λ y e. e) in
    let nodes : c.in_ok-tree.tree.len ≡ c.args.nodes = c.in_ok-tree.ensures.len in
    let some : 0 < c.args.nodes = grind (arith, common_steps) in
    let held = ap held_of accesses ∙ nothing_held c.args.tasks in
    let inside = ap inside_of accesses ∙ nobody_inside c.args.tasks in
    let open_files = ap opens_of accesses ∙ nothing_open c.args.tasks in
    let alone = ap (λ xs. tree_of (set xs 0 (Some root))) tree ∙ root_alone c.args.nodes some in
    λ i. record {
      limits = record { tasks = c.args.tasks; mounts = c.args.mounts; nodes = nodes i; capacity = c.args.capacity };
      state = record { mounts = held i; levels = inside i; opens = open_files i; mount_ro = no_flag i; sb_ro = false; stage = 0; holders = c.none.ensures i; passed = 0; tree = alone i };
    }
