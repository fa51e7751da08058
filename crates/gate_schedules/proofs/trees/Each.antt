-- Each step keeps what holds of the tree, and moves the shown tree by its action or not at all.
use Rattle.gate_schedules.proofs.Prelude.{Action, AreWithin, Bounds, Clearing, Option, Out, TreeHolds, TreeState, ap, arith, charge, child_charge}
use Rattle.gate_schedules.proofs.Prelude.{each_updated, is_removed, node_shown, one_if, refl, removal, seen_as, suc, total_none, turned, update}
use Rattle.gate_schedules.proofs.Prelude.{update_off, zero, ℕ, ◌<◌, ◌≡◌, ◌≤◌}
use Rattle.{access_model.specs.States.size_of, finite_sums.proofs.Totals.total_zero, gated_tree.specs.{Roles.{Bare, HasParent}, Trees.is_child}}
use Rattle.node_words.{proofs.Words.{free_is_node, root_is_node}, specs.Nodes.IsNode}
use Rattle.gate_schedules.proofs.trees.Changes.{closes_file, creates, dirties, flushes, frees_file, grows, marks_removed, moves_to, opens_file}
use Rattle.gate_schedules.proofs.trees.{Changes.removes, Clearings.{clearing_begins, clearing_ends, clears, goes_bare, opens, passes, seals}}
use Rattle.gate_schedules.proofs.trees.Clearings.{snapshot_begins, snapshot_loads, stops_bare}
use Rattle.gate_schedules.proofs.trees.Counts.{charges_blocks, counts_removal, create_adds, create_fails, drops_blocks, finds_directory, finds_file}
use Rattle.gate_schedules.proofs.trees.Counts.{finds_last, finds_none, finds_room, finds_target, frees_blocks, grow_fails, leaves, looks, move_adds}
use Rattle.gate_schedules.proofs.trees.{Counts.{move_fails, refunds_blocks, remove_fails, subtracts_child, uncounts}, Laws.role_says}
use Rattle.gate_schedules.specs.trees.Events.{BeginsClearing, BeginsReading, ChargesBlocks, Clears, ClosesFile, CountsRemoval, CreateAdds}
use Rattle.gate_schedules.specs.trees.Events.{CreateFails, Creates, Dirties, DropsBlocks, Event, FindsDirectory, FindsFile, FindsLast, FindsNone}
use Rattle.gate_schedules.specs.trees.Events.{FindsRoom, FindsTarget, Flushes, FreesBlocks, FreesFile, GoesBare, GrowFails, Grows, Leaves, Looks}
use Rattle.gate_schedules.specs.trees.Events.{MarksRemoved, MoveAdds, MoveFails, Moves, MovesBy, Opens, OpensFile, Passes, Reads, RefundsBlocks}
use Rattle.gate_schedules.specs.trees.Events.{RemoveFails, Removes, Seals, StopsBare, SubtractsChild, Uncounts, opening_tree}

module _ (c : Bounds) (within : AreWithin c) (s : TreeState) (good : TreeHolds c s) (t : ℕ) (lt : t < c.tasks) where
  pub clearing_seals : (n : ℕ) → c.nodes ≤ n → s.at t ≡ Clearing n → TreeHolds c (record (turned s t Out) { sealed = 1 })
  clearing_seals n past is =
      let left : TreeHolds c (turned s t Out) =
      leaves c s good t lt (record { blocks = ap charge is; removed = ap removal is; children = λ d. ap (child_charge d) is }) in
      seals c (turned s t Out) left (clearing_ends c s good t lt n past is)

  -- the store that makes the superblock read-only
  pub remount_bares : s.at t ≡ Bare → TreeHolds c (record (turned s t Out) { bare = 1 })
  remount_bares is =
      let left : TreeHolds c (turned s t Out) =
      leaves c s good t lt (record { blocks = ap charge is; removed = ap removal is; children = λ d. ap (child_charge d) is }) in
      goes_bare c (turned s t Out) left (role_says c s good t lt Bare is)

  pub each_event : (next : TreeState) (action : Option Action) → Event c s t next action →
      TreeHolds c next × MovesBy c s.node next.node action
  each_event next action (FindsDirectory d dir is ld found) = (finds_directory c s good t lt d dir is ld found, (refl, refl))
  each_event next action (FindsFile n file is ln found) = (finds_file c s good t lt n file within is ln found, (refl, refl))
  each_event next action (FindsTarget file dir d is ld found) = (finds_target c s good t lt file dir d is ld found, (refl, refl))
  each_event next action (FindsRoom file b is some all own) = (finds_room c s good t lt file b is some all own, (refl, refl))
  each_event next action Looks = (looks c s good t lt, (refl, refl))
  each_event next action (Leaves none) = (leaves c s good t lt none, (refl, refl))
  each_event next action (CreateFails d is) = (create_fails c s good t lt d is, (refl, refl))
  each_event next action (MoveFails file d is) = (move_fails c s good t lt file d is, (refl, refl))
  each_event next action (GrowFails file b is) = (grow_fails c s good t lt file b is, (refl, refl))
  each_event next action (RemoveFails file is) = (remove_fails c s good t lt file is, (refl, refl))
  each_event next action (ChargesBlocks file b quiet is) = (charges_blocks c s good t lt file b quiet is, (refl, refl))
  each_event next action (RefundsBlocks b quiet is) = (refunds_blocks c s good t lt b within quiet is, (refl, refl))
  each_event next action (FreesBlocks b d quiet is) = (frees_blocks c s good t lt b d within quiet is, (refl, refl))
  each_event next action (DropsBlocks b quiet is) = (drops_blocks c s good t lt b within quiet is, (refl, refl))
  each_event next action (CountsRemoval file may is some) = (counts_removal c s good t lt file within may is some, (refl, refl))
  each_event next action (Uncounts is) = (uncounts c s good t lt within is, (refl, refl))
  each_event next action (CreateAdds d quiet is) = (create_adds c s good t lt d within quiet is, (refl, refl))
  each_event next action (MoveAdds file d quiet is) = (move_adds c s good t lt file d within quiet is, (refl, refl))
  each_event next action (SubtractsChild d quiet is) = (subtracts_child c s good t lt d within quiet is, (refl, refl))
  each_event next action (Creates n d kind quiet is ln free) = creates c s good t lt n d kind within quiet is ln free
  each_event next action (Removes file n quiet is ln found closed) = removes c s good t lt file n within quiet is ln found closed
  each_event next action (MarksRemoved file n quiet is ln found) = marks_removed c s good t lt file n within quiet is ln found
  each_event next action (Grows file b n quiet may is ln found) = grows c s good t lt file b n within quiet may is ln found
  each_event next action (Moves file d n quiet is ln found) = moves_to c s good t lt file d n within quiet is ln found
  each_event next action (Dirties file n quiet may is ln found) = dirties c s good t lt file n within quiet may is ln found
  each_event next action (Flushes file n may is ln found) = flushes c s good t lt file n within may is ln found
  each_event next action (OpensFile file n is ln found room) = opens_file c s good t lt file n within is ln found room
  each_event next action (ClosesFile file n is ln found kind lawful some stays) =
      closes_file c s good t lt file n within is ln found kind lawful some stays
  each_event next action (FindsLast file n is ln found removed one) =
      (finds_last c s good t lt file n is ln found removed one, (refl, refl))
  each_event next action (FreesFile file n quiet alone is) = frees_file c s good t lt file n within quiet alone is
  each_event next action (FindsNone is none) = (finds_none c s good t lt is none, (refl, refl))
  each_event next action (GoesBare is) = (remount_bares is, (refl, refl))
  each_event next action StopsBare = (stops_bare c s good, (refl, refl))
  each_event next action (BeginsClearing is) = (clearing_begins c s good t lt within is, (refl, refl))
  each_event next action (Clears n may is ln marked) = clears c s good t lt n within may is ln marked
  each_event next action (Passes n is ln none) = passes c s good t lt n is ln none
  each_event next action (Seals n past is) = (clearing_seals n past is, (refl, refl))
  each_event next action Opens = (opens c s good, (refl, refl))
  each_event next action (BeginsReading values is) = (snapshot_begins c s good t lt values is, (refl, refl))
  each_event next action (Reads k values loaded is word earlier) =
      (snapshot_loads c s good t lt k values loaded is (ap (seen_as c.nodes k) word) earlier, (refl, refl))

-- at the opening no node is a child but the root, which isn't counted
opening_child : (d n : ℕ) → is_child d n (node_shown (update (λ x. 0) 0 2 n)) ≡ 0
opening_child d zero = refl
opening_child d (suc n) = ap (λ w. is_child d (suc n) (node_shown w)) (update_off (λ x. 0) 0 2 (suc n) (λ e. absurd (omega arith)))

pub opening_holds : (c : Bounds) → AreWithin c → TreeHolds c opening_tree
opening_holds c within =
    let node : ℕ → ℕ = update (λ n. 0) 0 2 in
    let each : (P : ℕ → ℕ → Type 0) → P 0 2 → ((n : ℕ) → P n 0) → (n : ℕ) → P n (node n) =
    λ P root free n. each_updated P (λ n. 0) 0 2 n root (λ ne. free n) in
    record {
      words = λ n ln. each (λ n. IsNode) root_is_node (λ n. free_is_node) n;
      root = refl;
      parents = λ n ln. each (λ n w. HasParent c.nodes node (node_shown w)) (omega (arith, within.some_node), refl) (λ n. tt) n;
      blocks = omega (
        arith,
        total_none c.nodes (λ n. size_of (node_shown (node n))) (λ n ln. each (λ n w. size_of (node_shown w) ≡ 0) refl (λ n. refl) n),
        total_zero c.tasks,
      );
      room = omega arith;
      children = λ d ld. omega (
        arith,
        total_none c.nodes (λ n. is_child d n (node_shown (node n))) (λ n ln. opening_child d n),
        total_zero c.tasks,
      );
      removals = omega (
        arith,
        total_none c.nodes (λ n. one_if (is_removed (node_shown (node n))))
            (λ n ln. each (λ n w. one_if (is_removed (node_shown w)) ≡ 0) refl (λ n. refl) n),
        total_zero c.tasks,
      );
      none = λ e. refl;
      roles = λ t lt. tt;
      clean = λ e. absurd (omega (arith, e));
    }
