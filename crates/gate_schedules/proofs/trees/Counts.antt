-- Loads, and the steps at `used` and at the counts of children. None of them changes a node word, so the shown tree stays.
use Rattle.gate_schedules.proofs.Prelude.{AreWithin, Bounds, Freeing, HasNoCharge, Kind, NobodyReads, NodeInfo, NodeWord, Ok, Option, Out, Role}
use Rattle.gate_schedules.proofs.Prelude.{RoleHolds, Some, TreeHolds, TreeState, ap, arith, charge, child_charge, each_updated, is_removed}
use Rattle.gate_schedules.proofs.Prelude.{node_shown, one_if, refl, removal, suc, sym, total, total_at, total_bound, true, turned, update, wrap_add}
use Rattle.gate_schedules.proofs.Prelude.{zero, ℕ, ◌+◌, ◌<◌, ◌∙◌, ◌≡◌, ◌≤◌}
use Rattle.cpu_words.specs.Touches.{wrap_sub}
use Rattle.gated_tree.specs.Roles.{Bare, Charged, Dropped, Found, Freed, Growing, HasParent, IsDirectoryAt, IsFileNode, Loaded, MayGrow, MayRemove}
use Rattle.gated_tree.specs.{Roles.{Moving, Placing, Refunding, Removing, Returning, Targets, Uncounting}, Trees.{has_parent, is_child, is_same}}
use Rattle.node_words.proofs.Words.{any_file_loaded, directory_loaded, file_loaded, word_shows}
use Rattle.node_words.specs.Nodes.{any_file_in, directory_in, file_in, info_of}
use Rattle.gate_schedules.proofs.{frames.Openers.one_le, trees.Laws.{all_change, counts_change, moves, role_says, same_here, same_off}}
use Rattle.gate_schedules.specs.trees.Events.{with_kids, with_removed, with_used}

parent_le : (d : ℕ) (entry : Option NodeInfo) → has_parent d entry ≤ 1
parent_le d entry = grind arith

pub child_le : (d n : ℕ) (entry : Option NodeInfo) → is_child d n entry ≤ 1
child_le d zero entry = omega arith
child_le d (suc n) entry = parent_le d entry

pub child_charge_le : (d : ℕ) (r : Role) → child_charge d r ≤ 1
child_charge_le d r = grind arith

removal_le : (r : Role) → removal r ≤ 1
removal_le r = grind arith

-- what the tree says of the parent of a file that was loaded
file_parent : (c : Bounds) (node : ℕ → ℕ) (word : ℕ) (file : NodeWord) → node_shown word ≡ info_of file → file.kind ≡ Some Kind.File →
    HasParent c.nodes node (node_shown word) → IsDirectoryAt c.nodes node file.parent
file_parent c node word file shows kind h = grind arith

module _ (c : Bounds) (s : TreeState) (good : TreeHolds c s) (t : ℕ) (lt : t < c.tasks) where
  pub looks : TreeHolds c (turned s t (s.at t))
  looks = moves c s good t lt (s.at t) refl refl (λ d. refl) (good.roles t lt)

  -- a load finds a directory to create in
  pub finds_directory : (d : ℕ) (dir : NodeWord) → s.at t ≡ Out → d < c.nodes → directory_in (s.node d) ≡ Some (Ok dir) →
      TreeHolds c (turned s t (Found d))
  finds_directory d dir is ld found =
      moves c s good t lt (Found d) (sym (ap charge is)) (sym (ap removal is)) (λ e. sym (ap (child_charge e) is))
      (ld, directory_loaded (s.node d) dir (good.words d ld).packed found)

  pub finds_file : (n : ℕ) (file : NodeWord) → AreWithin c → s.at t ≡ Out → n < c.nodes → file_in (s.node n) ≡ Some (Ok file) →
      TreeHolds c (turned s t (Loaded file))
  finds_file n file within is ln found =
      let read = file_loaded (s.node n) file (good.words n ln).packed found in
      let is_file = read.0 in
      let parent : IsDirectoryAt c.nodes s.node file.parent =
      file_parent c s.node (s.node n) file
      (ap node_shown (sym is_file.same) ∙ word_shows file is_file.lawful.parent is_file.lawful.few) is_file.kind (good.parents n ln) in
      moves c s good t lt (Loaded file) (sym (ap charge is)) (sym (ap removal is)) (λ e. sym (ap (child_charge e) is))
      (record { kind = is_file.kind; parent = parent.0; opens = is_file.lawful.few; linked = read.1 })

  pub finds_target : (file dir : NodeWord) (d : ℕ) → s.at t ≡ Loaded file → d < c.nodes → directory_in (s.node d) ≡ Some (Ok dir) →
      TreeHolds c (turned s t (Targets file d))
  finds_target file dir d is ld found =
      moves c s good t lt (Targets file d) (sym (ap charge is)) (sym (ap removal is)) (λ e. sym (ap (child_charge e) is))
      (role_says c s good t lt (Loaded file) is, (ld, directory_loaded (s.node d) dir (good.words d ld).packed found))

  pub finds_room : (file : NodeWord) (b : ℕ) → s.at t ≡ Loaded file → 0 < b → s.used + b ≤ c.capacity → file.size + b ≤ c.capacity →
      TreeHolds c (turned s t (Growing file b s.used))
  finds_room file b is some all own =
      moves c s good t lt (Growing file b s.used) (sym (ap charge is)) (sym (ap removal is)) (λ e. sym (ap (child_charge e) is))
      (record { loaded = role_says c s good t lt (Loaded file) is; some = some; size = own }, all)

  -- what charges nothing may end at any time
  pub leaves : HasNoCharge (s.at t) → TreeHolds c (turned s t Out)
  leaves none = moves c s good t lt Out (sym none.blocks) (sym none.removed) (λ e. sym (none.children e)) tt

  -- the compare-exchange of a create fails: the charge stands until it is subtracted
  pub create_fails : (d : ℕ) → s.at t ≡ Placing d → TreeHolds c (turned s t (Returning d))
  create_fails d is =
      moves c s good t lt (Returning d) (sym (ap charge is)) (sym (ap removal is)) (λ e. sym (ap (child_charge e) is))
      (role_says c s good t lt (Placing d) is).0

  pub move_fails : (file : NodeWord) (d : ℕ) → s.at t ≡ Moving file d → TreeHolds c (turned s t (Returning d))
  move_fails file d is =
      moves c s good t lt (Returning d) (sym (ap charge is)) (sym (ap removal is)) (λ e. sym (ap (child_charge e) is))
      (role_says c s good t lt (Moving file d) is).1.0

  pub grow_fails : (file : NodeWord) (b : ℕ) → s.at t ≡ Charged file b → TreeHolds c (turned s t (Refunding b))
  grow_fails file b is = moves c s good t lt (Refunding b) (sym (ap charge is)) (sym (ap removal is)) (λ e. sym (ap (child_charge e) is)) tt

  -- blocks are charged: the compare-exchange found what was loaded
  pub charges_blocks : (file : NodeWord) (b : ℕ) → NobodyReads c s → s.at t ≡ Growing file b s.used →
      TreeHolds c (with_used s (s.used + b) t (Charged file b))
  charges_blocks file b quiet is =
      let h : MayGrow c file b × (s.used + b ≤ c.capacity) = role_says c s good t lt (Growing file b s.used) is in
      counts_change c s good t lt (Charged file b) (s.used + b) s.kids (omega (arith, ap charge is)) h.1 (sym (ap removal is))
      (λ d ld. omega (arith, ap (child_charge d) is)) (λ i q. absurd (omega (arith, q, quiet))) h.0

  -- blocks are subtracted again, by a role that then charges so many less
  pub subtracts_blocks : (b : ℕ) (r : Role) → AreWithin c → NobodyReads c s → charge (s.at t) ≡ charge r + b → removal r ≡ removal (s.at t) →
      ((d : ℕ) → child_charge d r ≡ child_charge d (s.at t)) → RoleHolds c (wrap_sub s.used b) s.removed s.node s.kids r →
      TreeHolds c (with_used s (wrap_sub s.used b) t r)
  subtracts_blocks b r within quiet e same k own =
      let least : charge (s.at t) ≤ total c.tasks (λ x. charge (s.at x)) = total_at c.tasks t (λ x. charge (s.at x)) lt in
      let less : wrap_sub s.used b + b ≡ s.used = omega (arith, e, least, good.blocks, good.room, within.capacity) in
      counts_change c s good t lt r (wrap_sub s.used b) s.kids (omega (arith, e, less)) (omega (arith, less, good.room)) same
      (λ d ld. omega (arith, k d)) (λ i q. absurd (omega (arith, q, quiet))) own

  -- after a failed grow
  pub refunds_blocks : (b : ℕ) → AreWithin c → NobodyReads c s → s.at t ≡ Refunding b → TreeHolds c (with_used s (wrap_sub s.used b) t Out)
  refunds_blocks b within quiet is =
      subtracts_blocks b Out within quiet (omega (arith, ap charge is)) (sym (ap removal is)) (λ d. sym (ap (child_charge d) is)) tt

  -- and after a remove
  pub frees_blocks : (b d : ℕ) → AreWithin c → NobodyReads c s → s.at t ≡ Freed b d →
      TreeHolds c (with_used s (wrap_sub s.used b) t (Returning d))
  frees_blocks b d within quiet is =
      subtracts_blocks b (Returning d) within quiet (omega (arith, ap charge is)) (sym (ap removal is)) (λ e. sym (ap (child_charge e) is))
      (role_says c s good t lt (Freed b d) is)

  pub drops_blocks : (b : ℕ) → AreWithin c → NobodyReads c s → s.at t ≡ Dropped b → TreeHolds c (with_used s (wrap_sub s.used b) t Uncounting)
  drops_blocks b within quiet is =
      subtracts_blocks b Uncounting within quiet (omega (arith, ap charge is)) (sym (ap removal is)) (λ d. sym (ap (child_charge d) is)) tt

  pub remove_fails : (file : NodeWord) → s.at t ≡ Removing file → TreeHolds c (turned s t Uncounting)
  remove_fails file is = moves c s good t lt Uncounting (sym (ap charge is)) (sym (ap removal is)) (λ e. sym (ap (child_charge e) is)) tt

  pub few_removals : AreWithin c → s.removed ≤ 128
  few_removals within = omega (
    arith,
    good.removals,
    within.tasks,
    within.nodes,
    total_bound c.nodes 1 (λ n. one_if (is_removed (node_shown (s.node n)))) (λ x lx. one_le (is_removed (node_shown (s.node x)))),
    total_bound c.tasks 1 (λ x. removal (s.at x)) (λ x lx. removal_le (s.at x)),
  )

  pub counts_removal : (file : NodeWord) → AreWithin c → MayRemove c s → s.at t ≡ Loaded file → 1 ≤ file.opens →
      TreeHolds c (with_removed s (wrap_add s.removed 1) t (Removing file))
  counts_removal file within may is some =
      let few : s.removed ≤ 128 = few_removals within in
      let more : wrap_add s.removed 1 ≡ s.removed + 1 = omega (arith, few) in
      all_change c s good t lt (Removing file) s.used (wrap_add s.removed 1) s.kids (omega (arith, ap charge is)) good.room
      (omega (arith, more, ap removal is)) (λ bare. absurd (may.writable bare)) (λ l z. absurd (omega (arith, l, may.nobody_bares)))
      (λ d ld. omega (arith, ap (child_charge d) is)) (λ i q. refl) (role_says c s good t lt (Loaded file) is, some)

  pub uncounts : AreWithin c → s.at t ≡ Uncounting → TreeHolds c (with_removed s (wrap_sub s.removed 1) t Out)
  uncounts within is =
      let few : s.removed ≤ 128 = few_removals within in
      let own : removal (s.at t) ≤ total c.tasks (λ x. removal (s.at x)) = total_at c.tasks t (λ x. removal (s.at x)) lt in
      let some : 1 ≤ s.removed = omega (arith, good.removals, own, ap removal is) in
      let less : wrap_sub s.removed 1 + 1 ≡ s.removed = omega (arith, few, some) in
      all_change c s good t lt Out s.used (wrap_sub s.removed 1) s.kids (omega (arith, ap charge is)) good.room
      (omega (arith, less, ap removal is)) (λ bare. absurd (omega (arith, some, good.none bare))) (λ l z. absurd (omega (arith, some, z)))
      (λ d ld. omega (arith, ap (child_charge d) is)) (λ i q. refl) tt

  pub finds_last : (file : NodeWord) (n : ℕ) → s.at t ≡ Out → n < c.nodes → any_file_in (s.node n) ≡ Some (Ok file) → file.removed ≡ true →
      file.opens ≡ 1 →
      TreeHolds c (turned s t (Freeing n file))
  finds_last file n is ln found removed opens =
      let read = any_file_loaded (s.node n) file (good.words n ln).packed found in
      moves c s good t lt (Freeing n file) (sym (ap charge is)) (sym (ap removal is)) (λ e. sym (ap (child_charge e) is))
      (ln, record { kind = read.kind; word = sym read.same; parent = read.lawful.parent; opens = opens; removed = removed })

  pub finds_none : s.at t ≡ Out → s.removed ≡ 0 → TreeHolds c (turned s t Bare)
  finds_none is none = moves c s good t lt Bare (sym (ap charge is)) (sym (ap removal is)) (λ e. sym (ap (child_charge e) is)) none

  pub few_children : (d : ℕ) → d < c.nodes → AreWithin c → s.kids d ≤ 128
  few_children d ld within = omega (
    arith,
    good.children d ld,
    within.tasks,
    within.nodes,
    total_bound c.nodes 1 (λ n. is_child d n (node_shown (s.node n))) (λ x lx. child_le d x (node_shown (s.node x))),
    total_bound c.tasks 1 (λ x. child_charge d (s.at x)) (λ x lx. child_charge_le d (s.at x)),
  )

  pub adds_child : (d : ℕ) (r : Role) → AreWithin c → NobodyReads c s → d < c.nodes → charge r ≡ charge (s.at t) →
      removal r ≡ removal (s.at t) →
      ((e : ℕ) → child_charge e r ≡ child_charge e (s.at t) + is_same d e) →
      RoleHolds c s.used s.removed s.node (update s.kids d (wrap_add (s.kids d) 1)) r →
      TreeHolds c (with_kids s d (wrap_add (s.kids d) 1) t r)
  adds_child d r within quiet ld e same k own =
      let few : s.kids d ≤ 128 = few_children d ld within in
      let more : wrap_add (s.kids d) 1 ≡ s.kids d + 1 = omega (arith, few) in
      counts_change c s good t lt r s.used (update s.kids d (wrap_add (s.kids d) 1)) (omega (arith, e)) good.room same
      (λ x lx. each_updated (λ y v. v + child_charge y (s.at t) ≡ s.kids y + child_charge y r) s.kids d (wrap_add (s.kids d) 1) x
      (omega (arith, more, k d, same_here d)) (λ ne. omega (arith, k x, same_off d x ne))) (λ i q. absurd (omega (arith, q, quiet))) own

  pub create_adds : (d : ℕ) → AreWithin c → NobodyReads c s → s.at t ≡ Found d →
      TreeHolds c (with_kids s d (wrap_add (s.kids d) 1) t (Placing d))
  create_adds d within quiet is =
      let h : IsDirectoryAt c.nodes s.node d = role_says c s good t lt (Found d) is in
      adds_child d (Placing d) within quiet h.0 (sym (ap charge is)) (sym (ap removal is)) (λ e. omega (arith, ap (child_charge e) is)) h

  pub move_adds : (file : NodeWord) (d : ℕ) → AreWithin c → NobodyReads c s → s.at t ≡ Targets file d →
      TreeHolds c (with_kids s d (wrap_add (s.kids d) 1) t (Moving file d))
  move_adds file d within quiet is =
      let h : IsFileNode c.nodes file × IsDirectoryAt c.nodes s.node d = role_says c s good t lt (Targets file d) is in
      adds_child d (Moving file d) within quiet h.1.0 (sym (ap charge is)) (sym (ap removal is)) (λ e. omega (arith, ap (child_charge e) is)) h

  -- a child that was charged is subtracted
  pub subtracts_child : (d : ℕ) → AreWithin c → NobodyReads c s → s.at t ≡ Returning d →
      TreeHolds c (with_kids s d (wrap_sub (s.kids d) 1) t Out)
  subtracts_child d within quiet is =
      let ld : d < c.nodes = role_says c s good t lt (Returning d) is in
      let few : s.kids d ≤ 128 = few_children d ld within in
      let own : child_charge d (s.at t) ≡ 1 = ap (child_charge d) is ∙ same_here d in
      let least : child_charge d (s.at t) ≤ total c.tasks (λ x. child_charge d (s.at x)) =
      total_at c.tasks t (λ x. child_charge d (s.at x)) lt in
      let some : 0 < s.kids d = omega (arith, good.children d ld, own, least) in
      let less : wrap_sub (s.kids d) 1 + 1 ≡ s.kids d = omega (arith, few, some) in
      counts_change c s good t lt Out s.used (update s.kids d (wrap_sub (s.kids d) 1)) (omega (arith, ap charge is)) good.room (sym (ap removal is))
      (λ x lx. each_updated (λ y v. v + child_charge y (s.at t) ≡ s.kids y + 0) s.kids d (wrap_sub (s.kids d) 1) x
      (omega (arith, less, own)) (λ ne. omega (arith, ap (child_charge x) is, same_off d x ne))) (λ i q. absurd (omega (arith, q, quiet)))
      tt
