-- A clearing of the dirty marks; the tree is sealed and opened again; a snapshot; what holds where nothing is charged.
use Rattle.gate_schedules.proofs.Prelude.{Action, AreWithin, Bounds, Clearing, NodeInfo, NodeWord, None, Option, Out, TreeHolds, TreeState, ap, arith}
use Rattle.gate_schedules.proofs.Prelude.{charge, child_charge, dirty_in, each_updated, eqb_tells, false, inl, inr, ne_eqb, node_shown, removal}
use Rattle.gate_schedules.proofs.Prelude.{seen_as, subst, suc, sym, total_none, turned, update, update_same, word_of, ℕ, ◌<◌, ◌∙◌, ◌≡◌, ◌≤◌}
use Rattle.access_model.specs.States.{is_dirty}
use Rattle.gated_tree.specs.{Roles.{HasParent, IsFileNode, Reading, tree_word}, Trees.{HasDirectory, IsClean, IsSound}}
use Rattle.node_words.proofs.{ClearedMarks.{clean_stays, cleared_is, directory_clean, file_shown, marked_file}, Packing.word_returns}
use Rattle.node_words.{proofs.Words.dirty_shown, specs.Nodes.{kind_in, kind_of, marked_node, node_of, removed_in}}
use Rattle.gate_schedules.proofs.trees.{Changes.{file_shows, unmarks}, Laws.{moves, role_says}}
use Rattle.gate_schedules.specs.trees.Events.{IsQuiet, MayClean, MovesBy, TreeDoes, cleared_word, opens_shown, tree_shown, with_node}

parent_there : (nodes : ℕ) (node : ℕ → ℕ) (entry : Option NodeInfo) → HasParent nodes node entry →
    HasDirectory nodes (tree_shown node) entry
parent_there nodes node entry h = grind arith

module _ (c : Bounds) (s : TreeState) (good : TreeHolds c s) where
  -- with other flags, where these have what they ask for
  with_flags : (sealed bare : ℕ) → (sealed ≡ 1 → IsClean c.nodes (tree_shown s.node)) → (bare ≡ 1 → s.removed ≡ 0) →
      TreeHolds c (record s { sealed = sealed; bare = bare })
  with_flags sealed bare clean none = grind arith

  -- the tree is sealed where every node is clean, and may be opened at any time
  pub seals : IsClean c.nodes (tree_shown s.node) → TreeHolds c (record s { sealed = 1 })
  seals clean = with_flags 1 s.bare (λ e. clean) good.none

  pub opens : TreeHolds c (record s { sealed = 0 })
  opens = with_flags 0 s.bare (λ e. absurd (omega (arith, e))) good.none

  -- the superblock is read-only where no file is removed, and may be writable again at any time
  pub goes_bare : s.removed ≡ 0 → TreeHolds c (record s { bare = 1 })
  goes_bare none = with_flags s.sealed 1 good.clean (λ e. none)

  pub stops_bare : TreeHolds c (record s { bare = 0 })
  stops_bare = with_flags s.sealed 0 good.clean (λ e. absurd (omega (arith, e)))

  module _ (t : ℕ) (lt : t < c.tasks) where
    -- a clearing begins at node 1, since the root is clean
    pub clearing_begins : AreWithin c → s.at t ≡ Out → TreeHolds c (turned s t (Clearing 1))
    clearing_begins within is =
        let root : is_dirty (node_shown (s.node 0)) ≡ false =
        directory_clean (s.node 0) (good.words 0 (omega (arith, within.some_node))) good.root in
        moves c s good t lt (Clearing 1) (sym (ap charge is)) (sym (ap removal is)) (λ d. sym (ap (child_charge d) is))
        (λ n l.
        let first : 0 ≡ n = omega (arith, l) in
        subst (λ x. is_dirty (node_shown (s.node x)) ≡ false) first root)

    -- a clearing comes to a node that is marked, which is a file and becomes clean
    pub clears : (n : ℕ) → AreWithin c → MayClean c s → s.at t ≡ Clearing n → n < c.nodes → dirty_in (s.node n) ≡ 1 →
        TreeHolds c (with_node s n (cleared_word (s.node n)) t (Clearing (suc n))) ×
        TreeDoes c s.node (update s.node n (cleared_word (s.node n))) (Action.Clean n)
    clears n within may is ln marked =
        let before : (x : ℕ) → x < n → is_dirty (node_shown (s.node x)) ≡ false = role_says c s good t lt (Clearing n) is in
        let file : NodeWord = node_of (s.node n) in
        let one : kind_in (s.node n) ≡ 1 = marked_file (s.node n) (good.words n ln) marked in
        let back = word_returns (s.node n) (good.words n ln).packed in
        let parent = subst (HasParent c.nodes s.node) (file_shown (s.node n) one) (good.parents n ln) in
        let linked : file.removed ≡ false = ne_eqb (removed_in (s.node n)) 1 (λ e.
        let m = (good.words n ln).packed.marked e in
        absurd (omega (arith, marked, m.1))) in
        let h : IsFileNode c.nodes file = record { kind = ap kind_of one; parent = parent.0; opens = back.0.few; linked = linked } in
        let clean : is_dirty (node_shown (word_of (marked_node false file))) ≡ false =
        ap is_dirty (file_shows (marked_node false file) h.kind (omega (arith, h.parent, within.nodes)) h.opens) in
        let now : (x : ℕ) → x < suc n → is_dirty (node_shown (update s.node n (word_of (marked_node false file)) x)) ≡ false =
        λ x. each_updated (λ y w. y < suc n → is_dirty (node_shown w) ≡ false) s.node n (word_of (marked_node false file)) x
        (λ l. clean) (λ ne l. before x (omega (arith, l, ne))) in
        subst (λ w. TreeHolds c (with_node s n w t (Clearing (suc n))) × TreeDoes c s.node (update s.node n w) (Action.Clean n))
        (sym (cleared_is (s.node n) (good.words n ln).packed))
        (unmarks c s good t lt file n (Clearing (suc n)) within h may (sym (ap charge is)) (sym (ap removal is)) (λ d. sym (ap (child_charge d) is)) ln
        (sym back.1) now)

    -- a clearing comes to a node that isn't marked, whose word stays
    pub passes : (n : ℕ) → s.at t ≡ Clearing n → n < c.nodes → dirty_in (s.node n) ≡ 0 →
        TreeHolds c (with_node s n (cleared_word (s.node n)) t (Clearing (suc n))) ×
        MovesBy c s.node (update s.node n (cleared_word (s.node n))) None
    passes n is ln none =
        let before : (x : ℕ) → x < n → is_dirty (node_shown (s.node x)) ≡ false = role_says c s good t lt (Clearing n) is in
        let here : is_dirty (node_shown (s.node n)) ≡ false =
        dirty_shown (s.node n) (good.words n ln).packed ∙ ne_eqb (dirty_in (s.node n)) 1 (λ e. absurd (omega (arith, e, none))) in
        let now : (x : ℕ) → x < suc n → is_dirty (node_shown (s.node x)) ≡ false =
        λ x l. elim (eqb_tells x n) [
          | inl e ↦ subst (λ y. is_dirty (node_shown (s.node y)) ≡ false) (sym e.1) here
          | inr e ↦ before x (omega (arith, l, e.1))
        ] in
        let still : update s.node n (cleared_word (s.node n)) ≡ s.node =
        ap (update s.node n) (clean_stays (s.node n) (good.words n ln) none) ∙ update_same s.node n in (
          subst (λ f. TreeHolds c (record (turned s t (Clearing (suc n))) { node = f })) (sym still)
              (moves c s good t lt (Clearing (suc n)) (sym (ap charge is)) (sym (ap removal is)) (λ d. sym (ap (child_charge d) is)) now),
          (ap tree_shown still, ap opens_shown still),
        )

    pub clearing_ends : (n : ℕ) → c.nodes ≤ n → s.at t ≡ Clearing n → IsClean c.nodes (tree_shown s.node)
    clearing_ends n past is = λ x lx. role_says c s good t lt (Clearing n) is x (omega (arith, lx, past))

    pub snapshot_begins : (values : ℕ → ℕ) → s.at t ≡ Out → TreeHolds c (turned s t (Reading 0 values))
    snapshot_begins values is =
        moves c s good t lt (Reading 0 values) (sym (ap charge is)) (sym (ap removal is)) (λ d. sym (ap (child_charge d) is)) (λ i l. absurd (omega (arith, l)))

    pub snapshot_loads : (k : ℕ) (values next : ℕ → ℕ) → s.at t ≡ Reading k values →
        seen_as c.nodes k (next k) ≡ seen_as c.nodes k (tree_word c.nodes s.used s.node s.kids k) →
        ((i : ℕ) → i < k → next i ≡ values i) → TreeHolds c (turned s t (Reading (suc k) next))
    snapshot_loads k values next is word earlier =
        let before : (i : ℕ) → i < k → seen_as c.nodes i (values i) ≡ seen_as c.nodes i (tree_word c.nodes s.used s.node s.kids i) =
        role_says c s good t lt (Reading k values) is in
        moves c s good t lt (Reading (suc k) next) (sym (ap charge is)) (sym (ap removal is)) (λ d. sym (ap (child_charge d) is))
        (λ i l. elim (eqb_tells i k) [
          | inl e ↦ subst (λ x. seen_as c.nodes x (next x) ≡ seen_as c.nodes x (tree_word c.nodes s.used s.node s.kids x)) (sym e.1) word
          | inr e ↦ ap (seen_as c.nodes i) (earlier i (omega (arith, l, e.1))) ∙ before i (omega (arith, l, e.1))
        ])

  -- where nobody has charged anything, the counts are exact
  pub exact : IsQuiet c s → IsSound c.nodes s.used (tree_shown s.node) s.kids
  exact none = record {
    blocks = omega (arith, good.blocks, total_none c.tasks (λ t. charge (s.at t)) (λ t l. (none t l).blocks));
    children = λ d ld. omega (arith, good.children d ld, total_none c.tasks (λ t. child_charge d (s.at t)) (λ t l. (none t l).children d));
    parents = λ n ln. parent_there c.nodes s.node (node_shown (s.node n)) (good.parents n ln);
  }
