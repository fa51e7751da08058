-- Any step at the tree: a role changes with the counts, or with one node word.
use Rattle.gate_schedules.proofs.Prelude.{Bounds, Clearing, Freeing, Kind, NobodyReads, NodeInfo, NodeWord, Option, Role, RoleHolds, Some, TreeHolds}
use Rattle.gate_schedules.proofs.Prelude.{TreeState, ap, arith, cases_Bool, cases_lt, charge, child_charge, each_updated, eq-eqb, false, inl, inr}
use Rattle.gate_schedules.proofs.Prelude.{is_removed, nat_lt, ne_eqb, node_shown, one_if, opens_in, refl, removal, seen_as, subst, suc, sym, total}
use Rattle.gate_schedules.proofs.Prelude.{total_at, total_updated, true, turned, update, zero, ℕ, ◌+◌, ◌<◌, ◌∙◌, ◌≡◌, ◌≤◌, ◌⊎◌}
use Rattle.{access_model.specs.States.{IsDirectory, is_dirty, size_of}, finite_sums.proofs.Totals.total_changed_by}
use Rattle.gated_tree.specs.Roles.{Bare, Found, HasParent, IsLastOpen, Loaded, MayDirty, Moving, Placing, Reading, Targets, cleared, frees, is_bare}
use Rattle.gated_tree.specs.{Roles.{tree_word, words_read}, Trees.{has_parent, is_child, is_same}}
use Rattle.node_words.{proofs.Words.{word_opens, word_shows}, specs.Nodes.{IsNode, info_of}}
use Rattle.gate_schedules.specs.trees.Events.{with_node}

pub same_here : (d : ℕ) → is_same d d ≡ 1
same_here d = rw (eq-eqb d d refl)

pub same_off : (d e : ℕ) → (e ≡ d → ⊥) → is_same d e ≡ 0
same_off d e h = rw (ne_eqb d e (λ q. h (sym q)))

-- a role still holds where directories stay directories, what it cleared stays clean, what it loaded stays but for who has it open, the
-- word that it is to free stays, and it still finds no removed file
pub role_kept : (c : Bounds) (used used' removed removed' : ℕ) (node node' kids kids' : ℕ → ℕ) →
    ((d : ℕ) → IsDirectory (node_shown (node d)) → IsDirectory (node_shown (node' d))) → (r : Role) →
    ((n : ℕ) → n < cleared r → is_dirty (node_shown (node n)) ≡ false → is_dirty (node_shown (node' n)) ≡ false) →
    ((i : ℕ) → i < words_read r →
    seen_as c.nodes i (tree_word c.nodes used' node' kids' i) ≡ seen_as c.nodes i (tree_word c.nodes used node kids i)) →
    ((n : ℕ) → frees n r ≡ 1 → node' n ≡ node n) → (0 < is_bare r → removed ≡ 0 → removed' ≡ 0) →
    RoleHolds c used removed node kids r → RoleHolds c used' removed' node' kids' r
role_kept c used used' removed removed' node node' kids kids' dirs (Loaded file) clean read word bare h = h
role_kept c used used' removed removed' node node' kids kids' dirs (Found d) clean read word bare h = (h.0, dirs d h.1)
role_kept c used used' removed removed' node node' kids kids' dirs (Placing d) clean read word bare h = (h.0, dirs d h.1)
role_kept c used used' removed removed' node node' kids kids' dirs (Targets file d) clean read word bare h = (h.0, (h.1.0, dirs d h.1.1))
role_kept c used used' removed removed' node node' kids kids' dirs (Moving file d) clean read word bare h = (h.0, (h.1.0, dirs d h.1.1))
role_kept c used used' removed removed' node node' kids kids' dirs (Clearing n) clean read word bare h = λ x l. clean x l (h x l)
role_kept c used used' removed removed' node node' kids kids' dirs (Reading k values) clean read word bare h = λ i l. h i l ∙ sym (read i l)
role_kept c used used' removed removed' node node' kids kids' dirs (Freeing n file) clean read word bare h = (
  h.0,
  record {
    kind = h.1.kind;
    word = word n (same_here n) ∙ h.1.word;
    parent = h.1.parent;
    opens = h.1.opens;
    removed = h.1.removed;
  },
)
role_kept c used used' removed removed' node node' kids kids' dirs Bare clean read word bare h = bare (omega arith) h
role_kept c used used' removed removed' node node' kids kids' dirs _ clean read word bare h = h

freeing_is : (c : Bounds) (used removed : ℕ) (node kids : ℕ → ℕ) (n : ℕ) (r : Role) → frees n r ≡ 1 → RoleHolds c used removed node kids r →
    (file : NodeWord) × (n < c.nodes) × IsLastOpen node n file
freeing_is c used removed node kids n r e h = grind arith

-- a node with this entry still has its parent where directories stay directories
parent_kept : (nodes : ℕ) (node node' : ℕ → ℕ) → ((d : ℕ) → IsDirectory (node_shown (node d)) → IsDirectory (node_shown (node' d))) →
    (entry : Option NodeInfo) → HasParent nodes node entry → HasParent nodes node' entry
parent_kept nodes node node' dirs entry h = grind arith

-- any node but the root is a child of its parent
pub child_is : (d n : ℕ) (entry : Option NodeInfo) → 0 < n → is_child d n entry ≡ has_parent d entry
child_is d zero entry h = absurd (omega arith)
child_is d (suc n) entry h = refl

-- what a snapshot sees of each word stays where what each node word shows does
seen_same : (nodes used : ℕ) (node node' kids : ℕ → ℕ) → ((x : ℕ) → node_shown (node' x) ≡ node_shown (node x)) → (i : ℕ) →
    seen_as nodes i (tree_word nodes used node' kids i) ≡ seen_as nodes i (tree_word nodes used node kids i)
seen_same nodes used node node' kids same zero = refl
seen_same nodes used node node' kids same (suc i) = elim (cases_Bool (nat_lt i nodes)) [
  | inl l ↦ rw l (λ j. (same i j, 0))
  | inr l ↦ rw l refl
]

module _ (c : Bounds) (s : TreeState) (good : TreeHolds c s) (t : ℕ) (lt : t < c.tasks) where
  -- what the tree says of a task at this role
  pub role_says : (r : Role) → s.at t ≡ r → RoleHolds c s.used s.removed s.node s.kids r
  role_says r e = subst (RoleHolds c s.used s.removed s.node s.kids) e (good.roles t lt)

  pub not_freed : (n u : ℕ) → u < c.tasks → (is_removed (node_shown (s.node n)) ≡ false) ⊎ (opens_in (s.node n) ≡ 1 → ⊥) →
      frees n (s.at u) ≡ 1 → ⊥
  not_freed n u lu other e =
      let f = freeing_is c s.used s.removed s.node s.kids n (s.at u) e (good.roles u lu) in
      let few : f.0.opens ≤ 64 = omega (arith, f.2.opens) in
      elim other [
        | inl linked ↦
            let shows : node_shown (s.node n) ≡ info_of f.0 = ap node_shown f.2.word ∙ word_shows f.0 f.2.parent few in
            let kinded : info_of f.0 ≡ info_of (record f.0 { kind = Some Kind.File }) = ap (λ k. info_of (record f.0 { kind = k })) f.2.kind in
            let wrong : false ≡ true = sym linked ∙ ap is_removed (shows ∙ kinded) ∙ f.2.removed in
            absurd cc
        | inr several ↦ several (ap opens_in f.2.word ∙ word_opens f.0 f.2.parent few ∙ f.2.opens)
      ]

  -- the words that count change by what the role charges more or less
  pub all_change : (r : Role) (u v : ℕ) (k : ℕ → ℕ) → u + charge (s.at t) ≡ s.used + charge r → u ≤ c.capacity →
      v + removal (s.at t) ≡ s.removed + removal r → (s.bare ≡ 1 → v ≡ 0) →
      (0 < total c.tasks (λ x. is_bare (s.at x)) → s.removed ≡ 0 → v ≡ 0) →
      ((d : ℕ) → d < c.nodes → k d + child_charge d (s.at t) ≡ s.kids d + child_charge d r) →
      ((i : ℕ) → 0 < total c.tasks (λ x. words_read (s.at x)) → tree_word c.nodes u s.node k i ≡ tree_word c.nodes s.used s.node s.kids i) →
      RoleHolds c u v s.node k r →
      TreeHolds c (record s { used = u; removed = v; kids = k; at = update s.at t r })
  all_change r u v k blocks room removals none bare children read own = record {
    words = good.words;
    root = good.root;
    parents = good.parents;
    blocks = omega (arith, good.blocks, blocks, total_updated charge c.tasks t s.at r lt);
    room = room;
    children = λ d ld. omega (arith, good.children d ld, children d ld, total_updated (child_charge d) c.tasks t s.at r lt);
    removals = omega (arith, good.removals, removals, total_updated removal c.tasks t s.at r lt);
    none = none;
    roles = λ x lx. each_updated (λ y. RoleHolds c u v s.node k) s.at t r x own
        (λ ne. role_kept c s.used u s.removed v s.node s.node s.kids k (λ d e. e) (s.at x) (λ n l e. e)
        (λ i l. ap (seen_as c.nodes i) (read i (omega (arith, l, total_at c.tasks x (λ y. words_read (s.at y)) lx)))) (λ n e. refl)
        (λ l. bare (omega (arith, l, total_at c.tasks x (λ y. is_bare (s.at y)) lx))) (good.roles x lx));
    clean = good.clean;
  }

  pub counts_change : (r : Role) (u : ℕ) (k : ℕ → ℕ) → u + charge (s.at t) ≡ s.used + charge r → u ≤ c.capacity →
      removal r ≡ removal (s.at t) →
      ((d : ℕ) → d < c.nodes → k d + child_charge d (s.at t) ≡ s.kids d + child_charge d r) →
      ((i : ℕ) → 0 < total c.tasks (λ x. words_read (s.at x)) → tree_word c.nodes u s.node k i ≡ tree_word c.nodes s.used s.node s.kids i) →
      RoleHolds c u s.removed s.node k r →
      TreeHolds c (record s { used = u; kids = k; at = update s.at t r })
  counts_change r u k blocks room same children read own =
      all_change r u s.removed k blocks room (omega (arith, same)) good.none (λ l e. e) children read own

  -- no word changes
  pub moves : (r : Role) → charge r ≡ charge (s.at t) → removal r ≡ removal (s.at t) →
      ((d : ℕ) → child_charge d r ≡ child_charge d (s.at t)) →
      RoleHolds c s.used s.removed s.node s.kids r → TreeHolds c (turned s t r)
  moves r e same k own = counts_change r s.used s.kids (omega (arith, e)) good.room same (λ d ld. omega (arith, k d)) (λ i q. refl) own

  -- a node word is replaced, which wasn't a directory's
  pub node_changes : (n w : ℕ) (r : Role) → n < c.nodes → (IsDirectory (node_shown (s.node n)) → ⊥) → IsNode w →
      HasParent c.nodes s.node (node_shown w) →
      size_of (node_shown w) + charge r ≡ size_of (node_shown (s.node n)) + charge (s.at t) →
      ((d : ℕ) → has_parent d (node_shown w) + child_charge d r ≡ has_parent d (node_shown (s.node n)) + child_charge d (s.at t)) →
      one_if (is_removed (node_shown w)) + removal r ≡ one_if (is_removed (node_shown (s.node n))) + removal (s.at t) →
      ((is_dirty (node_shown (s.node n)) ≡ false → is_dirty (node_shown w) ≡ false) ⊎ MayDirty c s) →
      ((node_shown w ≡ node_shown (s.node n)) ⊎ NobodyReads c s) →
      ((u : ℕ) → u < c.tasks → (u ≡ t → ⊥) → frees n (s.at u) ≡ 1 → ⊥) →
      RoleHolds c s.used s.removed (update s.node n w) s.kids r →
      TreeHolds c (with_node s n w t r)
  node_changes n w r ln file fits parent blocks children removals clean read freed own =
      let dirs : (d : ℕ) → IsDirectory (node_shown (s.node d)) → IsDirectory (node_shown (update s.node n w d)) =
      λ d. each_updated (λ y v. IsDirectory (node_shown (s.node y)) → IsDirectory (node_shown v)) s.node n w d (λ e. absurd (file e))
      (λ ne e. e) in
      let above : 0 < n = elim (cases_lt 0 n) [
        | inl l ↦ l
        | inr z ↦
            let first : 0 ≡ n = omega (arith, z) in
            absurd (file (subst (λ x. IsDirectory (node_shown (s.node x))) first good.root))
      ] in
      let seen : (node_shown w ≡ node_shown (s.node n)) → (i : ℕ) →
      seen_as c.nodes i (tree_word c.nodes s.used (update s.node n w) s.kids i) ≡
      seen_as c.nodes i (tree_word c.nodes s.used s.node s.kids i) =
      λ e i. seen_same c.nodes s.used s.node (update s.node n w) s.kids
      (λ x. each_updated (λ y v. node_shown v ≡ node_shown (s.node y)) s.node n w x e (λ ne. refl)) i in
      let still : (i : ℕ) → 0 < total c.tasks (λ x. words_read (s.at x)) →
      seen_as c.nodes i (tree_word c.nodes s.used (update s.node n w) s.kids i) ≡
      seen_as c.nodes i (tree_word c.nodes s.used s.node s.kids i) =
      λ i q. elim read [ inl e ↦ seen e i | inr z ↦ absurd (omega (arith, q, z)) ] in
      let unmarked : (x : ℕ) → (MayDirty c s → ⊥) → is_dirty (node_shown (s.node x)) ≡ false →
      is_dirty (node_shown (update s.node n w x)) ≡ false =
      λ x no. each_updated (λ y v. is_dirty (node_shown (s.node y)) ≡ false → is_dirty (node_shown v) ≡ false) s.node n w x
      (λ e. elim clean [ inl h ↦ h e | inr h ↦ absurd (no h) ]) (λ ne e. e) in
      record {
        words = λ x lx. each_updated (λ y. IsNode) s.node n w x fits (λ ne. good.words x lx);
        root = dirs 0 good.root;
        parents = λ x lx. each_updated (λ y v. HasParent c.nodes (update s.node n w) (node_shown v)) s.node n w x
            (parent_kept c.nodes s.node (update s.node n w) dirs (node_shown w) parent)
            (λ ne. parent_kept c.nodes s.node (update s.node n w) dirs (node_shown (s.node x)) (good.parents x lx));
        blocks = omega (
          arith,
          good.blocks,
          blocks,
          total_updated (λ v. size_of (node_shown v)) c.nodes n s.node w ln,
          total_updated charge c.tasks t s.at r lt,
        );
        room = good.room;
        children = λ d ld. omega (
          arith,
          good.children d ld,
          children d,
          child_is d n (node_shown w) above,
          child_is d n (node_shown (s.node n)) above,
          total_changed_by (λ x v. is_child d x (node_shown v)) c.nodes n s.node w ln,
          total_updated (child_charge d) c.tasks t s.at r lt,
        );
        removals = omega (
          arith,
          good.removals,
          removals,
          total_updated (λ v. one_if (is_removed (node_shown v))) c.nodes n s.node w ln,
          total_updated removal c.tasks t s.at r lt,
        );
        none = good.none;
        roles = λ x lx. each_updated (λ y. RoleHolds c s.used s.removed (update s.node n w) s.kids) s.at t r x own
            (λ ne. role_kept c s.used s.used s.removed s.removed s.node (update s.node n w) s.kids s.kids dirs (s.at x)
            (λ y l. unmarked y (λ may. absurd (omega (arith, l, may.nobody_clears, total_at c.tasks x (λ z. cleared (s.at z)) lx))))
            (λ i l. still i (omega (arith, l, total_at c.tasks x (λ y. words_read (s.at y)) lx)))
            (λ y e. each_updated (λ z v. z ≡ y → v ≡ s.node z) s.node n w y
            (λ q. absurd (freed x lx ne (subst (λ z. frees z (s.at x) ≡ 1) (sym q) e))) (λ off q. refl) refl) (λ l e. e) (good.roles x lx));
        clean = λ e x lx. unmarked x (λ may. absurd (omega (arith, e, may.unsealed))) (good.clean e x lx);
      }
