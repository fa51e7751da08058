-- The compare-exchanges of node words that found what was loaded. Each says what the tree keeps and which action it is.
use Rattle.gate_schedules.proofs.Prelude.{Action, AreWithin, Bool, Bounds, Freeing, Kind, NobodyReads, NodeInfo, NodeWord, None, Out, Role, RoleHolds}
use Rattle.gate_schedules.proofs.Prelude.{Some, TreeHolds, TreeState, ap, arith, charge, child_charge, eq-eqb, false, if◌then◌else◌, inl, inr}
use Rattle.gate_schedules.proofs.Prelude.{is_removed, ne_eqb, node_shown, one_if, opens_in, refl, removal, subst, sym, total, total_at, true, update}
use Rattle.gate_schedules.proofs.Prelude.{update_map, update_same, word_of, ℕ, ◌%◌, ◌&&◌, ◌+◌, ◌-◌, ◌<◌, ◌==◌, ◌∙◌, ◌≡◌, ◌≤◌, ◌⊎◌}
use Rattle.access_model.specs.{Actions.{after_remove, grown, marked, moved, unlinked}, States.{IsDirectory, IsFile, IsLinkedFile, is_dirty, size_of}}
use Rattle.gated_tree.specs.Roles.{Charged, Dropped, Freed, HasParent, IsDirectoryAt, IsFileNode, IsLastOpen, Loaded, MayDirty, MayGrow, Moving}
use Rattle.gated_tree.specs.{Roles.{NobodyElseFrees, Placing, Removing, Returning, frees}, Trees.{has_parent, is_same}}
use Rattle.node_words.proofs.Words.{file_is_node, free_is_node, lawful_file, new_is_node, word_opens, word_shows}
use Rattle.node_words.specs.Nodes.{IsLawful, closed_node, grown_node, info_of, marked_node, moved_node, new_node, opened_node, unlinked_node}
use Rattle.std.proofs.Common.{option_map}
use Rattle.gate_schedules.proofs.trees.Laws.{node_changes, not_freed, role_says}
use Rattle.gate_schedules.specs.trees.Events.{MayClean, TreeDoes, opens_shown, tree_shown, with_node}

-- a file, as the model has it
abbrev pub file_info : NodeWord → NodeInfo
file_info file = record { kind = Kind.File; parent = file.parent; size = file.size; dirty = file.dirty; removed = file.removed }

pub file_shows : (file : NodeWord) → file.kind ≡ Some Kind.File → file.parent < 64 → file.opens ≤ 64 →
    node_shown (word_of file) ≡ Some (file_info file)
file_shows file kind parent few = word_shows file parent few ∙ ap (λ k. info_of (record file { kind = k })) kind

pub opens_kept : (node : ℕ → ℕ) (n w : ℕ) → opens_in w ≡ opens_in (node n) → opens_shown (update node n w) ≡ opens_shown node
opens_kept node n w e = update_map opens_in node n w ∙ ap (update (opens_shown node) n) e ∙ update_same (opens_shown node) n

file_replaced : (node : ℕ → ℕ) (n : ℕ) (old new : NodeWord) (to : NodeInfo → NodeInfo) → node_shown (node n) ≡ Some (file_info old) →
    node_shown (word_of new) ≡ Some (file_info new) → to (file_info old) ≡ file_info new →
    tree_shown (update node n (word_of new)) ≡ update (tree_shown node) n (option_map to (tree_shown node n))
file_replaced node n old new to before after same =
    update_map node_shown node n (word_of new) ∙ ap (update (tree_shown node) n) (after ∙ sym (ap (option_map to) before ∙ ap Some same))

same_shown : (node : ℕ → ℕ) (n w : ℕ) → node_shown w ≡ node_shown (node n) → tree_shown (update node n w) ≡ tree_shown node
same_shown node n w e = update_map node_shown node n w ∙ ap (update (tree_shown node) n) e ∙ update_same (tree_shown node) n

both_false : (a b : Bool) → b ≡ false → (a && b) ≡ false
both_false true b e = e
both_false false b e = refl

module _ (c : Bounds) (s : TreeState) (good : TreeHolds c s) (t : ℕ) (lt : t < c.tasks) where
  -- what is known of a file whose node is as it was loaded
  record FileIsAsLoaded (n : ℕ) (file : NodeWord) : Type 0 where
    kind : file.kind ≡ Some Kind.File
    narrow : file.parent < 64
    shows : node_shown (s.node n) ≡ Some (file_info file)
    few : file.opens ≤ 64
    linked : file.removed ≡ false
    opens : opens_in (s.node n) ≡ file.opens
    parent : IsDirectoryAt c.nodes s.node file.parent
    size : file.size + charge (s.at t) ≤ c.capacity

  is_there : (n : ℕ) (file : NodeWord) → AreWithin c → IsFileNode c.nodes file → n < c.nodes → s.node n ≡ word_of file → FileIsAsLoaded n file
  is_there n file within h ln found =
      let narrow : file.parent < 64 = omega (arith, h.parent, within.nodes) in
      let shows : node_shown (s.node n) ≡ Some (file_info file) = ap node_shown found ∙ file_shows file h.kind narrow h.opens in
      record {
        kind = h.kind;
        narrow = narrow;
        shows = shows;
        few = h.opens;
        linked = h.linked;
        opens = ap opens_in found ∙ word_opens file narrow h.opens;
        parent = subst (HasParent c.nodes s.node) shows (good.parents n ln);
        size = omega (
          arith,
          ap size_of shows,
          total_at c.nodes n (λ x. size_of (node_shown (s.node x))) ln,
          total_at c.tasks t (λ x. charge (s.at x)) lt,
          good.blocks,
          good.room,
        );
      }

  is_linked : (n : ℕ) (file : NodeWord) → FileIsAsLoaded n file → IsLinkedFile (node_shown (s.node n))
  is_linked n file there = subst IsLinkedFile (sym there.shows) (refl, there.linked)

  nobody_frees : (n : ℕ) (file : NodeWord) → FileIsAsLoaded n file → (u : ℕ) → u < c.tasks → (u ≡ t → ⊥) → frees n (s.at u) ≡ 1 → ⊥
  nobody_frees n file there u lu ne = not_freed c s good t lt n u lu (inl (ap is_removed there.shows ∙ there.linked))

  -- a file stays a file that wasn't removed, with other fields
  file_changes : (n : ℕ) (old new : NodeWord) (r : Role) → n < c.nodes → FileIsAsLoaded n old → new.kind ≡ Some Kind.File → new.parent < 64 →
      new.opens ≤ 64 → new.removed ≡ false →
      new.size < 4294967296 → IsDirectoryAt c.nodes s.node new.parent →
      new.size + charge r ≡ old.size + charge (s.at t) → removal r ≡ removal (s.at t) →
      ((d : ℕ) → is_same new.parent d + child_charge d r ≡ is_same old.parent d + child_charge d (s.at t)) →
      ((old.dirty ≡ false → new.dirty ≡ false) ⊎ MayDirty c s) → ((file_info new ≡ file_info old) ⊎ NobodyReads c s) →
      RoleHolds c s.used s.removed (update s.node n (word_of new)) s.kids r →
      TreeHolds c (with_node s n (word_of new) t r)
  file_changes n old new r ln there kind narrow few linked small dir size removals children mark read own =
      let shows : node_shown (word_of new) ≡ Some (file_info new) = file_shows new kind narrow few in
      let stands : (d : ℕ) → has_parent d (node_shown (word_of new)) ≡ is_same new.parent d = λ d.
      ap (has_parent d) shows ∙ ap (λ b. if b then 0 else is_same new.parent d) linked in
      let stood : (d : ℕ) → has_parent d (node_shown (s.node n)) ≡ is_same old.parent d = λ d.
      ap (has_parent d) there.shows ∙ ap (λ b. if b then 0 else is_same old.parent d) there.linked in
      node_changes c s good t lt n (word_of new) r ln
      (λ e.
      let wrong : Kind.File ≡ Kind.Dir = subst IsDirectory there.shows e in
      absurd cc)
      (file_is_node new kind narrow few linked small) (subst (HasParent c.nodes s.node) (sym shows) dir)
      (omega (arith, ap size_of shows, ap size_of there.shows, size))
      (λ d. omega (arith, stands d, stood d, children d))
      (omega (arith, ap one_if (ap is_removed shows ∙ linked), ap one_if (ap is_removed there.shows ∙ there.linked), removals))
      (elim mark [ inl h ↦ inl (λ e. ap is_dirty shows ∙ h (sym (ap is_dirty there.shows) ∙ e)) | inr h ↦ inr h ])
      (elim read [ inl e ↦ inl (shows ∙ ap Some e ∙ sym there.shows) | inr h ↦ inr h ]) (nobody_frees n old there) own

  -- a create takes a free node
  pub creates : (n d : ℕ) (kind : Kind) → AreWithin c → NobodyReads c s → s.at t ≡ Placing d → n < c.nodes → s.node n ≡ 0 →
      TreeHolds c (with_node s n (word_of (new_node kind d)) t Out) ×
      TreeDoes c s.node (update s.node n (word_of (new_node kind d))) (Action.Create n d kind)
  creates n d kind within quiet is ln free =
      let h : IsDirectoryAt c.nodes s.node d = role_says c s good t lt (Placing d) is in
      let narrow : d < 64 = omega (arith, h.0, within.nodes) in
      let none : node_shown (s.node n) ≡ None = ap node_shown free in
      let shows : node_shown (word_of (new_node kind d)) ≡ Some (record { kind = kind; parent = d; size = 0; dirty = false; removed = false }) =
      word_shows (new_node kind d) narrow (omega arith) in (
        node_changes c s good t lt n (word_of (new_node kind d)) Out ln (λ e. subst IsDirectory none e) (new_is_node kind d narrow)
            (subst (HasParent c.nodes s.node) (sym shows) h)
            (omega (arith, ap size_of shows, ap size_of none, ap charge is))
            (λ e. omega (arith, ap (has_parent e) shows, ap (has_parent e) none, ap (child_charge e) is))
            (omega (arith, ap one_if (ap is_removed shows), ap one_if (ap is_removed none), ap removal is))
            (inl (λ e. ap is_dirty shows)) (inr quiet) (λ u lu ne. not_freed c s good t lt n u lu (inl (ap is_removed none))) tt,
        record {
          allowed = (ln, h.0, none, h.1);
          effect = update_map node_shown s.node n (word_of (new_node kind d)) ∙ ap (update (tree_shown s.node) n) shows;
          opens = opens_kept s.node n (word_of (new_node kind d)) (word_opens (new_node kind d) narrow (omega arith) ∙ sym (ap opens_in free));
        },
      )

  pub removes : (file : NodeWord) (n : ℕ) → AreWithin c → NobodyReads c s → s.at t ≡ Loaded file → n < c.nodes → s.node n ≡ word_of file →
      file.opens ≡ 0 →
      TreeHolds c (with_node s n 0 t (Freed file.size file.parent)) × TreeDoes c s.node (update s.node n 0) (Action.Remove n)
  removes file n within quiet is ln found closed =
      let h : IsFileNode c.nodes file = role_says c s good t lt (Loaded file) is in
      let there : FileIsAsLoaded n file = is_there n file within h ln found in
      let stood : (d : ℕ) → has_parent d (node_shown (s.node n)) ≡ is_same file.parent d = λ d.
      ap (has_parent d) there.shows ∙ ap (λ b. if b then 0 else is_same file.parent d) there.linked in
      let none : opens_in (s.node n) ≡ 0 = there.opens ∙ closed in (
        node_changes c s good t lt n 0 (Freed file.size file.parent) ln
            (λ e.
            let wrong : Kind.File ≡ Kind.Dir = subst IsDirectory there.shows e in
            absurd cc) free_is_node tt
            (omega (arith, ap size_of there.shows, ap charge is))
            (λ d. omega (arith, stood d, ap (child_charge d) is))
            (omega (arith, ap one_if (ap is_removed there.shows ∙ there.linked), ap removal is))
            (inl (λ e. refl)) (inr quiet) (nobody_frees n file there) h.parent,
        record {
          allowed = (ln, is_linked n file there);
          effect = update_map node_shown s.node n 0 ∙
              sym (ap (λ k. update (tree_shown s.node) n (after_remove k (node_shown (s.node n)))) none);
          opens = opens_kept s.node n 0 (sym none);
        },
      )

  pub marks_removed : (file : NodeWord) (n : ℕ) → AreWithin c → NobodyReads c s → s.at t ≡ Removing file → n < c.nodes →
      s.node n ≡ word_of file →
      TreeHolds c (with_node s n (word_of (unlinked_node file)) t (Returning file.parent)) ×
      TreeDoes c s.node (update s.node n (word_of (unlinked_node file))) (Action.Remove n)
  marks_removed file n within quiet is ln found =
      let h : IsFileNode c.nodes file × (1 ≤ file.opens) = role_says c s good t lt (Removing file) is in
      let there : FileIsAsLoaded n file = is_there n file within h.0 ln found in
      let new : NodeWord = unlinked_node file in
      let shows : node_shown (word_of new) ≡ Some (file_info new) = file_shows new there.kind there.narrow there.few in
      let stood : (d : ℕ) → has_parent d (node_shown (s.node n)) ≡ is_same file.parent d = λ d.
      ap (has_parent d) there.shows ∙ ap (λ b. if b then 0 else is_same file.parent d) there.linked in
      let lawful : IsLawful new = record {
        parent = there.narrow;
        free = λ e.
            let wrong : Some Kind.File ≡ None = sym there.kind ∙ e in
            absurd cc;
        few = there.few;
        closed = λ e.
            let wrong : Some Kind.File ≡ Some Kind.Dir = sym there.kind ∙ e in
            absurd cc;
        marked = λ e. (there.kind, refl, h.1);
      } in
      let same : opens_in (word_of new) ≡ opens_in (s.node n) = word_opens new there.narrow there.few ∙ sym there.opens in
      let open_still : (opens_in (s.node n) == 0) ≡ false = ne_eqb (opens_in (s.node n)) 0 (λ e. absurd (omega (arith, e, there.opens, h.1))) in (
        node_changes c s good t lt n (word_of new) (Returning file.parent) ln
            (λ e.
            let wrong : Kind.File ≡ Kind.Dir = subst IsDirectory there.shows e in
            absurd cc) (lawful_file new there.kind lawful (omega (arith, there.size, within.capacity)))
            (subst (HasParent c.nodes s.node) (sym shows) there.parent)
            (omega (arith, ap size_of shows, ap size_of there.shows, ap charge is))
            (λ d. omega (arith, ap (has_parent d) shows, stood d, ap (child_charge d) is))
            (omega (arith, ap one_if (ap is_removed shows), ap one_if (ap is_removed there.shows ∙ there.linked), ap removal is))
            (inl (λ e. ap is_dirty shows)) (inr quiet) (nobody_frees n file there) h.0.parent,
        record {
          allowed = (ln, is_linked n file there);
          effect = file_replaced s.node n file new unlinked there.shows shows refl ∙
              sym (ap (λ b. update (tree_shown s.node) n (if b then None else option_map unlinked (node_shown (s.node n)))) open_still);
          opens = opens_kept s.node n (word_of new) same;
        },
      )

  -- a grow's file gets its blocks, and is dirty
  pub grows : (file : NodeWord) (b n : ℕ) → AreWithin c → NobodyReads c s → MayDirty c s → s.at t ≡ Charged file b → n < c.nodes →
      s.node n ≡ word_of file →
      TreeHolds c (with_node s n (word_of (grown_node b file)) t Out) × TreeDoes c s.node (update s.node n (word_of (grown_node b file)))
      (Action.Grow n b)
  grows file b n within quiet may is ln found =
      let h : MayGrow c file b = role_says c s good t lt (Charged file b) is in
      let there : FileIsAsLoaded n file = is_there n file within h.loaded ln found in
      let fits : (file.size + b) % 4294967296 ≡ file.size + b = omega (arith, h.size, within.capacity) in
      let least : charge (s.at t) ≤ total c.tasks (λ x. charge (s.at x)) = total_at c.tasks t (λ x. charge (s.at x)) lt in (
        file_changes n file (grown_node b file) Out ln there there.kind there.narrow there.few there.linked
            (omega (arith, fits, h.size, within.capacity))
            there.parent
            (omega (arith, fits, ap charge is)) (sym (ap removal is)) (λ d. omega (arith, ap (child_charge d) is)) (inr may) (inr quiet) tt,
        record {
          allowed = (ln, is_linked n file there, h.some, omega (arith, good.blocks, good.room, least, ap charge is));
          effect =
              file_replaced s.node n file (grown_node b file) (grown b) there.shows (file_shows (grown_node b file) there.kind there.narrow there.few)
              (λ j. record { kind = Kind.File; parent = file.parent; size = sym fits j; dirty = true; removed = file.removed });
          opens = opens_kept s.node n (word_of (grown_node b file))
              (word_opens (grown_node b file) there.narrow there.few ∙ sym there.opens);
        },
      )

  -- a move's file gets its new parent; the old one still counts it
  pub moves_to : (file : NodeWord) (d n : ℕ) → AreWithin c → NobodyReads c s → s.at t ≡ Moving file d → n < c.nodes →
      s.node n ≡ word_of file →
      TreeHolds c (with_node s n (word_of (moved_node d file)) t (Returning file.parent)) ×
      TreeDoes c s.node (update s.node n (word_of (moved_node d file))) (Action.MoveTo n d)
  moves_to file d n within quiet is ln found =
      let h : IsFileNode c.nodes file × IsDirectoryAt c.nodes s.node d = role_says c s good t lt (Moving file d) is in
      let there : FileIsAsLoaded n file = is_there n file within h.0 ln found in
      let narrow : d < 64 = omega (arith, h.1.0, within.nodes) in (
        file_changes n file (moved_node d file) (Returning file.parent) ln there there.kind narrow there.few there.linked
            (omega (arith, there.size, within.capacity)) h.1
            (omega (arith, ap charge is)) (sym (ap removal is)) (λ e. omega (arith, ap (child_charge e) is)) (inl (λ e. e)) (inr quiet) h.0.parent,
        record {
          allowed = (ln, h.1.0, is_linked n file there, h.1.1);
          effect =
              file_replaced s.node n file (moved_node d file) (moved d) there.shows (file_shows (moved_node d file) there.kind narrow there.few) refl;
          opens = opens_kept s.node n (word_of (moved_node d file)) (word_opens (moved_node d file) narrow there.few ∙ sym there.opens);
        },
      )

  -- a fault marks its file
  pub dirties : (file : NodeWord) (n : ℕ) → AreWithin c → NobodyReads c s → MayDirty c s → s.at t ≡ Loaded file → n < c.nodes →
      s.node n ≡ word_of file →
      TreeHolds c (with_node s n (word_of (marked_node true file)) t Out) ×
      TreeDoes c s.node (update s.node n (word_of (marked_node true file))) (Action.Dirty n)
  dirties file n within quiet may is ln found =
      let h : IsFileNode c.nodes file = role_says c s good t lt (Loaded file) is in
      let there : FileIsAsLoaded n file = is_there n file within h ln found in (
        file_changes n file (marked_node true file) Out ln there there.kind there.narrow there.few there.linked
            (omega (arith, there.size, within.capacity))
            there.parent
            (omega (arith, ap charge is)) (sym (ap removal is)) (λ d. omega (arith, ap (child_charge d) is)) (inr may) (inr quiet) tt,
        record {
          allowed = (ln, is_linked n file there);
          effect = file_replaced s.node n file (marked_node true file) (marked true) there.shows
              (file_shows (marked_node true file) there.kind there.narrow there.few) refl;
          opens = opens_kept s.node n (word_of (marked_node true file))
              (word_opens (marked_node true file) there.narrow there.few ∙ sym there.opens);
        },
      )

  -- a file's mark is cleared, by a task whose charges stay
  pub unmarks : (file : NodeWord) (n : ℕ) (r : Role) → AreWithin c → IsFileNode c.nodes file → MayClean c s → charge r ≡ charge (s.at t) →
      removal r ≡ removal (s.at t) →
      ((d : ℕ) → child_charge d r ≡ child_charge d (s.at t)) → n < c.nodes → s.node n ≡ word_of file →
      RoleHolds c s.used s.removed (update s.node n (word_of (marked_node false file))) s.kids r →
      TreeHolds c (with_node s n (word_of (marked_node false file)) t r) ×
      TreeDoes c s.node (update s.node n (word_of (marked_node false file))) (Action.Clean n)
  unmarks file n r within h may e same k ln found own =
      let there : FileIsAsLoaded n file = is_there n file within h ln found in
      let still : s.sealed ≡ 1 → file_info (marked_node false file) ≡ file_info file =
      λ sealed.
      let clean : file.dirty ≡ false = sym (ap is_dirty there.shows) ∙ good.clean sealed n ln in
      (λ j. file_info (record file { dirty = sym clean j })) in (
        file_changes n file (marked_node false file) r ln there there.kind there.narrow there.few there.linked
            (omega (arith, there.size, within.capacity))
            there.parent
            (omega (arith, e)) same (λ d. omega (arith, k d)) (inl (λ z. refl))
            (elim may [ inl sealed ↦ inl (still sealed) | inr quiet ↦ inr quiet ]) own,
        record {
          allowed = (ln, subst IsFile (sym there.shows) refl);
          effect = file_replaced s.node n file (marked_node false file) (marked false) there.shows
              (file_shows (marked_node false file) there.kind there.narrow there.few) refl;
          opens = opens_kept s.node n (word_of (marked_node false file))
              (word_opens (marked_node false file) there.narrow there.few ∙ sym there.opens);
        },
      )

  pub flushes : (file : NodeWord) (n : ℕ) → AreWithin c → MayClean c s → s.at t ≡ Loaded file → n < c.nodes → s.node n ≡ word_of file →
      TreeHolds c (with_node s n (word_of (marked_node false file)) t Out) ×
      TreeDoes c s.node (update s.node n (word_of (marked_node false file))) (Action.Clean n)
  flushes file n within may is ln found =
      unmarks file n Out within (role_says c s good t lt (Loaded file) is) may (sym (ap charge is)) (sym (ap removal is)) (λ d. sym (ap (child_charge d) is)) ln
      found tt

  pub opens_file : (file : NodeWord) (n : ℕ) → AreWithin c → s.at t ≡ Loaded file → n < c.nodes → s.node n ≡ word_of file →
      file.opens < 64 →
      TreeHolds c (with_node s n (word_of (opened_node file)) t Out) ×
      TreeDoes c s.node (update s.node n (word_of (opened_node file))) (Action.Open n)
  opens_file file n within is ln found room =
      let h : IsFileNode c.nodes file = role_says c s good t lt (Loaded file) is in
      let there : FileIsAsLoaded n file = is_there n file within h ln found in
      let new : NodeWord = opened_node file in
      let more : new.opens ≡ file.opens + 1 = omega (arith, room) in
      let few : new.opens ≤ 64 = omega (arith, more, room) in
      let shows : node_shown (word_of new) ≡ node_shown (s.node n) = file_shows new there.kind there.narrow few ∙ sym there.shows in (
        file_changes n file new Out ln there there.kind there.narrow few there.linked
            (omega (arith, there.size, within.capacity)) there.parent
            (omega (arith, ap charge is)) (sym (ap removal is)) (λ d. omega (arith, ap (child_charge d) is)) (inl (λ e. e)) (inl refl) tt,
        record {
          allowed = (ln, is_linked n file there);
          effect = same_shown s.node n (word_of new) shows;
          opens = update_map opens_in s.node n (word_of new) ∙
              ap (update (opens_shown s.node) n) (word_opens new there.narrow few ∙ more ∙ sym (ap (λ k. k + 1) there.opens));
        },
      )

  -- a file that a close has loaded, removed or not
  closing_shows : (n : ℕ) (file : NodeWord) → s.node n ≡ word_of file → file.kind ≡ Some Kind.File → IsLawful file →
      node_shown (s.node n) ≡ Some (file_info file)
  closing_shows n file found kind lawful = ap node_shown found ∙ file_shows file kind lawful.parent lawful.few

  -- a close of a file that stays
  pub closes_file : (file : NodeWord) (n : ℕ) → AreWithin c → s.at t ≡ Out → n < c.nodes → s.node n ≡ word_of file → file.kind ≡ Some Kind.File →
      IsLawful file → 1 ≤ file.opens → (file.removed ≡ false) ⊎ (2 ≤ file.opens) →
      TreeHolds c (with_node s n (word_of (closed_node file)) t Out) ×
      TreeDoes c s.node (update s.node n (word_of (closed_node file))) (Action.Close n)
  closes_file file n within is ln found kind lawful some stays =
      let new : NodeWord = closed_node file in
      let less : new.opens + 1 ≡ file.opens = omega (arith, some) in
      let few : new.opens ≤ 64 = omega (arith, less, lawful.few) in
      let shown : node_shown (s.node n) ≡ Some (file_info file) = closing_shows n file found kind lawful in
      let shows : node_shown (word_of new) ≡ node_shown (s.node n) = file_shows new kind lawful.parent few ∙ sym shown in
      let counted : opens_in (s.node n) ≡ file.opens = ap opens_in found ∙ word_opens file lawful.parent lawful.few in
      let still : IsLawful new = record {
        parent = lawful.parent;
        free = λ e.
            let wrong : Some Kind.File ≡ None = sym kind ∙ e in
            absurd cc;
        few = few;
        closed = λ e.
            let wrong : Some Kind.File ≡ Some Kind.Dir = sym kind ∙ e in
            absurd cc;
        marked = λ e.
            let m = lawful.marked e in (
              kind,
              m.1,
              elim stays [
                | inl linked ↦
                    let wrong : false ≡ true = sym linked ∙ e in
                    absurd cc
                | inr two ↦ omega (arith, less, two)
              ],
            );
      } in
      let free : (u : ℕ) → u < c.tasks → (u ≡ t → ⊥) → frees n (s.at u) ≡ 1 → ⊥ = λ u lu ne.
      not_freed c s good t lt n u lu (elim stays [
        | inl linked ↦ inl (ap is_removed shown ∙ linked)
        | inr two ↦ inr (λ e. omega (arith, e, counted, two))
      ]) in
      let small : file.size ≤ c.capacity = omega (
        arith,
        ap size_of shown,
        total_at c.nodes n (λ x. size_of (node_shown (s.node x))) ln,
        good.blocks,
        good.room,
      ) in
      let open_still : (is_removed (node_shown (s.node n)) && (opens_in (s.node n) == 1)) ≡ false = elim stays [
        | inl linked ↦ ap (λ b. b && (opens_in (s.node n) == 1)) (ap is_removed shown ∙ linked)
        | inr two ↦ both_false (is_removed (node_shown (s.node n))) (opens_in (s.node n) == 1)
            (ne_eqb (opens_in (s.node n)) 1 (λ e. absurd (omega (arith, e, counted, two))))
      ] in (
        node_changes c s good t lt n (word_of new) Out ln
            (λ e.
            let wrong : Kind.File ≡ Kind.Dir = subst IsDirectory shown e in
            absurd cc) (lawful_file new kind still (omega (arith, small, within.capacity)))
            (subst (HasParent c.nodes s.node) (sym shows) (good.parents n ln))
            (omega (arith, ap size_of shows, ap charge is))
            (λ d. omega (arith, ap (has_parent d) shows, ap (child_charge d) is))
            (omega (arith, ap (λ o. one_if (is_removed o)) shows, ap removal is))
            (inl (λ e. ap is_dirty shows ∙ e)) (inl shows) free tt,
        record {
          allowed = ln;
          effect = same_shown s.node n (word_of new) shows ∙ sym (update_same (tree_shown s.node) n) ∙
              sym (ap (λ b. update (tree_shown s.node) n (if b then None else node_shown (s.node n))) open_still);
          opens = update_map opens_in s.node n (word_of new) ∙
              ap (update (opens_shown s.node) n) (word_opens new lawful.parent few ∙ omega (arith, less, counted));
        },
      )

  pub frees_file : (file : NodeWord) (n : ℕ) → AreWithin c → NobodyReads c s → NobodyElseFrees c s t n → s.at t ≡ Freeing n file →
      TreeHolds c (with_node s n 0 t (Dropped file.size)) × TreeDoes c s.node (update s.node n 0) (Action.Close n)
  frees_file file n within quiet alone is =
      let h : (n < c.nodes) × IsLastOpen s.node n file = role_says c s good t lt (Freeing n file) is in
      let one : file.opens ≤ 64 = omega (arith, h.1.opens) in
      let shown : node_shown (s.node n) ≡ Some (file_info file) = ap node_shown h.1.word ∙ file_shows file h.1.kind h.1.parent one in
      let counted : opens_in (s.node n) ≡ 1 = ap opens_in h.1.word ∙ word_opens file h.1.parent one ∙ h.1.opens in
      let gone : is_removed (node_shown (s.node n)) ≡ true = ap is_removed shown ∙ h.1.removed in
      let stood : (d : ℕ) → has_parent d (node_shown (s.node n)) ≡ 0 = λ d.
      ap (has_parent d) shown ∙ ap (λ b. if b then 0 else is_same file.parent d) h.1.removed in
      let last : (is_removed (node_shown (s.node n)) && (opens_in (s.node n) == 1)) ≡ true =
      rw (gone, eq-eqb (opens_in (s.node n)) 1 counted) refl in (
        node_changes c s good t lt n 0 (Dropped file.size) h.0
            (λ e.
            let wrong : Kind.File ≡ Kind.Dir = subst IsDirectory shown e in
            absurd cc) free_is_node tt
            (omega (arith, ap size_of shown, ap charge is))
            (λ d. omega (arith, stood d, ap (child_charge d) is))
            (omega (arith, ap one_if gone, ap removal is))
            (inl (λ e. refl)) (inr quiet) (λ u lu ne e. absurd (omega (arith, e, alone u lu ne))) tt,
        record {
          allowed = h.0;
          effect = update_map node_shown s.node n 0 ∙
              sym (ap (λ b. update (tree_shown s.node) n (if b then None else node_shown (s.node n))) last);
          opens = update_map opens_in s.node n 0 ∙ sym (ap (λ k. update (opens_shown s.node) n (k - 1)) counted);
        },
      )
