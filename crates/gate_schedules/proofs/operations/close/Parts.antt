-- A step of a close at the tree: it leaves the mounts, the levels and the sections alone, and all of the shown state but the tree and its
-- task's open files.
use Rattle.gate_schedules.proofs.Prelude.{Action, Bool, ClosePhase, Config, Files, Fits, Fitting, Freeing, GateError, HasFile, Holdings, HookAnswer}
use Rattle.gate_schedules.proofs.Prelude.{IsGood, IsWithin, List, Next, NodeWord, Option, Phase, Result, Some, StepKeeps, SyncStep, Traced, Tree}
use Rattle.gate_schedules.proofs.Prelude.{View, World, after_look, after_step, ap, arith, cases_Bool, common_steps, eqb_tells, false, file_of}
use Rattle.gate_schedules.proofs.Prelude.{found_at, has_open, held_after, held_of, inl, inr, is_bare_at, is_removed, level_in, map_next, model_limits}
use Rattle.gate_schedules.proofs.Prelude.{node_shown, opens_in, phase_after, refl, role_after, shown, subst, sym, tree_bounds, tree_role_of}
use Rattle.gate_schedules.proofs.Prelude.{tree_roles, true, true≢false, value_at, view_after, word_of, ℕ, ◌<◌, ◌==◌, ◌∙◌, ◌≡◌}
use Rattle.composite_ops.specs.{declared.file_closes.phases.Closing.Closing, file_closes.Phases.{after, closed_from, next}}
use Rattle.{gate_world.specs.{Fits.{CloseFits, MayLower}, Roles.close_tree_role, Trees.is_sealed}, gated_tree.specs.Roles.Dropped}
use Rattle.node_words.{proofs.Words.{word_opens, word_shows}, specs.Nodes.info_of}
use Rattle.gate_schedules.proofs.operations.close.Events.{close_drops, close_frees, close_loads, close_lowers, close_uncounts, closer_unread}
use Rattle.gate_schedules.proofs.operations.close.{Events.{dropped_removed, freeing_removed, frees_alone}, Fits.close_goes}
use Rattle.gate_schedules.proofs.trees.worlds.{Events.{IsPlain, plain_parts, tree_run}, MayTree.LeaveFor, Parts.{IsAtTree, IsOffGates}}
use Rattle.gate_schedules.proofs.trees.worlds.Parts.{LeavesAccesses, files_then, fitting_then, idle_off, is_node_word, node_call, shown_moves}
use Rattle.gate_schedules.{proofs.trees.worlds.{Parts.tree_then, Trees.tree_within}, specs.trees.{Events.HasLeave, Steps.EventKeeps}}

-- the steps at the tree
abbrev pub is_at_tree : ClosePhase → Bool
is_at_tree (ClosePhase.Enters file node r) = false
is_at_tree (ClosePhase.Leaves p) = false
is_at_tree x = true

close_word : (x : ClosePhase) → is_at_tree x ≡ true → is_node_word (next x).0 ≡ true
close_word x h = grind arith

close_leaves : (x : ClosePhase) → is_at_tree x ≡ true → (found : ℕ) → LeavesAccesses (after x found).1
close_leaves x h found = grind arith

off_close : (x : ClosePhase) → is_at_tree x ≡ true → IsOffGates (Some (Phase.Closes x))
off_close x h = grind arith

off_leaves : (p : ℕ) → IsOffGates (Some (Phase.Closes (ClosePhase.Leaves p)))
off_leaves p = record { roles = refl; closing_none = λ i. refl }

off_looked : (x : Closing) (r : Option (Result NodeWord GateError)) →
    IsOffGates (phase_after (map_next Phase.Closes (after_look (ClosePhase.LoadsFile x) (closed_from x) r)))
off_looked x r = grind arith

off_next : (x : ClosePhase) → is_at_tree x ≡ true → (found : ℕ) → IsOffGates (phase_after (map_next Phase.Closes (after x found).0))
off_next x h found = grind (arith, off_looked, idle_off, off_close, off_leaves)

-- a close has to do with no stage and owns nothing, and so has what comes after one
plain_next : (n : Next ClosePhase) → IsPlain (phase_after (map_next Phase.Closes n))
plain_next n = grind arith

-- its role at the tree is that of its phase
role_comes : (n : Next ClosePhase) (trace : List Traced) → role_after close_tree_role n ≡ tree_role_of trace (phase_after (map_next Phase.Closes n))
role_comes n trace = grind arith

file_then : (held : Holdings) (x : ClosePhase) → is_at_tree x ≡ true → (found : ℕ) → HasFile held.files (file_of (Some (Phase.Closes x))) →
    HasFile (held_after (after x found).1 held).files (file_of (phase_after (map_next Phase.Closes (after x found).0)))
file_then held x h found own = grind (arith, common_steps)

close_at : (w : World) (x : ClosePhase) (hook : HookAnswer) → is_at_tree x ≡ true → IsAtTree w (Phase.Closes x) hook
close_at w x hook at = record {
  touches = inr (node_call (next x).0 (close_word x at));
  leaves = close_leaves x at (found_at w.words (Phase.Closes x) hook);
  off = off_close x at;
  off_then = off_next x at (found_at w.words (Phase.Closes x) hook);
}

module _ (c : Config) (within : IsWithin c) (w : World) (good : IsGood c w) (t : ℕ) (lt : t < c.tasks) (hook : HookAnswer) (x : ClosePhase)
    (at : is_at_tree x ≡ true) (e : (w.views t).phase ≡ Some (Phase.Closes x)) where
  abbrev close_view : View
  close_view = view_after (w.views t) (Phase.Closes x) (value_at w.words (Phase.Closes x) hook) hook

  abbrev close_found : ℕ
  close_found = found_at w.words (Phase.Closes x) hook

  abbrev close_next : Next ClosePhase
  close_next = (after x close_found).0

  abbrev close_action : Option Action
  close_action = (after x close_found).1

  fits_now : CloseFits c t (held_of (w.views t)) x
  fits_now = subst (Fits c t (held_of (w.views t))) e (good Fitting t lt)

  has_now : HasFile (has_open (w.views t)) (file_of (Some (Phase.Closes x)))
  has_now = subst (λ p. HasFile (has_open (w.views t)) (file_of p)) e ((good Files).own t lt)

  role_now : tree_roles w t ≡ close_tree_role x
  role_now = ap (tree_role_of (w.views t).trace) e

  -- what the tree's own law says of the step
  abbrev TreeLaw : Type 0
  TreeLaw = EventKeeps (tree_bounds c) (is_sealed w.words) (is_bare_at w.words) w.words (tree_roles w) t (next x)
      (role_after close_tree_role close_next) close_action

  close_kept : LeaveFor c w good t lt close_action → TreeLaw → StepKeeps c w t hook (Phase.Closes x)
  close_kept leave kept = (
    plain_parts c w good t lt (Phase.Closes x) hook e (close_at w x hook at) (close_word x at) (record { aside = refl; owns_none = refl })
        (plain_next close_next)
        (fitting_then c w good t lt (Phase.Closes x) hook e (close_at w x hook at)
        (close_goes c t (held_of (w.views t)) x close_found fits_now))
        (tree_then c w good t lt (Phase.Closes x) hook e (close_at w x hook at) (role_after close_tree_role close_next)
        (role_comes close_next close_view.trace) kept.0)
        (files_then c w good t lt (Phase.Closes x) hook e (close_at w x hook at) within leave kept.1
        (file_then (held_of (w.views t)) x at close_found has_now)),
    shown_moves c w good t lt (Phase.Closes x) hook e (close_at w x hook at) close_action refl leave kept.1,
  )

pub close_run : (c : Config) (w : World) (t : ℕ) → t < c.tasks → (hook : HookAnswer) (x : ClosePhase) → is_at_tree x ≡ true →
    (w.views t).phase ≡ Some (Phase.Closes x) → (i : ℕ) → SyncStep c.tasks (level_in w i) (level_in (after_step w t (Phase.Closes x) hook) i)
close_run c w t lt hook x at e i = tree_run c.tasks w t lt (Phase.Closes x) hook e (close_at w x hook at) i

module _ (c : Config) (within : IsWithin c) (w : World) (good : IsGood c w) (t : ℕ) (lt : t < c.tasks) (hook : HookAnswer) where
  abbrev IsHere : ClosePhase → Type 0
  IsHere x = (w.views t).phase ≡ Some (Phase.Closes x)

  -- a close whose file is linked, or open for another task too, needs no level
  shared_leave : (file : ℕ) (node : NodeWord) → file < c.nodes → MayLower node → w.words.node file ≡ word_of node →
      has_open (w.views t) file ≡ true →
      HasLeave (model_limits c) (shown c w) t (Action.Close file)
  shared_leave file node lf may found own =
      let shows : node_shown (w.words.node file) ≡ info_of node = ap node_shown found ∙ word_shows node may.1.parent may.1.few in
      let gone : is_removed (node_shown (w.words.node file)) ≡ node.removed =
      ap is_removed (shows ∙ ap (λ k. info_of (record node { kind = k })) may.0) in
      let count : opens_in (w.words.node file) ≡ node.opens = ap opens_in found ∙ word_opens node may.1.parent may.1.few in (
        own,
        λ r one. elim may.3 [
          | inl linked ↦ absurd (true≢false (sym r ∙ gone ∙ linked))
          | inr two ↦ absurd (omega (arith, two, one, count, (good Files).counted file lf))
        ],
      )

  pub loads_file : (x : Closing) → IsHere (ClosePhase.LoadsFile x) → StepKeeps c w t hook (Phase.Closes (ClosePhase.LoadsFile x))
  loads_file x e =
      let f : CloseFits c t (held_of (w.views t)) (ClosePhase.LoadsFile x) = fits_now c within w good t lt hook (ClosePhase.LoadsFile x) refl e in
      close_kept c within w good t lt hook (ClosePhase.LoadsFile x) refl e tt
      (close_loads (tree_bounds c) (tree_within c within) (is_sealed w.words) (is_bare_at w.words) w.words (tree_roles w) (good Tree) t lt x
      (role_now c within w good t lt hook (ClosePhase.LoadsFile x) refl e) f.0)

  pub lowers_count : (x : Closing) (node : NodeWord) → IsHere (ClosePhase.LowersCount x node) →
      StepKeeps c w t hook (Phase.Closes (ClosePhase.LowersCount x node))
  lowers_count x node e =
      let f : CloseFits c t (held_of (w.views t)) (ClosePhase.LowersCount x node) = fits_now c within w good t lt hook
      (ClosePhase.LowersCount x node) refl e in
      let own : has_open (w.views t) x.file ≡ true = has_now c within w good t lt hook (ClosePhase.LowersCount x node) refl e in
      close_kept c within w good t lt hook (ClosePhase.LowersCount x node) refl e
      (elim (eqb_tells (w.words.node x.file) (word_of node)) [
        | inl h ↦ rw h.0 (shared_leave x.file node f.0.0 f.1 h.1 own)
        | inr h ↦ rw h.0 tt
      ])
      (close_lowers (tree_bounds c) (tree_within c within) (is_sealed w.words) (is_bare_at w.words) w.words (tree_roles w) (good Tree) t lt x
      node (role_now c within w good t lt hook (ClosePhase.LowersCount x node) refl e) f.0.0 f.1)

  pub frees_node : (file p : ℕ) (node : NodeWord) → IsHere (ClosePhase.FreesNode file p node) →
      StepKeeps c w t hook (Phase.Closes (ClosePhase.FreesNode file p node))
  frees_node file p node e =
      let f : CloseFits c t (held_of (w.views t)) (ClosePhase.FreesNode file p node) =
      fits_now c within w good t lt hook (ClosePhase.FreesNode file p node) refl e in
      let own : has_open (w.views t) file ≡ true = has_now c within w good t lt hook (ClosePhase.FreesNode file p node) refl e in
      let is : tree_roles w t ≡ Freeing file node = role_now c within w good t lt hook (ClosePhase.FreesNode file p node) refl e in
      close_kept c within w good t lt hook (ClosePhase.FreesNode file p node) refl e
      (elim (cases_Bool (w.words.node file == word_of node)) [ inl h ↦ rw h (own, λ r one. f.2) | inr h ↦ rw h tt ])
      (close_frees (tree_bounds c) (tree_within c within) (is_sealed w.words) (is_bare_at w.words) w.words (tree_roles w) (good Tree) t lt
      file p node is (closer_unread c within w good t lt f.2 (freeing_removed c within w good t lt file node f.0 is))
      (frees_alone c within w good t lt file node f.0 is own))

  pub refunds_blocks : (p blocks : ℕ) → IsHere (ClosePhase.RefundsBlocks p blocks) → StepKeeps c w t hook (Phase.Closes (ClosePhase.RefundsBlocks p blocks))
  refunds_blocks p blocks e =
      let f : CloseFits c t (held_of (w.views t)) (ClosePhase.RefundsBlocks p blocks) =
      fits_now c within w good t lt hook (ClosePhase.RefundsBlocks p blocks) refl e in
      let is : tree_roles w t ≡ Dropped blocks = role_now c within w good t lt hook (ClosePhase.RefundsBlocks p blocks) refl e in
      close_kept c within w good t lt hook (ClosePhase.RefundsBlocks p blocks) refl e tt
      (close_drops (tree_bounds c) (tree_within c within) (is_sealed w.words) (is_bare_at w.words) w.words (tree_roles w) (good Tree) t lt
      p blocks is (closer_unread c within w good t lt f.1 (dropped_removed c within w good t lt blocks is)))

  pub uncounts : (p : ℕ) → IsHere (ClosePhase.Uncounts p) → StepKeeps c w t hook (Phase.Closes (ClosePhase.Uncounts p))
  uncounts p e =
      close_kept c within w good t lt hook (ClosePhase.Uncounts p) refl e tt
      (close_uncounts (tree_bounds c) (tree_within c within) (is_sealed w.words) (is_bare_at w.words) w.words (tree_roles w) (good Tree) t lt
      p (role_now c within w good t lt hook (ClosePhase.Uncounts p) refl e))
