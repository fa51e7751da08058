-- A close at the tree: each of its steps there is one of the tree's, and nobody is in the way of a last close inside level 3.
use Rattle.gate_schedules.proofs.Prelude.{AreWithin, Bool, Bounds, ClosePhase, Config, Err, Files, Freeing, GateError, HasFile, IsGood, IsWithin}
use Rattle.gate_schedules.proofs.Prelude.{List, NobodyReads, NodeWord, None, Ok, Option, Out, Phase, Result, Role, RoleHolds, Some, Stages, Traced}
use Rattle.gate_schedules.proofs.Prelude.{Tree, TreeHolds, TreeState, WordName, Words, World, after_look, ap, arith, cases_Bool, eqb_tells, false}
use Rattle.gate_schedules.proofs.Prelude.{file_of, has_open, holds_level, if◌then◌else◌, inl, inr, is_bare_at, is_removed, node_shown, one_if}
use Rattle.gate_schedules.proofs.Prelude.{openers, opens_in, refl, removal, role_after, subst, sym, total, total_at, total_updated, tree_bounds}
use Rattle.gate_schedules.proofs.Prelude.{tree_of, tree_role_of, tree_roles, true, turned, update, update_off, word_of, ℕ, ◌&&◌, ◌<◌, ◌==◌, ◌∙◌, ◌≡◌}
use Rattle.gate_schedules.proofs.Prelude.{◌≤◌}
use Rattle.std.proofs.lemmas.Bool.{true≢false}
use Rattle.access_model.specs.States.{most_tasks}
use Rattle.composite_ops.specs.{declared.file_closes.phases.Closing.Closing, file_closes.Phases.{after, closed_from, enters, next}}
use Rattle.{gate_world.specs.{Fits.MayLower, Roles.close_tree_role}, gated_tree.specs.Roles.{Dropped, IsLastOpen, NobodyElseFrees, Uncounting, frees}}
use Rattle.node_words.{proofs.Words.{word_opens, word_shows}, specs.Nodes.{any_file_in, info_of}}
use Rattle.gate_schedules.proofs.{frames.Openers.most_tasks_is, trees.{Counts.finds_last, Each.each_event, Laws.role_says}}
use Rattle.gate_schedules.proofs.trees.{Steps.{as_event, leaves_word, stays_at}, worlds.{Holders.level_thawed, Trees.nobody_reads}}
use Rattle.gate_schedules.specs.trees.{Events.{ClosesFile, DropsBlocks, FreesFile, Uncounts}, Steps.{EventKeeps, tree_in}}

-- each step of a close on a word of the tree, where its task holds what it may
module _ (c : Bounds) (within : AreWithin c) (sealed bare : ℕ) (w : Words) (at : ℕ → Role) (good : TreeHolds c (tree_in sealed bare w at))
    (t : ℕ) (lt : t < c.tasks) where
  -- the tree before the step
  abbrev here : TreeState
  here = tree_in sealed bare w at

  -- a close that found its file: it is to be loaded again, it is a removed one that nobody else has open, or its count is lowered
  close_cases : (x : Closing) (file : NodeWord) (none removed one : Bool) → at t ≡ Out →
      (removed ≡ true → one ≡ true → TreeHolds c (turned here t (Freeing x.file file))) →
      TreeHolds c (turned here t (close_tree_role (if none then ClosePhase.LoadsFile x else
      if removed && one then enters x file else ClosePhase.LowersCount x file)))
  close_cases x file true removed one is last = stays_at c within sealed bare w at good t lt Out is
  close_cases x file false true true is last = last refl refl
  close_cases x file false true false is last = stays_at c within sealed bare w at good t lt Out is
  close_cases x file false false one is last = stays_at c within sealed bare w at good t lt Out is

  one_is : (n : ℕ) → (n == 1) ≡ true → n ≡ 1
  one_is n e = elim (eqb_tells n 1) [ inl h ↦ h.1 | inr h ↦ absurd (true≢false (sym e ∙ h.0)) ]

  close_from : (x : Closing) → at t ≡ Out → x.file < c.nodes → (file : NodeWord) → any_file_in (w.node x.file) ≡ Some (Ok file) →
      TreeHolds c (turned here t (close_tree_role (closed_from x file)))
  close_from x is ln file found =
      close_cases x file (file.opens == 0) file.removed (file.opens == 1) is
      (λ r o. finds_last c here good t lt file x.file is ln found r (one_is file.opens o))

  close_looked : (x : Closing) → at t ≡ Out → x.file < c.nodes → (r : Option (Result NodeWord GateError)) → any_file_in (w.node x.file) ≡ r →
      TreeHolds c (turned here t (role_after close_tree_role (after_look (ClosePhase.LoadsFile x) (closed_from x) r)))
  close_looked x is ln None found = stays_at c within sealed bare w at good t lt Out is
  close_looked x is ln (Some (Ok file)) found = close_from x is ln file found
  close_looked x is ln (Some (Err refusal)) found = stays_at c within sealed bare w at good t lt Out is

  pub close_loads : (x : Closing) → at t ≡ Out → x.file < c.nodes →
      EventKeeps c sealed bare w at t (next (ClosePhase.LoadsFile x)) (role_after close_tree_role (after (ClosePhase.LoadsFile x) (w.node x.file)).0)
      (after (ClosePhase.LoadsFile x) (w.node x.file)).1
  close_loads x is ln =
      leaves_word c within sealed bare w at good t lt (WordName.Node x.file) _ (close_looked x is ln (any_file_in (w.node x.file)) refl)

  -- the compare-exchange that lowers a count
  pub close_lowers : (x : Closing) (file : NodeWord) → at t ≡ Out → x.file < c.nodes → MayLower file →
      EventKeeps c sealed bare w at t (next (ClosePhase.LowersCount x file))
      (role_after close_tree_role (after (ClosePhase.LowersCount x file) (w.node x.file)).0)
      (after (ClosePhase.LowersCount x file) (w.node x.file)).1
  close_lowers x file is ln may = elim (eqb_tells (w.node x.file) (word_of file)) [
    | inl e ↦ rw e.0 (each_event c within here good t lt _ _ (ClosesFile file x.file is ln e.1 may.0 may.1 may.2 may.3))
    | inr e ↦ rw e.0 (leaves_word c within sealed bare w at good t lt (WordName.Node x.file) Out (stays_at c within sealed bare w at good t lt Out is))
  ]

  -- the compare-exchange that frees the node, which can't fail
  pub close_frees : (f p : ℕ) (file : NodeWord) → at t ≡ Freeing f file → NobodyReads c here → NobodyElseFrees c here t f →
      EventKeeps c sealed bare w at t (next (ClosePhase.FreesNode f p file)) (role_after close_tree_role (after (ClosePhase.FreesNode f p file) (w.node f)).0)
      (after (ClosePhase.FreesNode f p file) (w.node f)).1
  close_frees f p file is quiet alone = elim (eqb_tells (w.node f) (word_of file)) [
    | inl e ↦ rw e.0 (each_event c within here good t lt _ _ (FreesFile file f quiet alone is))
    | inr e ↦ absurd (e.1 (role_says c here good t lt (Freeing f file) is).1.word)
  ]

  -- its blocks and its removal are subtracted
  pub close_drops : (p blocks : ℕ) → at t ≡ Dropped blocks → NobodyReads c here →
      EventKeeps c sealed bare w at t (next (ClosePhase.RefundsBlocks p blocks)) Uncounting None
  close_drops p blocks is quiet = as_event c within sealed bare w at good t lt (next (ClosePhase.RefundsBlocks p blocks)) _ _ (DropsBlocks blocks quiet is)

  pub close_uncounts : (p : ℕ) → at t ≡ Uncounting → EventKeeps c sealed bare w at t (next (ClosePhase.Uncounts p)) Out None
  close_uncounts p is = as_event c within sealed bare w at good t lt (next (ClosePhase.Uncounts p)) _ _ (Uncounts is)

-- who relies on the word of a node has its file open: no other phase does
module _ (n : ℕ) where
  freer_file : (trace : List Traced) (p : Option Phase) → frees n (tree_role_of trace p) ≡ 1 → file_of p ≡ Some (n, true)
  freer_file trace p e = grind arith

frees_le : (n : ℕ) (r : Role) → frees n r ≤ 1
frees_le n r = grind arith

frees_small : (n : ℕ) (r : Role) → (frees n r ≡ 1 → ⊥) → frees n r ≡ 0
frees_small n r other = omega (arith, other, frees_le n r)

two_open : (opens : ℕ → ℕ → Bool) (n t u : ℕ) → t < most_tasks → u < most_tasks → (u ≡ t → ⊥) → opens t n ≡ true → opens u n ≡ true →
    2 ≤ openers opens n
two_open opens n t u lt lu ne a b =
    let g : ℕ → ℕ = λ x. one_if (opens x n) in
    let less = total_updated (λ v. v) most_tasks t g 0 lt in
    let other : update g t 0 u ≡ 1 = update_off g t 0 u ne ∙ ap one_if b in
    let least : update g t 0 u ≤ total most_tasks (update g t 0) = total_at most_tasks u (update g t 0) lu in
    omega (arith, less, other, least, ap one_if a)

module _ (c : Config) (within : IsWithin c) (w : World) (good : IsGood c w) (t : ℕ) (lt : t < c.tasks) where
  -- a task that is to free a node: nobody else relies on its word, since nobody else has it open
  pub frees_alone : (n : ℕ) (file : NodeWord) → n < c.nodes → tree_roles w t ≡ Freeing n file → has_open (w.views t) n ≡ true →
      NobodyElseFrees (tree_bounds c) (tree_of w) t n
  frees_alone n file ln is own u lu ne =
      let last : (n < c.nodes) × IsLastOpen w.words.node n file =
      subst (RoleHolds (tree_bounds c) w.words.used w.words.removed w.words.node w.words.kids) is ((good Tree).roles t lt) in
      let one : opens_in (w.words.node n) ≡ 1 =
      ap opens_in last.1.word ∙ word_opens file last.1.parent (omega (arith, last.1.opens)) ∙ last.1.opens in
      elim (eqb_tells (frees n (tree_roles w u)) 1) [
        | inl e ↦
            let its : HasFile (has_open (w.views u)) (Some (n, true)) =
            subst (HasFile (has_open (w.views u))) (freer_file n (w.views u).trace (w.views u).phase e.1) ((good Files).own u lu) in
            let two = two_open (λ x. has_open (w.views x)) n t u (omega (arith, lt, within.tasks, most_tasks_is))
            (omega (arith, lu, within.tasks, most_tasks_is)) ne own its in
            absurd (omega (arith, one, two, (good Files).counted n ln))
        | inr e ↦ frees_small n (tree_roles w u) e.1
      ]

  -- inside level 3, where some file is removed, the file system is not frozen: a frozen superblock that is writable has nobody inside, and one
  -- that is read-only has no removed file
  pub closer_thawed : holds_level (w.views t) 3 ≡ true → 1 ≤ w.words.removed → w.words.stage ≡ 4 → ⊥
  closer_thawed inside some frozen = elim (eqb_tells w.words.sb 1) [
    | inl e ↦
        let bare : is_bare_at w.words ≡ 1 = elim (cases_Bool (w.words.remount == 1)) [ inl r ↦ rw r refl | inr r ↦ rw (r, e.0) refl ] in
        omega (arith, some, (good Tree).none bare)
    | inr e ↦
        let writable : w.words.sb ≡ 0 = omega (arith, e.1, (good Stages).superblock) in
        level_thawed c w good t lt 3 (omega arith) (omega arith) inside (rw (frozen, writable) refl)
  ]

  pub closer_unread : holds_level (w.views t) 3 ≡ true → 1 ≤ w.words.removed → NobodyReads (tree_bounds c) (tree_of w)
  closer_unread inside some = nobody_reads c w good (closer_thawed inside some)

  pub removal_counted : removal (tree_roles w t) ≡ 1 → 1 ≤ w.words.removed
  removal_counted is = omega (arith, (good Tree).removals, total_at c.tasks t (λ x. removal (tree_roles w x)) lt, is)

  -- a file is removed while a last close is to free it, and counted until its last subtraction
  pub freeing_removed : (n : ℕ) (file : NodeWord) → n < c.nodes → tree_roles w t ≡ Freeing n file → 1 ≤ w.words.removed
  freeing_removed n file ln is =
      let last : (n < c.nodes) × IsLastOpen w.words.node n file =
      subst (RoleHolds (tree_bounds c) w.words.used w.words.removed w.words.node w.words.kids) is ((good Tree).roles t lt) in
      let shows : node_shown (w.words.node n) ≡ info_of file =
      ap node_shown last.1.word ∙ word_shows file last.1.parent (omega (arith, last.1.opens)) in
      let gone : is_removed (node_shown (w.words.node n)) ≡ true =
      ap is_removed (shows ∙ ap (λ k. info_of (record file { kind = k })) last.1.kind) ∙ last.1.removed in
      omega (
        arith,
        (good Tree).removals,
        total_at c.nodes n (λ m. one_if (is_removed (node_shown (w.words.node m)))) ln,
        ap one_if gone,
      )

  pub dropped_removed : (blocks : ℕ) → tree_roles w t ≡ Dropped blocks → 1 ≤ w.words.removed
  dropped_removed blocks is = omega (arith, (good Tree).removals, total_at c.tasks t (λ x. removal (tree_roles w x)) lt, ap removal is)
