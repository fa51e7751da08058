-- What is frozen is shut, and so its tree stays, action by action.
use Rattle.finite_sums.proofs.Totals.{each_updated}
use Rattle.std.proofs.Common.{Bool, List, None, Option, Some, [], arith, false, inl, inr, option_map, refl, suc, sym, true, zero, ℕ, ◌&&◌, ◌++◌, ◌<◌}
use Rattle.std.proofs.{Common.{◌==◌, ◌∙◌, ◌∷◌, ◌≡◌, ◌≤◌}, lemmas.Bool.{Decides.eqb_tells, both_ways, cases_Bool, false≢true}}
use Rattle.access_model.{proofs.{Closed.closed, Held.{some_held, stays_frozen}}, specs.Actions.{HoldsSomeMount, IsAllowed, MayDo, MayStage}}
use Rattle.access_model.specs.{Actions.{after_action, after_close, marked}, Histories.{Done, IsLegal, end_of}, Holders.{held_by, nobody}}
use Rattle.access_model.specs.Laws.{FrozenIsShut, IsFrozenStill, NeverLeaves, NobodyHoldsClosed, TreeStays}
use Rattle.access_model.specs.{States.{IsClean, Limits, NoneRemoved, State, is_dirty, is_removed}, declared.actions.Action.Action}
use Rattle.access_model.specs.declared.actions.Action.TheVariants.{Clean, Close, Create, Dirty, Grant, Grow, Hold, Leave, MountRo, MountRw, MoveTo}
use Rattle.access_model.specs.declared.actions.{Action.TheVariants.{Open, Pass, Remove, Reopen, Return, SbRo, SbRw, Stage}, Holder.Holder}
use Rattle.access_model.specs.declared.actions.{Holder.TheVariants.{Kernel, User}, NodeInfo.NodeInfo}

-- a node whose mark is cleared is clean, and removed as before; and where it was clean it is the same
marked_clean : (node : Option NodeInfo) → is_dirty (option_map (marked false) node) ≡ false
marked_clean None = refl
marked_clean (Some node) = refl

marked_removed : (node : Option NodeInfo) → is_removed (option_map (marked false) node) ≡ is_removed node
marked_removed None = refl
marked_removed (Some node) = refl

marked_same : (node : Option NodeInfo) → is_dirty node ≡ false → option_map (marked false) node ≡ node
marked_same None clean = refl
marked_same (Some node) clean = λ j. Some (record node { dirty = sym clean j })

-- what a close leaves of a node has what free nodes have, and what it had
closed_has : (P : Option NodeInfo → Type 0) (count : ℕ) (node : Option NodeInfo) → P None → P node → P (after_close count node)
closed_has P count node none some = elim (cases_Bool (is_removed node && (count == 1))) [ inl h ↦ rw h none | inr h ↦ rw h some ]

-- one that isn't removed it leaves
closed_same : (count : ℕ) (node : Option NodeInfo) → is_removed node ≡ false → after_close count node ≡ node
closed_same count entry not_removed = rw not_removed refl

-- and one that others have open, too
closed_open : (count : ℕ) (node : Option NodeInfo) → (count == 1) ≡ false → after_close count node ≡ node
closed_open count node others = elim (cases_Bool (is_removed node)) [ inl h ↦ rw (h, others) refl | inr h ↦ rw h refl ]

module _ (l : Limits) (s : State) (t : ℕ) (lt : t < l.tasks) (k : NobodyHoldsClosed l s) (i : FrozenIsShut l s) where
  -- nobody holds a mount of a read-only superblock
  no_mount : s.sb_ro ≡ true → HoldsSomeMount l s t → ⊥
  no_mount ro held = omega (arith, k.mounts t held.0 lt held.1 (inr ro), held.2)

  -- at stages 3 and 4 nobody is inside level 1 or 2 and holds a mount
  outside : (j : ℕ) → 1 ≤ j → j ≤ 2 → 3 ≤ s.stage → s.levels t j ≡ true → HoldsSomeMount l s t → ⊥
  outside j one two three there held =
      elim (eqb_tells s.stage 3) [
        | inl h ↦ both_ways (s.levels t j) (k.levels t j lt one (omega (arith, i.shutting h.1))) there
        | inr h ↦ elim (i.shut (omega (arith, k.stage, h.1))) [
          | inl all ↦ both_ways (s.levels t j) (k.levels t j lt one (omega arith)) there
          | inr ro ↦ no_mount ro held
        ]
      ]

  -- an action that leaves the stage, what is passed, the superblock, the holders and the tree
  same_gates : (mounts : ℕ → ℕ → ℕ) (levels opens : ℕ → ℕ → Bool) (mount_ro : ℕ → Bool) →
      FrozenIsShut l (record s { mounts = mounts; levels = levels; opens = opens; mount_ro = mount_ro })
  same_gates mounts levels opens mount_ro =
      record { shut = i.shut; shutting = i.shutting; clean = i.clean; none_removed = i.none_removed; frozen = i.frozen }

  -- or all but the tree, in which no file is dirty or removed that wasn't
  other_tree : (opens : ℕ → ℕ → Bool) (tree : ℕ → Option NodeInfo) → (3 ≤ s.stage → IsClean l (record s { tree = tree })) →
      (s.sb_ro ≡ true → NoneRemoved l (record s { tree = tree })) →
      FrozenIsShut l (record s { opens = opens; tree = tree })
  other_tree opens tree clean none =
      record { shut = i.shut; shutting = i.shutting; clean = clean; none_removed = none; frozen = i.frozen }

  -- below stage 3 nothing has to be shut or clean, and nobody holds a freeze
  below_three : (n : ℕ) → n < 3 → ((h : Holder) → held_by s.holders h ≡ true → ⊥) → FrozenIsShut l (after_action s t (Stage n))
  below_three n low none = record {
    shut = λ e. absurd (omega (arith, e, low));
    shutting = λ e. absurd (omega (arith, e, low));
    clean = λ e. absurd (omega (arith, e, low));
    none_removed = i.none_removed;
    frozen = λ h own. absurd (none h own);
  }

  staged : (n : ℕ) → MayStage l s n → FrozenIsShut l (after_action s t (Stage n))
  staged zero may = below_three 0 (omega arith) (λ h own. elim may [
    | inl two ↦ omega (arith, two.0, i.frozen h own)
    | inr more ↦ elim more [
      | inl three ↦ omega (arith, three.0, i.frozen h own)
      | inr most ↦ elim most [
        | inl four ↦ some_held h s.holders.kernel s.holders.user four.1 own
        | inr early ↦ omega (arith, early.0, i.frozen h own)
      ]
    ]
  ])
  staged (suc zero) may = below_three 1 (omega arith) (λ h own. omega (arith, may.0, i.frozen h own))
  staged (suc (suc zero)) may = below_three 2 (omega arith) (λ h own. omega (arith, may.0, i.frozen h own))
  staged (suc (suc (suc zero))) may = record {
    shut = λ e. absurd (omega (arith, e));
    shutting = λ e. omega (arith, may.1);
    clean = λ e. may.2;
    none_removed = i.none_removed;
    frozen = λ h own. absurd (omega (arith, may.0, i.frozen h own));
  }
  staged (suc (suc (suc (suc zero)))) may = record {
    shut = λ e. elim may.1 [ inl three ↦ inl three.1 | inr none ↦ inr none.2 ];
    shutting = λ e. absurd (omega (arith, e));
    clean = λ e. may.0;
    none_removed = i.none_removed;
    frozen = λ h own. refl;
  }
  staged (suc (suc (suc (suc (suc n))))) may = absurd may

  -- an action that the task may do leaves what is frozen shut
  step : (a : Action) → MayDo l s t a → FrozenIsShut l (after_action s t a)
  step (Grant gate) may = same_gates _ _ _ _
  step (Return gate) may = same_gates _ _ _ _
  step (MountRo m) may = same_gates _ _ _ _
  step (MountRw m) may = same_gates _ _ _ _
  step SbRo may =
      record { shut = λ e. inr refl; shutting = i.shutting; clean = i.clean; none_removed = λ e. may.2; frozen = i.frozen }
  step SbRw may = record {
    shut = λ e. absurd (omega (arith, may, e));
    shutting = i.shutting;
    clean = i.clean;
    none_removed = λ e. absurd (false≢true e);
    frozen = i.frozen;
  }
  step (Stage n) may = staged n may
  step (Hold h) may =
      record { shut = i.shut; shutting = i.shutting; clean = i.clean; none_removed = i.none_removed; frozen = λ other own. may.0 }
  step (Leave h) may =
      record { shut = i.shut; shutting = i.shutting; clean = i.clean; none_removed = i.none_removed; frozen = λ other own. may.0 }
  step (Pass j) may = record {
    shut = λ e. absurd (omega (arith, e, may.0.1, may.1));
    shutting = λ e. omega (arith, e, may.1);
    clean = i.clean;
    none_removed = i.none_removed;
    frozen = i.frozen;
  }
  step (Reopen j) may = record {
    shut = λ e. absurd (omega (arith, e, may.1));
    shutting = λ e. absurd (omega (arith, e, may.1));
    clean = i.clean;
    none_removed = i.none_removed;
    frozen = i.frozen;
  }
  step (Create n d kind) may = other_tree s.opens _ (λ e. absurd (outside 1 (omega arith) (omega arith) e may.0.0 may.0.1))
      (λ ro. absurd (no_mount ro may.0.1))
  step (Remove n) may = other_tree s.opens _ (λ e. absurd (outside 1 (omega arith) (omega arith) e may.0.0 may.0.1))
      (λ ro. absurd (no_mount ro may.0.1))
  step (Grow n blocks) may = other_tree s.opens _ (λ e. absurd (outside 1 (omega arith) (omega arith) e may.0.0 may.0.1))
      (λ ro. absurd (no_mount ro may.0.1))
  step (MoveTo n d) may = other_tree s.opens _ (λ e. absurd (outside 1 (omega arith) (omega arith) e may.0.0 may.0.1))
      (λ ro. absurd (no_mount ro may.0.1))
  step (Dirty n) may = other_tree s.opens _ (λ e. absurd (outside 2 (omega arith) (omega arith) e may.0 may.1))
      (λ ro. absurd (no_mount ro may.1))
  step (Clean n) may = other_tree s.opens _
      (λ e x lx. each_updated (λ y (v : Option NodeInfo). is_dirty v ≡ false) s.tree n _ x (marked_clean (s.tree n)) (λ ne. i.clean e x lx))
      (λ ro x lx. each_updated (λ y (v : Option NodeInfo). is_removed v ≡ false) s.tree n _ x
      (marked_removed (s.tree n) ∙ i.none_removed ro n may.0) (λ ne. i.none_removed ro x lx))
  step (Open n) may = same_gates _ _ _ _
  step (Close n) may = other_tree _ _
      (λ e x lx. each_updated (λ y (v : Option NodeInfo). is_dirty v ≡ false) s.tree n _ x
      (closed_has (λ (v : Option NodeInfo). is_dirty v ≡ false) _ (s.tree n) refl (i.clean e n may.0)) (λ ne. i.clean e x lx))
      (λ ro x lx. each_updated (λ y (v : Option NodeInfo). is_removed v ≡ false) s.tree n _ x
      (closed_has (λ (v : Option NodeInfo). is_removed v ≡ false) _ (s.tree n) refl (i.none_removed ro n may.0)) (λ ne. i.none_removed ro x lx))

  -- At stage 4 it leaves the tree, too: nobody changes a node, write-back finds all clean, and a last close is none of a removed file.
  module _ (four : s.stage ≡ 4) where
    no_writer : (j : ℕ) → 1 ≤ j → j ≤ 2 → s.levels t j ≡ true → HoldsSomeMount l s t → ⊥
    no_writer j one two there held = outside j one two (omega arith) there held

    closed_stays : (n count : ℕ) → n < l.nodes → (is_removed (s.tree n) ≡ true → count ≡ 1 → s.levels t 3 ≡ true) →
        after_close count (s.tree n) ≡ s.tree n
    closed_stays n count ln last = elim (i.shut four) [
      | inr ro ↦ closed_same count (s.tree n) (i.none_removed ro n ln)
      | inl all ↦ elim (cases_Bool (is_removed (s.tree n))) [
        | inr not_removed ↦ closed_same count (s.tree n) not_removed
        | inl removed ↦ elim (eqb_tells count 1) [
          | inl one ↦ absurd (both_ways (s.levels t 3) (k.levels t 3 lt (omega arith) (omega arith)) (last removed one.1))
          | inr more ↦ closed_open count (s.tree n) more.0
        ]
      ]
    ]

    tree_stays : (a : Action) → MayDo l s t a → TreeStays s (after_action s t a)
    tree_stays (Create n d kind) may = absurd (no_writer 1 (omega arith) (omega arith) may.0.0 may.0.1)
    tree_stays (Remove n) may = absurd (no_writer 1 (omega arith) (omega arith) may.0.0 may.0.1)
    tree_stays (Grow n blocks) may = absurd (no_writer 1 (omega arith) (omega arith) may.0.0 may.0.1)
    tree_stays (MoveTo n d) may = absurd (no_writer 1 (omega arith) (omega arith) may.0.0 may.0.1)
    tree_stays (Dirty n) may = absurd (no_writer 2 (omega arith) (omega arith) may.0 may.1)
    tree_stays (Clean n) may =
        λ x. each_updated (λ y (v : Option NodeInfo). v ≡ s.tree y) s.tree n _ x
        (marked_same (s.tree n) (i.clean (omega arith) n may.0)) (λ ne. refl)
    tree_stays (Close n) may =
        λ x. each_updated (λ y (v : Option NodeInfo). v ≡ s.tree y) s.tree n _ x (closed_stays n _ may.0 may.2) (λ ne. refl)
    tree_stays (Open n) may = λ x. refl
    tree_stays (Grant gate) may = λ x. refl
    tree_stays (Return gate) may = λ x. refl
    tree_stays (MountRo m) may = λ x. refl
    tree_stays (MountRw m) may = λ x. refl
    tree_stays SbRo may = λ x. refl
    tree_stays SbRw may = λ x. refl
    tree_stays (Stage n) may = λ x. refl
    tree_stays (Hold h) may = λ x. refl
    tree_stays (Leave h) may = λ x. refl
    tree_stays (Pass j) may = λ x. refl
    tree_stays (Reopen j) may = λ x. refl

-- in the opening state nobody holds a freeze
none_holds : (h : Holder) → held_by nobody h ≡ true → ⊥
none_holds Kernel own = false≢true own
none_holds User own = false≢true own

-- after an allowed trace what is frozen is shut
pub frozen_shut : (l : Limits) (h : List Done) → IsLegal l h → FrozenIsShut l (end_of h)
frozen_shut l [] legal = record {
  shut = λ e. absurd (omega (arith, e));
  shutting = λ e. absurd (omega (arith, e));
  clean = λ e. absurd (omega (arith, e));
  none_removed = λ e. absurd (false≢true e);
  frozen = λ h own. absurd (none_holds h own);
}
frozen_shut l (a ∷ earlier) legal =
    step l (end_of earlier) a.0 legal.0.0 (closed l earlier legal.1) (frozen_shut l earlier legal.1) a.1 legal.0.1

-- so whatever action comes next, at stage 4 it leaves the tree
pub frozen_tree : (l : Limits) (h : List Done) → IsLegal l h → (t : ℕ) (a : Action) → IsAllowed l (end_of h) t a → (end_of h).stage ≡ 4 →
    TreeStays (end_of h) (after_action (end_of h) t a)
frozen_tree l h legal t a allowed four =
    tree_stays l (end_of h) t allowed.0 (closed l h legal) (frozen_shut l h legal) four a allowed.1

-- and whatever actions come, of whatever tasks, until this holder leaves
pub frozen_still : (l : Limits) (h : Holder) (more earlier : List Done) → IsLegal l (more ++ earlier) →
    held_by (end_of earlier).holders h ≡ true → NeverLeaves h more → IsFrozenStill h (end_of earlier) (end_of (more ++ earlier))
frozen_still l h [] earlier legal held never =
    record { frozen = ((frozen_shut l earlier legal).frozen h held, held); passed = refl; tree = λ n. refl }
frozen_still l h (a ∷ more) earlier legal held never =
    let before : IsFrozenStill h (end_of earlier) (end_of (more ++ earlier)) = frozen_still l h more earlier legal.1 held never.1 in
    let stays = stays_frozen l (end_of (more ++ earlier)) a.0 a.1 h legal.0 before.frozen never.0 in
    let same = frozen_tree l (more ++ earlier) legal.1 a.0 a.1 legal.0 before.frozen.0 in
    record { frozen = stays.0; passed = stays.1 ∙ before.passed; tree = λ n. same n ∙ before.tree n }
