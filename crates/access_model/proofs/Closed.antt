-- Nobody holds what is closed, action by action.
use Rattle.std.proofs.Common.{Bool, arith, false, inl, inr, refl, subst, suc, sym, true, zero, ℕ, ◌+◌, ◌-◌, ◌<◌, ◌∙◌, ◌≡◌, ◌≤◌}
use Rattle.std.{proofs.lemmas.Bool.{Decides.eqb_tells, both_ways, false≢true}, specs.Prelude.{List, Option, [], ◌∷◌}}
use Rattle.finite_sums.{proofs.Totals.{each_updated, update_off}, specs.Sums.update}
use Rattle.access_model.specs.{Actions.{MayDo, MayStage, after_action}, Histories.{Done, IsLegal, end_of}, Laws.{IsReadOnly, NobodyHoldsClosed}}
use Rattle.access_model.specs.{States.{Limits, State}, declared.actions.Action.{Action, TheVariants.{Clean, Close, Create, Dirty, Grant, Grow, Hold}}}
use Rattle.access_model.specs.declared.actions.Action.TheVariants.{Leave, MountRo, MountRw, MoveTo, Open, Pass, Remove, Reopen, Return, SbRo, SbRw}
use Rattle.access_model.specs.declared.actions.{Action.TheVariants.Stage, Gate.TheVariants.{Level, Mount}, NodeInfo.NodeInfo}

-- a mount whose flags are both clear is not read-only
is_open : (s : State) (m : ℕ) → s.mount_ro m ≡ false → s.sb_ro ≡ false → IsReadOnly s m → ⊥
is_open s m own all (inl e) = both_ways (s.mount_ro m) own e
is_open s m own all (inr e) = both_ways s.sb_ro all e

-- the stages that a freeze may go to are 0 to 4
to_stage : (l : Limits) (s : State) (n : ℕ) → MayStage l s n → n ≤ 4
to_stage l s zero may = omega arith
to_stage l s (suc zero) may = omega arith
to_stage l s (suc (suc zero)) may = omega arith
to_stage l s (suc (suc (suc zero))) may = omega arith
to_stage l s (suc (suc (suc (suc zero)))) may = omega arith
to_stage l s (suc (suc (suc (suc (suc n))))) may = absurd may

module _ (l : Limits) (s : State) (t : ℕ) (k : NobodyHoldsClosed l s) where
  -- where the task's new accesses are at no read-only mount, nobody's are
  mounts_row :
      (row : ℕ → ℕ) → ((n : ℕ) → t < l.tasks → n < l.mounts → IsReadOnly s n → row n ≡ 0) →
      (x n : ℕ) → x < l.tasks → n < l.mounts → IsReadOnly s n → update s.mounts t row x n ≡ 0
  mounts_row row h x n lx ln closed =
      each_updated (λ y f. y < l.tasks → f n ≡ 0) s.mounts t row x (λ lt. h n lt ln closed) (λ ne lt. k.mounts x n lt ln closed) lx

  -- where the task's new accesses are few, everybody's are
  counts_row : (row : ℕ → ℕ) → ((n : ℕ) → row n ≤ 1024) → (x n : ℕ) → update s.mounts t row x n ≤ 1024
  counts_row row h x n = each_updated (λ y f. f n ≤ 1024) s.mounts t row x (h n) (λ ne. k.counts x n)

  -- where the task's new levels are none that was passed, nobody's are
  levels_row :
      (row : ℕ → Bool) → ((i : ℕ) → t < l.tasks → 1 ≤ i → i ≤ s.passed → row i ≡ false) →
      (x i : ℕ) → x < l.tasks → 1 ≤ i → i ≤ s.passed → update s.levels t row x i ≡ false
  levels_row row h x i lx low high =
      each_updated (λ y f. y < l.tasks → f i ≡ false) s.levels t row x (λ lt. h i lt low high) (λ ne lt. k.levels x i lt low high) lx

  -- a mount that is read-only after another one was made so was read-only before
  as_before : (m n : ℕ) → (n ≡ m → ⊥) → IsReadOnly (record s { mount_ro = update s.mount_ro m true }) n → IsReadOnly s n
  as_before m n ne (inl e) = inl (sym (update_off s.mount_ro m true n ne) ∙ e)
  as_before m n ne (inr e) = inr e

  -- a mount that is read-only after a mount's flag was cleared was read-only before
  still : (m n : ℕ) → IsReadOnly (record s { mount_ro = update s.mount_ro m false }) n → IsReadOnly s n
  still m n (inl e) =
      inl (each_updated (λ y v. v ≡ true → s.mount_ro y ≡ true) s.mount_ro m false n (λ q. absurd (false≢true q)) (λ ne q. q) e)
  still m n (inr e) = inr e

  -- a mount that is read-only where the superblock is not has its own flag
  own_flag : (n : ℕ) → IsReadOnly (record s { sb_ro = false }) n → IsReadOnly s n
  own_flag n (inl e) = inl e
  own_flag n (inr e) = absurd (false≢true e)

  -- the tree has no part in it
  same_tree : (tree : ℕ → Option NodeInfo) → NobodyHoldsClosed l (record s { tree = tree })
  same_tree tree = record { mounts = k.mounts; levels = k.levels; counts = k.counts; passed = k.passed; stage = k.stage }

  -- nor have the open files
  same_files : (opens : ℕ → ℕ → Bool) (tree : ℕ → Option NodeInfo) → NobodyHoldsClosed l (record s { opens = opens; tree = tree })
  same_files opens tree = record { mounts = k.mounts; levels = k.levels; counts = k.counts; passed = k.passed; stage = k.stage }

  -- an action that the task may do leaves nobody holding what is closed
  pub step : (a : Action) → MayDo l s t a → NobodyHoldsClosed l (after_action s t a)
  step (Grant (Mount m)) may = record {
    mounts = mounts_row _ (λ n lt ln closed.
        each_updated (λ y v. y < l.mounts → IsReadOnly s y → v ≡ 0) (s.mounts t) m (s.mounts t m + 1) n
        (λ lm c. absurd (is_open s m may.1 may.2 c)) (λ ne. k.mounts t n lt) ln closed);
    levels = levels_row (s.levels t) (k.levels t);
    counts = counts_row _ (λ n.
        each_updated (λ y v. v ≤ 1024) (s.mounts t) m (s.mounts t m + 1) n (omega (arith, may.3)) (λ ne. k.counts t n));
    passed = k.passed;
    stage = k.stage;
  }
  step (Grant (Level i)) may = record {
    mounts = mounts_row (s.mounts t) (k.mounts t);
    levels = levels_row _ (λ j lt low high.
        each_updated (λ y v. y ≤ s.passed → v ≡ false) (s.levels t) i true j
        (λ h. absurd (omega (arith, may.1))) (λ ne h. k.levels t j lt low h) high);
    counts = counts_row (s.mounts t) (k.counts t);
    passed = k.passed;
    stage = k.stage;
  }
  step (Return (Mount m)) may = record {
    mounts = mounts_row _ (λ n lt ln closed.
        each_updated (λ y v. y < l.mounts → IsReadOnly s y → v ≡ 0) (s.mounts t) m (s.mounts t m - 1) n
        (λ lm c. omega (arith, k.mounts t m lt lm c)) (λ ne. k.mounts t n lt) ln closed);
    levels = levels_row (s.levels t) (k.levels t);
    counts = counts_row _ (λ n.
        each_updated (λ y v. v ≤ 1024) (s.mounts t) m (s.mounts t m - 1) n (omega (arith, k.counts t m)) (λ ne. k.counts t n));
    passed = k.passed;
    stage = k.stage;
  }
  step (Return (Level i)) may = record {
    mounts = mounts_row (s.mounts t) (k.mounts t);
    levels = levels_row _ (λ j lt low high. each_updated (λ y v. v ≡ false) (s.levels t) i false j refl (λ ne. k.levels t j lt low high));
    counts = counts_row (s.mounts t) (k.counts t);
    passed = k.passed;
    stage = k.stage;
  }
  step (MountRo m) may = record {
    mounts = λ x n lx ln closed. elim (eqb_tells n m) [
      | inl h ↦ subst (λ y. s.mounts x y ≡ 0) (sym h.1) (may.1 x lx)
      | inr h ↦ k.mounts x n lx ln (as_before m n h.1 closed)
    ];
    levels = k.levels;
    counts = k.counts;
    passed = k.passed;
    stage = k.stage;
  }
  step (MountRw m) may = record {
    mounts = λ x n lx ln closed. k.mounts x n lx ln (still m n closed);
    levels = k.levels;
    counts = k.counts;
    passed = k.passed;
    stage = k.stage;
  }
  step SbRo may = record {
    mounts = λ x n lx ln closed. may.1 n ln x lx;
    levels = k.levels;
    counts = k.counts;
    passed = k.passed;
    stage = k.stage;
  }
  step SbRw may = record {
    mounts = λ x n lx ln closed. k.mounts x n lx ln (own_flag n closed);
    levels = k.levels;
    counts = k.counts;
    passed = k.passed;
    stage = k.stage;
  }
  step (Stage n) may = record { mounts = k.mounts; levels = k.levels; counts = k.counts; passed = k.passed; stage = to_stage l s n may }
  step (Hold h) may = record { mounts = k.mounts; levels = k.levels; counts = k.counts; passed = k.passed; stage = k.stage }
  step (Leave h) may = record { mounts = k.mounts; levels = k.levels; counts = k.counts; passed = k.passed; stage = k.stage }
  step (Pass i) may = record {
    mounts = k.mounts;
    levels = λ x j lx low high. elim (eqb_tells j i) [
      | inl h ↦ subst (λ y. s.levels x y ≡ false) (sym h.1) (may.3 x lx)
      | inr h ↦ k.levels x j lx low (omega (arith, may.2))
    ];
    counts = k.counts;
    passed = may.0.1;
    stage = k.stage;
  }
  step (Reopen i) may = record {
    mounts = k.mounts;
    levels = λ x j lx low high. k.levels x j lx low (omega (arith, may.2));
    counts = k.counts;
    passed = omega (arith, may.0.1);
    stage = k.stage;
  }
  step (Create n d kind) may = same_tree _
  step (Remove n) may = same_tree _
  step (Grow n blocks) may = same_tree _
  step (MoveTo n d) may = same_tree _
  step (Dirty n) may = same_tree _
  step (Clean n) may = same_tree _
  step (Open n) may = same_files _ _
  step (Close n) may = same_files _ _

-- after an allowed trace nobody holds what is closed
pub closed : (l : Limits) (h : List Done) → IsLegal l h → NobodyHoldsClosed l (end_of h)
closed l [] legal = record {
  mounts = λ t m lt lm c. refl;
  levels = λ t i lt low high. refl;
  counts = λ t m. omega arith;
  passed = omega arith;
  stage = omega arith;
}
closed l (a ∷ earlier) legal = step l (end_of earlier) a.0 (closed l earlier legal.1) a.1 legal.0.1
