-- The effect of each step's action shows the stage after it, and a step without one leaves the stage that was shown.
use Rattle.std.proofs.Common.{None, Some, ap, arith, false, refl, subst, suc, sym, true, zero, ℕ, ◌*◌, ◌+◌, ◌<◌, ◌==◌, ◌||◌, ◌∙◌, ◌≡◌}
use Rattle.{access_model.specs.{States.State, declared.actions.Action.Action}, finite_sums.specs.Sums.update}
use Rattle.freeze_laws.proofs.stages.{Changes.passed_moves, EachEvent.after_kind, Facts.full_is, Positions.passed_own}
use Rattle.freeze_laws.proofs.stages.StageLaws.{advances, begins, clears_block, clears_remount, completes, fails, freeze_bound, freezes_at_once}
use Rattle.freeze_laws.proofs.stages.StageLaws.{gives_up, own_remount, relied_on, sets_block, sets_read_only, sets_remount, sets_writable, thaws}
use Rattle.freeze_laws.{proofs.stages.StageLaws.{thaws_at_once, turns_block, unblocks, ways}, specs.stages.Events.{Advances, Begins, CancelsRemount}}
use Rattle.freeze_laws.specs.stages.Events.{ClearsBlock, ClearsMark, ClearsMarkReadOnly, ClearsRemount, Completes, Fails, FreezesAtOnce, GivesUp}
use Rattle.freeze_laws.specs.stages.Events.{Happens, Holds, HoldsOne, LeavesOne, LetsGo, LoadsSb, LoadsStage, Locks, LocksAgain, MarksNode, Passes}
use Rattle.freeze_laws.specs.stages.Events.{Recalls, Releases, ReleasesOpen, SetsBlock, SetsReadOnly, SetsRemount, SetsWritable, StageEvent, Stages}
use Rattle.freeze_laws.specs.stages.Events.{Stays, Syncs, Thaws, ThawsAtOnce, Unblocks, WashesNode, action_of, cleaned, playing}
use Rattle.freeze_laws.specs.stages.Roles.{Aside, Before, Closing, Freezing, HasPassed, KnowsStage, Owning, Remounting, Reopening, StageRole}
use Rattle.freeze_laws.specs.stages.{Roles.{StagesHold, has_position, is_full, passed_by}, Shown.{ShowsStages, state_after}}

-- a state shows a moment
abbrev pub ShowsAt : ℕ → Stages → State → Type 0
ShowsAt tasks y s = ShowsStages tasks y.stage y.sb y.remount y.block y.at s

clearing_shows : (tasks : ℕ) (y : Stages) (s : State) (t node mark : ℕ) → ShowsAt tasks y s →
    ShowsAt tasks y (state_after s t (cleaned node mark))
clearing_shows tasks y s t node zero h = h
clearing_shows tasks y s t node (suc mark) h = record { stage_same = h.stage_same; passed_same = h.passed_same; sb_same = h.sb_same }

module _ (tasks nodes : ℕ) (x : Stages) (h : Holds tasks nodes x) (t : ℕ) (lt : t < tasks) (s : State) (shows : ShowsAt tasks x s) where
  -- what is shown after a step that changes the role: the stage, the superblock's flag, and so many levels passed
  shown_after : (old new : StageRole) (stage' sb' remount' : ℕ) (block' : ℕ → ℕ) (s' : State) → x.at t ≡ old →
      StagesHold tasks stage' sb' remount' block' (update x.at t new) →
      s'.stage ≡ stage' → s'.passed + (passed_by old + 3 * is_full x.stage x.sb) ≡ s.passed + (passed_by new + 3 * is_full stage' sb') →
      s'.sb_ro ≡ (remount' == 1 || sb' == 1) → ShowsStages tasks stage' sb' remount' block' (update x.at t new) s'
  shown_after old new stage' sb' remount' block' s' e good st p b = record {
    stage_same = st;
    passed_same = omega (
      arith,
      p,
      shows.passed_same,
      passed_moves tasks x.stage x.sb x.remount x.block x.at h.stages t lt old new stage' sb' remount' block' e good,
    );
    sb_same = b;
  }

  -- an owner's store of a stage shows it
  stage_shown : (k : ℕ) (old new : StageRole) → x.at t ≡ old → StagesHold tasks k x.sb x.remount x.block (update x.at t new) →
      passed_by old + 3 * is_full x.stage x.sb ≡ passed_by new + 3 * is_full k x.sb →
      ShowsAt tasks (playing (record x { stage = k }) t new) (state_after s t (Some (Action.Stage k)))
  stage_shown k old new e good p =
      shown_after old new k x.sb x.remount x.block (state_after s t (Some (Action.Stage k))) e good refl (omega (arith, p)) shows.sb_same

  -- a step after which as many levels are passed, and no more than a block is another, shows what was shown
  quiet_shown : (block' : ℕ → ℕ) (old new : StageRole) → x.at t ≡ old → StagesHold tasks x.stage x.sb x.remount block' (update x.at t new) →
      passed_by new ≡ passed_by old → ShowsAt tasks (playing (record x { block = block' }) t new) s
  quiet_shown block' old new e good p =
      shown_after old new x.stage x.sb x.remount block' s e good shows.stage_same (omega (arith, p)) shows.sb_same

  -- at stage 0 an owner without a position stores a flag
  flag_shown : (b m : ℕ) (old new : StageRole) (s' : State) → x.at t ≡ old → x.stage ≡ 0 →
      StagesHold tasks x.stage b m x.block (update x.at t new) →
      s'.stage ≡ s.stage → s'.passed ≡ s.passed → passed_by new ≡ passed_by old → s'.sb_ro ≡ (m == 1 || b == 1) →
      ShowsAt tasks (playing (record x { sb = b; remount = m }) t new) s'
  flag_shown b m old new s' e z good st pa p f =
      shown_after old new x.stage b m x.block s' e good (st ∙ shows.stage_same)
      (omega (arith, p, pa, z, ways tasks x h.stages t lt, full_is x.stage b h.stages.stages good.superblock)) f

  kept : (kind : StageEvent) (x' : Stages) → Happens tasks nodes t x x' kind → StagesHold tasks x'.stage x'.sb x'.remount x'.block x'.at
  kept kind x' p = (after_kind tasks nodes x h t lt kind x' p).stages

  -- a moment with the same words and roles, but for marks, is shown the same
  shown_at : {x' y : Stages} {s' : State} → x' ≡ y → ShowsAt tasks y s' → ShowsAt tasks x' s'
  shown_at {s' = s'} p w = subst (λ z. ShowsAt tasks z s') (sym p) w

  -- what the task relies on
  relies : (old : StageRole) → x.at t ≡ old → KnowsStage x.stage x.sb old
  relies old e = relied_on tasks x h.stages t lt old e

  own_levels : (old : StageRole) → x.at t ≡ old → has_position old ≡ 1 → s.passed ≡ passed_by old
  own_levels old e p =
      shows.passed_same ∙ passed_own tasks x.stage x.sb x.remount x.block x.at h.stages t lt (ap has_position e ∙ p) ∙ ap passed_by e

  turned : (kind : StageEvent) (x' : Stages) (old new : StageRole) → x.at t ≡ old → x' ≡ playing x t new →
      Happens tasks nodes t x (playing x t new) kind →
      passed_by new ≡ passed_by old → ShowsAt tasks x' s
  turned kind x' old new e p happens q =
      subst (λ z. ShowsAt tasks z s) (sym p) (quiet_shown x.block old new e (kept kind (playing x t new) happens) q)

  pub effect : (kind : StageEvent) (x' : Stages) → Happens tasks nodes t x x' kind → ShowsAt tasks x' (state_after s t (action_of kind x))
  effect Locks x' (e, o, p) = turned Locks x' Aside (Owning None None) e p (e, o, refl) refl
  effect (LocksAgain stage place) x' (e, o, p) =
      turned (LocksAgain stage place) x' (Freezing stage place false) (Freezing stage place true) e p (e, o, refl) refl
  effect (Releases stage sb) x' (e, p) = turned (Releases stage sb) x' (Owning stage sb) Aside e p (e, refl) refl
  effect (LetsGo stage place) x' (e, p) =
      turned (LetsGo stage place) x' (Freezing stage place true) (Freezing stage place false) e p (e, refl) refl
  effect ReleasesOpen x' (e, p) = turned ReleasesOpen x' (Reopening 0) Aside e p (e, refl) refl
  effect (LoadsStage stage sb) x' (e, p) =
      turned (LoadsStage stage sb) x' (Owning stage sb) (Owning (Some x.stage) sb) e p (e, refl) refl
  effect (LoadsSb stage sb) x' (e, p) = turned (LoadsSb stage sb) x' (Owning stage sb) (Owning stage (Some x.sb)) e p (e, refl) refl
  effect Begins x' (e, p) =
      let k : (x.stage ≡ 0) × (x.sb ≡ 0) = relies (Owning (Some 0) (Some 0)) e in
      shown_at p (stage_shown 1 (Owning (Some 0) (Some 0)) (Freezing 1 Before true) e (begins tasks x h.stages t lt e)
      (omega (arith, k, ways tasks x h.stages t lt)))
  effect (Advances clean) x' (e, p) =
      let k : x.stage ≡ 1 = relies (Freezing 1 (HasPassed clean) true) e in
      shown_at p (stage_shown 2 (Freezing 1 (HasPassed clean) true) (Freezing 2 Before true) e
      (advances tasks x h.stages t lt 1 clean (omega arith) (omega arith) e) (omega (arith, k, ways tasks x h.stages t lt)))
  effect (Syncs clean) x' (e, all, p) =
      let k : x.stage ≡ 2 = relies (Freezing 2 (HasPassed clean) true) e in
      shown_at p (stage_shown 3 (Freezing 2 (HasPassed clean) true) (Freezing 3 Before true) e
      (advances tasks x h.stages t lt 2 clean (omega arith) (omega arith) e) (omega (arith, k, ways tasks x h.stages t lt)))
  effect (Completes clean) x' (e, p) =
      let k : x.stage ≡ 3 = relies (Freezing 3 (HasPassed clean) true) e in
      let b : _ = freeze_bound tasks x h.stages t lt (Freezing 3 (HasPassed clean) true) e refl in
      shown_at p (stage_shown 4 (Freezing 3 (HasPassed clean) true) (Owning (Some 4) None) e (completes tasks x h.stages t lt clean e)
      (omega (arith, k, b, ways tasks x h.stages t lt, full_is 4 x.sb (omega arith) h.stages.superblock)))
  effect (Fails stage clean) x' (e, low, p) =
      let b : _ = freeze_bound tasks x h.stages t lt (Freezing stage (HasPassed clean) true) e refl in
      shown_at p (stage_shown 0 (Freezing stage (HasPassed clean) true) (Reopening stage) e (fails tasks x h.stages t lt stage clean e)
      (omega (arith, b, ways tasks x h.stages t lt)))
  effect (Unblocks level owner) x' (e, p) =
      shown_at p (quiet_shown (update x.block level 0) (Freezing level Closing owner) (Freezing level Before owner) e
      (unblocks tasks x h.stages t lt level owner e) refl)
  effect (GivesUp stage new) x' (e, a, k, c, p) =
      let b : _ = freeze_bound tasks x h.stages t lt (Freezing stage Before true) e refl in
      shown_at p (stage_shown 0 (Freezing stage Before true) new e (gives_up tasks x h.stages t lt stage new e a k)
      (omega (arith, b, a.passed_same, ways tasks x h.stages t lt)))
  effect FreezesAtOnce x' (e, p) =
      let k : (x.stage ≡ 0) × (x.sb ≡ 1) = relies (Owning (Some 0) (Some 1)) e in
      shown_at p (stage_shown 4 (Owning (Some 0) (Some 1)) (Owning (Some 4) None) e (freezes_at_once tasks x h.stages t lt e)
      (omega (arith, k, ways tasks x h.stages t lt, full_is 4 x.sb (omega arith) h.stages.superblock)))
  effect (HoldsOne holder sb new) x' (e, a, k, c, p) =
      let q : ShowsAt tasks x' s = turned (HoldsOne holder sb new) x' (Owning (Some 4) sb) new e p (e, a, k, c, refl) a.passed_same in
      record { stage_same = q.stage_same; passed_same = q.passed_same; sb_same = q.sb_same }
  effect (LeavesOne holder sb new) x' (e, a, k, c, p) =
      let q : ShowsAt tasks x' s = turned (LeavesOne holder sb new) x' (Owning (Some 4) sb) new e p (e, a, k, c, refl) a.passed_same in
      record { stage_same = q.stage_same; passed_same = q.passed_same; sb_same = q.sb_same }
  effect Thaws x' (e, p) =
      let k : (x.stage ≡ 4) × (x.sb ≡ 0) = relies (Owning (Some 4) (Some 0)) e in
      shown_at p (stage_shown 0 (Owning (Some 4) (Some 0)) (Reopening 3) e (thaws tasks x h.stages t lt e)
      (omega (arith, k, ways tasks x h.stages t lt)))
  effect ThawsAtOnce x' (e, p) =
      let k : (x.stage ≡ 4) × (x.sb ≡ 1) = relies (Owning (Some 4) (Some 1)) e in
      shown_at p (stage_shown 0 (Owning (Some 4) (Some 1)) (Owning None None) e (thaws_at_once tasks x h.stages t lt e)
      (omega (arith, k, ways tasks x h.stages t lt)))
  effect (SetsBlock level owner) x' (e, p) =
      shown_at p (quiet_shown (update x.block level 1) (Freezing level Before owner) (Freezing level Closing owner) e
      (sets_block tasks x h.stages t lt level owner e) refl)
  effect (Passes level clean owner) x' (e, c, p) =
      let k : x.stage ≡ level = relies (Freezing level Closing owner) e in
      shown_at p (shown_after (Freezing level Closing owner) (Freezing level (HasPassed clean) owner) x.stage x.sb x.remount x.block
      (state_after s t (Some (Action.Pass level))) e (turns_block tasks x h.stages t lt level clean owner e) shows.stage_same
      (omega (arith, own_levels (Freezing level Closing owner) e refl)) shows.sb_same)
  effect (ClearsBlock below) x' (e, p) =
      shown_at p (shown_after (Reopening (suc below)) (Reopening below) x.stage x.sb x.remount (update x.block (suc below) 0)
      (state_after s t (Some (Action.Reopen (suc below)))) e (clears_block tasks x h.stages t lt below e) shows.stage_same
      (omega (arith, own_levels (Reopening (suc below)) e refl)) shows.sb_same)
  effect (SetsRemount clean) x' (e, c, p) =
      shown_at p (flag_shown x.sb 1 (Owning (Some 0) (Some 0)) (Remounting 0 clean) (state_after s t (Some Action.SbRo)) e
      (relies (Owning (Some 0) (Some 0)) e).0 (sets_remount tasks x h.stages t lt clean e) refl refl refl refl)
  effect (SetsReadOnly clean) x' (e, all, p) =
      let r : x.remount ≡ 1 = own_remount tasks x h.stages t lt (Remounting 0 clean) e refl in
      shown_at p (flag_shown 1 x.remount (Remounting 0 clean) (Remounting 1 clean) s e (relies (Remounting 0 clean) e).0
      (sets_read_only tasks x h.stages t lt clean e) refl refl refl (shows.sb_same ∙ (rw r refl)))
  effect (ClearsRemount clean) x' (e, p) =
      let k : (x.stage ≡ 0) × (x.sb ≡ 1) = relies (Remounting 1 clean) e in
      let r : x.remount ≡ 1 = own_remount tasks x h.stages t lt (Remounting 1 clean) e refl in
      shown_at p (flag_shown x.sb 0 (Remounting 1 clean) (Owning None None) s e k.0 (clears_remount tasks x h.stages t lt 1 clean e) refl refl refl
      (shows.sb_same ∙ (rw (r, k.1) refl)))
  effect (CancelsRemount clean) x' (e, p) =
      let k : (x.stage ≡ 0) × (x.sb ≡ 0) = relies (Remounting 0 clean) e in
      shown_at p (flag_shown x.sb 0 (Remounting 0 clean) (Owning None None) (state_after s t (Some Action.SbRw)) e k.0
      (clears_remount tasks x h.stages t lt 0 clean e) refl refl refl (rw k.1 refl))
  effect (SetsWritable sb) x' (e, p) =
      let r : x.remount ≡ 0 = own_remount tasks x h.stages t lt (Owning (Some 0) sb) e refl in
      shown_at p (flag_shown 0 x.remount (Owning (Some 0) sb) (Owning None None) (state_after s t (Some Action.SbRw)) e
      (relies (Owning (Some 0) sb) e).0 (sets_writable tasks x h.stages t lt sb e) refl refl refl (rw r refl))
  effect (ClearsMark node) x' (e, p) =
      shown_at p (clearing_shows tasks (playing (record x { dirty = update x.dirty node 0 }) t (Freezing 2 (HasPassed (suc node)) true)) s t node
      (x.dirty node)
      (quiet_shown x.block (Freezing 2 (HasPassed node) true) (Freezing 2 (HasPassed (suc node)) true) e (kept (ClearsMark node) _ (e, refl)) refl))
  effect (ClearsMarkReadOnly sb node) x' (e, p) =
      shown_at p (clearing_shows tasks (playing (record x { dirty = update x.dirty node 0 }) t (Remounting sb (suc node))) s t node (x.dirty node)
      (quiet_shown x.block (Remounting sb node) (Remounting sb (suc node)) e (kept (ClearsMarkReadOnly sb node) _ (e, refl)) refl))
  effect (MarksNode node mark) x' (low, r, b, p) = shown_at p shows
  effect (WashesNode node) x' p = shown_at p shows
  effect (Recalls old new) x' (e, a, k, c, p) = turned (Recalls old new) x' old new e p (e, a, k, c, refl) a.passed_same
  effect Stays x' p = shown_at p shows
