-- Each step keeps what holds of the stage and of the marks.
use Rattle.std.proofs.Common.{None, Some, arith, false, refl, subst, suc, sym, true, ℕ, ◌+◌, ◌<◌, ◌≡◌, ◌≤◌}
use Rattle.finite_sums.specs.Sums.{total, update}
use Rattle.freeze_laws.proofs.stages.{MarkLaws.{cleared_anew, marked, washed}, StageLaws.{advances, begins, clears_block, clears_remount, completes}}
use Rattle.freeze_laws.proofs.stages.StageLaws.{fails, freezes_at_once, gives_up, releases_open, relied_on, sets_block, sets_read_only, sets_remount}
use Rattle.freeze_laws.proofs.stages.StageLaws.{sets_writable, thaws, thaws_at_once, turns, turns_block, unblocks}
use Rattle.freeze_laws.specs.stages.Events.{Advances, Begins, CancelsRemount, ClearsBlock, ClearsMark, ClearsMarkReadOnly, ClearsRemount, Completes}
use Rattle.freeze_laws.specs.stages.Events.{Fails, FreezesAtOnce, GivesUp, Happens, Holds, HoldsOne, LeavesOne, LetsGo, LoadsSb, LoadsStage, Locks}
use Rattle.freeze_laws.specs.stages.Events.{LocksAgain, MarksNode, Passes, Recalls, Releases, ReleasesOpen, SetsBlock, SetsReadOnly, SetsRemount}
use Rattle.freeze_laws.specs.stages.Events.{SetsWritable, StageEvent, Stages, Stays, Syncs, Thaws, ThawsAtOnce, Unblocks, WashesNode, playing}
use Rattle.freeze_laws.specs.stages.Roles.{Aside, Before, CleanBelow, Closing, Freezing, HasPassed, KnowsStage, MarksHold, Owning, Remounting}
use Rattle.freeze_laws.specs.stages.Roles.{Reopening, StageRole, StagesHold, clean_at, clean_by, closed_by, freezes, owns, remounts}

module _ (tasks nodes : ℕ) (x : Stages) (h : Holds tasks nodes x) (t : ℕ) (lt : t < tasks) where
  none : CleanBelow 0 x.dirty
  none m l = absurd (omega (arith, l))

  relies : (old : StageRole) → x.at t ≡ old → KnowsStage x.stage x.sb old
  relies = relied_on tasks x h.stages t lt

  pub own_clean : (old : StageRole) → x.at t ≡ old → CleanBelow (clean_by old) x.dirty
  own_clean old e = subst (λ r. CleanBelow (clean_by r) x.dirty) e (h.marks.cleared t lt)

  same_marks : (stage' sb' : ℕ) (new : StageRole) → (3 ≤ stage' → CleanBelow nodes x.dirty) → (sb' ≡ 1 → CleanBelow nodes x.dirty) →
      CleanBelow (clean_by new) x.dirty →
      MarksHold tasks nodes stage' sb' x.dirty (update x.at t new)
  same_marks stage' sb' new f r c = cleared_anew tasks nodes x.stage x.sb stage' sb' x.dirty x.at t new h.marks f r c

  quiet : (new : StageRole) → CleanBelow (clean_by new) x.dirty → MarksHold tasks nodes x.stage x.sb x.dirty (update x.at t new)
  quiet new c = same_marks x.stage x.sb new h.marks.frozen h.marks.read_only c

  -- both parts of what holds, of the moment that a step leads to
  held : {x' y : Stages} → x' ≡ y → StagesHold tasks y.stage y.sb y.remount y.block y.at → MarksHold tasks nodes y.stage y.sb y.dirty y.at →
      Holds tasks nodes x'
  held p stages marks = subst (Holds tasks nodes) (sym p) record { stages = stages; marks = marks }

  -- a step that changes no more than the role
  turned : {x' : Stages} (old new : StageRole) → x.at t ≡ old → x' ≡ playing x t new →
      total tasks (λ u. owns (x.at u)) + owns new ≤ owns old + 1 → freezes new ≡ freezes old →
      remounts new ≡ remounts old → closed_by new ≡ closed_by old → KnowsStage x.stage x.sb new → CleanBelow (clean_by new) x.dirty →
      Holds tasks nodes x'
  turned old new e p o f r c k clean = held p (turns tasks x h.stages t lt old new e o f r c k) (quiet new clean)

  -- a node is clean now, and the task has cleared those below the next one
  cleans : (node : ℕ) (old new : StageRole) → x.at t ≡ old → clean_by old ≡ node → clean_by new ≡ suc node →
      MarksHold tasks nodes x.stage x.sb (update x.dirty node 0) (update x.at t new)
  cleans node old new e c c' = grind arith

  closing_clean : (level : ℕ) → CleanBelow (clean_at level Closing) x.dirty
  closing_clean level = grind arith

  before_clean : (level : ℕ) → CleanBelow (clean_at level Before) x.dirty
  before_clean level = grind arith

  passed_clean : (level clean : ℕ) → CleanBelow clean x.dirty → CleanBelow (clean_at level (HasPassed clean)) x.dirty
  passed_clean level clean c = grind arith

  pub fewer : (k : ℕ) → nodes ≤ k → CleanBelow k x.dirty → CleanBelow nodes x.dirty
  fewer k le c m l = c m (omega (arith, l, le))

  pub after_kind : (kind : StageEvent) (x' : Stages) → Happens tasks nodes t x x' kind → Holds tasks nodes x'
  after_kind Locks x' (e, o, p) = turned Aside (Owning None None) e p (omega (arith, o)) refl refl refl (tt, tt) none
  after_kind (LocksAgain stage place) x' (e, o, p) =
      turned (Freezing stage place false) (Freezing stage place true) e p (omega (arith, o)) refl refl refl
      (relies (Freezing stage place false) e) (own_clean (Freezing stage place false) e)
  after_kind (Releases stage sb) x' (e, p) = turned (Owning stage sb) Aside e p (omega (arith, h.stages.alone)) refl refl refl tt none
  after_kind (LetsGo stage place) x' (e, p) =
      turned (Freezing stage place true) (Freezing stage place false) e p (omega (arith, h.stages.alone)) refl refl refl
      (relies (Freezing stage place true) e) (own_clean (Freezing stage place true) e)
  after_kind ReleasesOpen x' (e, p) = held p (releases_open tasks x h.stages t lt e) (quiet Aside none)
  after_kind (LoadsStage stage sb) x' (e, p) =
      turned (Owning stage sb) (Owning (Some x.stage) sb) e p (omega (arith, h.stages.alone)) refl refl refl
      (refl, (relies (Owning stage sb) e).1) none
  after_kind (LoadsSb stage sb) x' (e, p) =
      turned (Owning stage sb) (Owning stage (Some x.sb)) e p (omega (arith, h.stages.alone)) refl refl refl
      ((relies (Owning stage sb) e).0, refl) none
  after_kind Begins x' (e, p) =
      held p (begins tasks x h.stages t lt e) (same_marks 1 x.sb (Freezing 1 Before true) (λ s. absurd (omega (arith, s))) h.marks.read_only none)
  after_kind (Advances clean) x' (e, p) =
      held p (advances tasks x h.stages t lt 1 clean (omega arith) (omega arith) e)
      (same_marks 2 x.sb (Freezing 2 Before true) (λ s. absurd (omega (arith, s))) h.marks.read_only none)
  after_kind (Syncs clean) x' (e, all, p) =
      held p (advances tasks x h.stages t lt 2 clean (omega arith) (omega arith) e)
      (same_marks 3 x.sb (Freezing 3 Before true) (λ s. fewer clean all (own_clean (Freezing 2 (HasPassed clean) true) e)) h.marks.read_only none)
  after_kind (Completes clean) x' (e, p) =
      held p (completes tasks x h.stages t lt clean e)
      (same_marks 4 x.sb (Owning (Some 4) None) (λ s. h.marks.frozen (omega (arith, relies (Freezing 3 (HasPassed clean) true) e)))
      h.marks.read_only none)
  after_kind (Fails stage clean) x' (e, low, p) =
      held p (fails tasks x h.stages t lt stage clean e) (same_marks 0 x.sb (Reopening stage) (λ s. absurd (omega (arith, s))) h.marks.read_only none)
  after_kind (Unblocks level owner) x' (e, p) =
      held p (unblocks tasks x h.stages t lt level owner e) (quiet (Freezing level Before owner) (before_clean level))
  after_kind (GivesUp stage new) x' (e, a, k, c, p) =
      held p (gives_up tasks x h.stages t lt stage new e a k) (same_marks 0 x.sb new (λ s. absurd (omega (arith, s))) h.marks.read_only c)
  after_kind FreezesAtOnce x' (e, p) =
      held p (freezes_at_once tasks x h.stages t lt e)
      (same_marks 4 x.sb (Owning (Some 4) None) (λ s. h.marks.read_only (relies (Owning (Some 0) (Some 1)) e).1) h.marks.read_only none)
  after_kind (HoldsOne holder sb new) x' (e, a, k, c, p) =
      turned (Owning (Some 4) sb) new e p (omega (arith, h.stages.alone, a.owns_same)) a.freezes_same a.remounts_same a.closed_same k c
  after_kind (LeavesOne holder sb new) x' (e, a, k, c, p) =
      turned (Owning (Some 4) sb) new e p (omega (arith, h.stages.alone, a.owns_same)) a.freezes_same a.remounts_same a.closed_same k c
  after_kind Thaws x' (e, p) =
      held p (thaws tasks x h.stages t lt e) (same_marks 0 x.sb (Reopening 3) (λ s. absurd (omega (arith, s))) h.marks.read_only none)
  after_kind ThawsAtOnce x' (e, p) =
      held p (thaws_at_once tasks x h.stages t lt e) (same_marks 0 x.sb (Owning None None) (λ s. absurd (omega (arith, s))) h.marks.read_only none)
  after_kind (SetsBlock level owner) x' (e, p) =
      held p (sets_block tasks x h.stages t lt level owner e) (quiet (Freezing level Closing owner) (closing_clean level))
  after_kind (Passes level clean owner) x' (e, c, p) =
      held p (turns_block tasks x h.stages t lt level clean owner e) (quiet (Freezing level (HasPassed clean) owner) (passed_clean level clean c))
  after_kind (ClearsBlock below) x' (e, p) = held p (clears_block tasks x h.stages t lt below e) (quiet (Reopening below) none)
  after_kind (SetsRemount clean) x' (e, c, p) = held p (sets_remount tasks x h.stages t lt clean e) (quiet (Remounting 0 clean) c)
  after_kind (SetsReadOnly clean) x' (e, all, p) =
      held p (sets_read_only tasks x h.stages t lt clean e)
      (same_marks x.stage 1 (Remounting 1 clean) h.marks.frozen (λ r. fewer clean all (own_clean (Remounting 0 clean) e))
      (own_clean (Remounting 0 clean) e))
  after_kind (ClearsRemount clean) x' (e, p) = held p (clears_remount tasks x h.stages t lt 1 clean e) (quiet (Owning None None) none)
  after_kind (CancelsRemount clean) x' (e, p) = held p (clears_remount tasks x h.stages t lt 0 clean e) (quiet (Owning None None) none)
  after_kind (SetsWritable sb) x' (e, p) =
      held p (sets_writable tasks x h.stages t lt sb e) (same_marks x.stage 0 (Owning None None) h.marks.frozen (λ r. absurd (omega (arith, r))) none)
  after_kind (ClearsMark node) x' (e, p) =
      held p (turns tasks x h.stages t lt (Freezing 2 (HasPassed node) true) (Freezing 2 (HasPassed (suc node)) true) e
      (omega (arith, h.stages.alone)) refl refl refl (relies (Freezing 2 (HasPassed node) true) e))
      (cleans node (Freezing 2 (HasPassed node) true) (Freezing 2 (HasPassed (suc node)) true) e refl refl)
  after_kind (ClearsMarkReadOnly sb node) x' (e, p) =
      held p (turns tasks x h.stages t lt (Remounting sb node) (Remounting sb (suc node)) e (omega (arith, h.stages.alone)) refl refl refl
      (relies (Remounting sb node) e))
      (cleans node (Remounting sb node) (Remounting sb (suc node)) e refl refl)
  after_kind (MarksNode node mark) x' (low, r, s, p) = held p h.stages (marked tasks nodes x node mark h low r s)
  after_kind (WashesNode node) x' p = held p h.stages (washed tasks nodes x.stage x.sb x.dirty x.at node h.marks)
  after_kind (Recalls old new) x' (e, a, k, c, p) =
      turned old new e p (omega (arith, h.stages.alone, a.owns_same)) a.freezes_same a.remounts_same a.closed_same k c
  after_kind Stays x' p = subst (Holds tasks nodes) (sym p) h
