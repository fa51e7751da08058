-- The action of each step is allowed in each state that shows the moment before it.
use Rattle.std.proofs.Common.{Bool, ap, arith, false, inl, inr, refl, subst, suc, true, zero, ℕ, ◌-◌, ◌<◌, ◌∙◌, ◌≡◌, ◌≤◌}
use Rattle.std.{proofs.lemmas.{Bool.Decides.eqb_tells, Option.none-some}, specs.Prelude.{None, Option, Some, ◌==◌}}
use Rattle.access_model.specs.{Actions.MayDo, States.{IsClean, Limits, State}, declared.actions.Action.Action}
use Rattle.freeze_laws.proofs.stages.{EachEvent.{fewer, own_clean}, Positions.{owner_idle, passed_idle, passed_own}, StageLaws.freeze_bound}
use Rattle.freeze_laws.{proofs.stages.StageLaws.{own_remount, relied_on, ways}, specs.stages.Events.{Advances, Begins, CancelsRemount, ClearsBlock}}
use Rattle.freeze_laws.specs.stages.Events.{ClearsMark, ClearsMarkReadOnly, Completes, Fails, FreezesAtOnce, GivesUp, Happens, Holds, HoldsOne}
use Rattle.freeze_laws.specs.stages.Events.{LeavesOne, Passes, RepresentsStages, SetsRemount, SetsWritable, StageEvent, Stages, Syncs, Thaws}
use Rattle.freeze_laws.specs.stages.{Events.{ThawsAtOnce, action_of, cleaned}, Roles.{Before, CleanBelow, Closing, Freezing, HasPassed, KnowsStage}}
use Rattle.freeze_laws.specs.stages.{Roles.{Owning, Remounting, Reopening, StageRole, has_position, owns, passed_by, remounts}, Shown.AsksOthers}

-- the action that there is, or else this one
abbrev action_or : Action → Option Action → Action
action_or a None = a
action_or a (Some b) = b

some_inj : {a b : Action} → Some a ≡ Some b → a ≡ b
some_inj {a} {b} e = ap (action_or a) e

cleaned_is : (node mark : ℕ) (action : Action) (P : Action → Type 0) → cleaned node mark ≡ Some action → P (Action.Clean node) → P action
cleaned_is node zero action P e p = absurd (none-some action e)
cleaned_is node (suc mark) action P e p = subst P (some_inj e) p

module _ (l : Limits) (x : Stages) (h : Holds l.tasks l.nodes x) (t : ℕ) (lt : t < l.tasks) (s : State) (shows : RepresentsStages l x s) where
  pub all_clean : CleanBelow l.nodes x.dirty → IsClean l s
  all_clean c n ln = shows.marks n ln (c n ln)

  at_stage : (k : ℕ) → x.stage ≡ k → s.stage ≡ k
  at_stage k e = shows.stages.stage_same ∙ e

  own_levels : (old : StageRole) → x.at t ≡ old → has_position old ≡ 1 → s.passed ≡ passed_by old
  own_levels old e p =
      shows.stages.passed_same ∙
      passed_own l.tasks x.stage x.sb x.remount x.block x.at h.stages t lt (ap has_position e ∙ p) ∙ ap passed_by e

  no_level : (old : StageRole) → x.at t ≡ old → owns old ≡ 1 → has_position old ≡ 0 → x.stage ≡ 0 → s.passed ≡ 0
  no_level old e o n z =
      let w : _ = ways l.tasks x h.stages t lt in
      let idle : _ =
      owner_idle l.tasks x.stage x.sb x.remount x.block x.at h.stages t lt (ap owns e ∙ o) (ap has_position e ∙ n) (omega (arith, z, w)) in
      omega (arith, shows.stages.passed_same, passed_idle l.tasks x.stage x.sb x.remount x.block x.at h.stages idle, z, w)

  -- whether the superblock is shown read-only, to an owner that hasn't set `remount`
  flag_of : (old : StageRole) (b : Bool) → x.at t ≡ old → owns old ≡ 1 → remounts old ≡ 0 → (x.sb == 1) ≡ b → s.sb_ro ≡ b
  flag_of old b e o r f = shows.stages.sb_same ∙ (rw (own_remount l.tasks x h.stages t lt old e o ∙ r) f)

  -- what the task relies on
  relies : (old : StageRole) → x.at t ≡ old → KnowsStage x.stage x.sb old
  relies old e = relied_on l.tasks x h.stages t lt old e

  -- what is allowed under what it asks is allowed
  may_be : (act action : Action) → Some act ≡ Some action → AsksOthers l s action → (AsksOthers l s act → MayDo l s t act) →
      MayDo l s t action
  may_be act action a asks f = subst (λ b. AsksOthers l s b → MayDo l s t b) (some_inj a) f asks

  -- the action of each step is allowed
  pub may : (kind : StageEvent) (x' : Stages) → Happens l.tasks l.nodes t x x' kind → (action : Action) → action_of kind x ≡ Some action →
      AsksOthers l s action → MayDo l s t action
  may Begins x' (e, p) action a asks =
      let k : (x.stage ≡ 0) × (x.sb ≡ 0) = relies (Owning (Some 0) (Some 0)) e in
      subst (MayDo l s t) (some_inj a) (
        at_stage 0 k.0,
        no_level (Owning (Some 0) (Some 0)) e refl refl k.0,
        flag_of (Owning (Some 0) (Some 0)) false e refl refl
            (rw k.1 refl),
      )
  may (Advances clean) x' (e, p) action a asks =
      subst (MayDo l s t) (some_inj a)
      (at_stage 1 (relies (Freezing 1 (HasPassed clean) true) e), own_levels (Freezing 1 (HasPassed clean) true) e refl)
  may (Syncs clean) x' (e, all, p) action a asks =
      subst (MayDo l s t) (some_inj a) (
        at_stage 2 (relies (Freezing 2 (HasPassed clean) true) e),
        own_levels (Freezing 2 (HasPassed clean) true) e refl,
        all_clean (fewer l.tasks l.nodes x h t lt clean all (own_clean l.tasks l.nodes x h t lt (Freezing 2 (HasPassed clean) true) e)),
      )
  may (Completes clean) x' (e, p) action a asks =
      let k : x.stage ≡ 3 = relies (Freezing 3 (HasPassed clean) true) e in
      subst (MayDo l s t) (some_inj a)
      (all_clean (h.marks.frozen (omega (arith, k))), inl (at_stage 3 k, own_levels (Freezing 3 (HasPassed clean) true) e refl))
  may (Fails stage clean) x' (e, low, p) action a asks =
      let k : x.stage ≡ stage = relies (Freezing stage (HasPassed clean) true) e in
      let b : _ = freeze_bound l.tasks x h.stages t lt (Freezing stage (HasPassed clean) true) e refl in
      let n : s.passed ≡ stage = own_levels (Freezing stage (HasPassed clean) true) e refl in
      subst (MayDo l s t) (some_inj a) (elim (eqb_tells stage 2) [
        | inl q ↦ inl (omega (arith, at_stage stage k, q.1), omega (arith, n, q.1))
        | inr q ↦ inr (inl (omega (arith, at_stage stage k, q.1, k, b, low), omega (arith, n, q.1, k, b, low)))
      ])
  may (GivesUp stage new) x' (e, alike, known, c, p) action a asks =
      let k : x.stage ≡ stage = relies (Freezing stage Before true) e in
      let b : _ = freeze_bound l.tasks x h.stages t lt (Freezing stage Before true) e refl in
      let n : s.passed ≡ stage - 1 = own_levels (Freezing stage Before true) e refl in
      let at : s.stage ≡ stage = at_stage stage k in
      subst (MayDo l s t) (some_inj a) (inr (inr (inr ((omega (arith, at, k, b), omega (arith, at, k, b)), omega (arith, at, n, k, b)))))
  may FreezesAtOnce x' (e, p) action a asks =
      let k : (x.stage ≡ 0) × (x.sb ≡ 1) = relies (Owning (Some 0) (Some 1)) e in
      subst (MayDo l s t) (some_inj a) (
        all_clean (h.marks.read_only k.1),
        inr (
          at_stage 0 k.0,
          no_level (Owning (Some 0) (Some 1)) e refl refl k.0,
          flag_of (Owning (Some 0) (Some 1)) true e refl refl
              (rw k.1 refl),
        ),
      )
  may (HoldsOne holder sb new) x' (e, alike, k, c, p) action a asks =
      may_be (Action.Hold holder) action a asks (λ ask. (at_stage 4 (relies (Owning (Some 4) sb) e).0, ask))
  may (LeavesOne holder sb new) x' (e, alike, k, c, p) action a asks =
      may_be (Action.Leave holder) action a asks (λ ask. (at_stage 4 (relies (Owning (Some 4) sb) e).0, ask))
  may Thaws x' (e, p) action a asks =
      let four : s.stage ≡ 4 = at_stage 4 (relies (Owning (Some 4) (Some 0)) e).0 in
      may_be (Action.Stage 0) action a asks (λ ask. inr (inr (inl (four, ask four))))
  may ThawsAtOnce x' (e, p) action a asks =
      let four : s.stage ≡ 4 = at_stage 4 (relies (Owning (Some 4) (Some 1)) e).0 in
      may_be (Action.Stage 0) action a asks (λ ask. inr (inr (inl (four, ask four))))
  may (Passes level clean owner) x' (e, c, p) action a asks =
      let k : x.stage ≡ level = relies (Freezing level Closing owner) e in
      let b : _ = freeze_bound l.tasks x h.stages t lt (Freezing level Closing owner) e refl in
      let n : s.passed ≡ level - 1 = own_levels (Freezing level Closing owner) e refl in
      may_be (Action.Pass level) action a asks (λ ask. (omega (arith, k, b), at_stage level k, omega (arith, n, k, b), ask))
  may (ClearsBlock below) x' (e, p) action a asks =
      let k : (x.stage ≡ 0) × (suc below ≤ 3) = relies (Reopening (suc below)) e in
      subst (MayDo l s t) (some_inj a) (omega (arith, k.1), at_stage 0 k.0, own_levels (Reopening (suc below)) e refl)
  may (SetsRemount clean) x' (e, c, p) action a asks =
      may_be Action.SbRo action a asks (λ ask. (at_stage 0 (relies (Owning (Some 0) (Some 0)) e).0, ask.0, ask.1))
  may (CancelsRemount clean) x' (e, p) action a asks = subst (MayDo l s t) (some_inj a) (at_stage 0 (relies (Remounting 0 clean) e).0)
  may (SetsWritable sb) x' (e, p) action a asks = subst (MayDo l s t) (some_inj a) (at_stage 0 (relies (Owning (Some 0) sb) e).0)
  may (ClearsMark node) x' (e, p) action a asks =
      cleaned_is node (x.dirty node) action (λ act. AsksOthers l s act → MayDo l s t act) a
      (λ ask. (ask.0, ask.1, inr (inl (own_levels (Freezing 2 (HasPassed node) true) e refl)))) asks
  may (ClearsMarkReadOnly sb node) x' (e, p) action a asks =
      let r : x.remount ≡ 1 = own_remount l.tasks x h.stages t lt (Remounting sb node) e refl in
      cleaned_is node (x.dirty node) action (λ act. AsksOthers l s act → MayDo l s t act) a
      (λ ask. (ask.0, ask.1, inr (inr (shows.stages.sb_same ∙ (rw r refl))))) asks
  may kind x' p action a asks = absurd (none-some action a)
