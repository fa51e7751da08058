-- The law of each step of a thaw.
use Rattle.gate_schedules.proofs.Prelude.{Action, Apart, CleanBelow, Config, Err, Event, Fits, Fitting, GateError, Holding, Holdings, Holds}
use Rattle.gate_schedules.proofs.Prelude.{HookAnswer, IsGood, IsWithin, KnowsStage, List, Next, None, Ok, Option, OwnerHolds, Owning, Phase}
use Rattle.gate_schedules.proofs.Prelude.{PhaseFits, Reply, Result, SameDuties, Some, StageEvent, StageRole, Stages, StepKeeps, Thaw, ThawStep, Touch}
use Rattle.gate_schedules.proofs.Prelude.{Traced, Transition, TransitionNext, UpWrite, UpWriteStep, View, ViewFits, WordName, Words, World}
use Rattle.gate_schedules.proofs.Prelude.{actions_after, added_by, ap, arith, common_steps, dirty_in, eqb_tells, exit_made, false, found_by, held_by}
use Rattle.gate_schedules.proofs.Prelude.{held_of, holder_role_of, holders_in, holdings_of, inl, inr, is_frozen_whole, left, level_added_by}
use Rattle.gate_schedules.proofs.Prelude.{level_taken_by, map_next, marks_of, model_limits, on_exit, owns, phase_after, playing, put, read, refl}
use Rattle.gate_schedules.proofs.Prelude.{shown, stage_role_of, stage_roles, state_after, subst, suc, sym, taken_by, total, transition_after}
use Rattle.gate_schedules.proofs.Prelude.{tree_role_of, true, up_write_after, up_write_next, update, view_with, zero, ℕ, ◌+◌, ◌-◌, ◌<◌, ◌∙◌, ◌∷◌, ◌≡◌}
use Rattle.gate_schedules.proofs.Prelude.{◌≤◌}
use Rattle.access_model.specs.{Holders.{is_unheld, nobody, with_holder}, declared.actions.Holders.Holders}
use Rattle.freeze_laws.specs.stages.Events.{ClearsBlock as ClearsBlockOf, LeavesOne, Locks as LocksStage, Recalls, Releases as ReleasesStage, Stays}
use Rattle.freeze_laws.specs.stages.Events.{Thaws as StoresThaw, ThawsAtOnce, action_of as stage_action_of}
use Rattle.freeze_laws.specs.stages.Roles.{Reopening, clean_by, is_full, owns as stage_owns}
use Rattle.freeze_levels.{proofs.holder_laws.{HolderLaws.roles_tell, Words.{holds_alone, holds_own, leaves_none, unpack_pack}}, specs.Holders.word_of}
use Rattle.freeze_levels.specs.{Levels.reopening, Thaws.{after_opening, at_thaw}, holder_laws.Events.{Finds, Leaves as LeavesOthers}}
use Rattle.freeze_levels.specs.holder_laws.Events.{LeavesLast as LeavesNobody, LetsGo as LetsHoldersGo, Thaws as ThawsHolders}
use Rattle.freeze_levels.specs.holder_laws.Roles.{Empties, Found, between, minds}
use Rattle.gate_world.specs.{Fits.ThawFits, Levels.{level_added_after, level_taken_after}, Roles.{thaw_holder_role, thaw_owns, thaw_position}}
use Rattle.gate_world.specs.{Roles.thaw_stage_role, Rules.holder_roles, Views.{added_after, taken_after}}
use Rattle.gated_tree.specs.Roles.{Out as OffTree}
use Rattle.gate_schedules.proofs.frames.{ByPhase.thaw_owner, Frames.{added_load, taken_load}, Holders.{holders_after, holders_at, holders_stay}}
use Rattle.gate_schedules.proofs.frames.{Holders.nobody_minds, Stages.{IsStageEvent, nobody_owns, owners_alike, stages_in}}
use Rattle.gate_schedules.proofs.levels.{FreezeCompletes.thaws_all, LevelPositions.{HasPosition, LevelsHold, left_world, position_after_opening}}
use Rattle.gate_schedules.proofs.{levels.UpWrite.up_write_levels, mounts.Parts.{level_added_load, level_taken_load}, operations.thaw.Fits.finds_cases}
use Rattle.gate_schedules.proofs.writers.{Owner.{lock_given, lock_taken, owner_stays}, Parts.{AsksWhere, IsWriter, LeavesRest, WriterKeeps}}
use Rattle.gate_schedules.proofs.writers.{Parts.{WriterLaw, idle_writes, thaw_comes, thaw_work, thaws_write, whole_writer}, Stages.SameStageWords}
use Rattle.gate_schedules.proofs.writers.Stages.{none_leaves, opened_tree, stays_there, stored_levels, writer_beside, writer_holds, writer_stores}
use Rattle.gate_schedules.proofs.writers.Words.{reopen_leaves, tree_beside, up_write_adds, up_write_counts_none, up_write_words, writer_at_level}

none_below : (dirty : ℕ → ℕ) → CleanBelow 0 dirty
none_below dirty n below = absurd (omega (arith, below))

pub thaw_stands : (x : Thaw) → HasPosition (Some (Phase.Thaws x)) (thaw_position x.step)
thaw_stands x = record { counts = λ i one three. refl; syncs = λ i one three. refl; outside = refl }

pub idle_stands : HasPosition None None
idle_stands = record { counts = λ i one three. refl; syncs = λ i one three. refl; outside = refl }

-- What comes after a step of a level's reopening.
module _ (x : Thaw) where
  -- it stands so with the levels
  pub opening_stands : (level : ℕ) (n : Next UpWrite) →
      HasPosition (phase_after (map_next Phase.Thaws (after_opening x level n))) (position_after_opening level n)
  opening_stands level n = grind arith

  opening_owns : (level : ℕ) (n : Next UpWrite) → owns (phase_after (map_next Phase.Thaws (after_opening x level n))) ≡ 1
  opening_owns level n = grind arith

role_owns : {stage sb : Option ℕ} (s : ThawStep) → thaw_stage_role s ≡ Owning stage sb → thaw_owns s ≡ 1
role_owns s role = sym (thaw_owner s) ∙ ap stage_owns role

-- a level's reopening has nothing to do with the holders, nor what comes after it
opening_apart : (x : Thaw) (level : ℕ) (n : Next UpWrite) → holder_role_of (phase_after (map_next Phase.Thaws (after_opening x level n))) ≡ Apart
opening_apart x level n = grind arith

-- a thaw does nothing at the tree, whatever comes after a step of it
tree_comes : (trace : List Traced) (n : Next Thaw) → tree_role_of trace (phase_after (map_next Phase.Thaws n)) ≡ OffTree
tree_comes trace n = grind arith

-- a role that is like this one, relies on what is so, and has cleared nodes that are clean
abbrev NextRoleHolds : StageRole → ℕ → ℕ → (ℕ → ℕ) → StageRole → Type 0
NextRoleHolds old stage sb dirty r = SameDuties old r × KnowsStage stage sb r × CleanBelow (clean_by r) dirty

-- so it does after a step of the exchange of a level that is open
exit_on : (x : Thaw) (level : ℕ) (s : UpWriteStep) (n : TransitionNext) (stage sb : ℕ) (dirty : ℕ → ℕ) → level ≤ 3 → stage ≡ 0 →
    NextRoleHolds (Reopening (level - 1)) stage sb dirty
    (stage_role_of (phase_after (map_next Phase.Thaws (after_opening x level (exit_made (record { level = level; step = s }) n)))))
exit_on x level s n stage sb dirty l3 z = grind arith

module _ (c : Config) (lim : IsWithin c) (w : World) (good : IsGood c w) (t : ℕ) (lt : t < c.tasks) (x : Thaw) where
  -- the task is at this step of the thaw
  abbrev pub IsHere : ThawStep → Type 0
  IsHere s = (w.views t).phase ≡ Some (Phase.Thaws (at_thaw x s))

  -- the law of its step
  abbrev Keeps : HookAnswer → ThawStep → Type 0
  Keeps hook s = WriterKeeps c w t hook (Phase.Thaws (at_thaw x s))

  -- this step fits the task's accesses
  abbrev pub FitsHere : ThawStep → Type 0
  FitsHere s = PhaseFits c t (held_of (w.views t)) (Phase.Thaws (at_thaw x s))

  -- as the one does at which it is
  pub here_fits : (s : ThawStep) → IsHere s → FitsHere s
  here_fits s e = subst (Fits c t (held_of (w.views t))) e (good Fitting t lt)

  -- and another step that fits
  goes_to : (s s' : ThawStep) → IsHere s → ThawFits x.holder s' → FitsHere s'
  goes_to s s' e fit = let f : FitsHere s = here_fits s e in (f.0, f.1, fit)

  -- what it relies on is so
  pub here_knows : (s : ThawStep) → IsHere s → KnowsStage w.words.stage w.words.sb (thaw_stage_role s)
  here_knows s e = subst (λ p. KnowsStage w.words.stage w.words.sb (stage_role_of p)) e ((good Stages).knows t lt)

  pub here_stands : (s : ThawStep) → IsHere s → HasPosition (w.views t).phase (thaw_position s)
  here_stands s e = subst (λ p. HasPosition p (thaw_position s)) (sym e) (thaw_stands (at_thaw x s))

  here_off_tree : (s : ThawStep) → IsHere s → tree_role_of (w.views t).trace (w.views t).phase ≡ OffTree
  here_off_tree s e = ap (tree_role_of (w.views t).trace) e

  here_writes : (s : ThawStep) → IsHere s → IsWriter (w.views t).phase
  here_writes s e = subst IsWriter (sym e) (thaws_write (at_thaw x s))

  -- the view after a step of this word and touch, after which this program point comes
  abbrev view_at : WordName × Touch → ℕ → HookAnswer → ThawStep → Option Action → View
  view_at event value hook s action = view_with (w.views t) event value hook (Next.Go (Phase.Thaws (at_thaw x s)), action)

  -- a load by the owner, which goes on relying on this
  load_law : (hook : HookAnswer) (name : WordName) (value : ℕ) (s s' : ThawStep) (e : IsHere s) → thaw_position s ≡ None →
      thaw_position s' ≡ None → (stage sb stage' sb' : Option ℕ) → thaw_stage_role s ≡ Owning stage sb →
      thaw_stage_role s' ≡ Owning stage' sb' → ThawFits x.holder s' → KnowsStage w.words.stage w.words.sb (Owning stage' sb') →
      Holds c (left_world w t w.words (view_at (name, Touch.Load) value hook s' None)) Holding →
      WriterLaw c w t w.words (view_at (name, Touch.Load) value hook s' None) None
  load_law hook name value s s' e none none' stage sb stage' sb' role role' fit knows holding =
      let v : View = view_at (name, Touch.Load) value hook s' None in
      let now : IsWriter v.phase = thaws_write (at_thaw x s') in
      writer_beside c w good t lt v (here_writes s e) now
      (record {
        held_same = refl;
        added_same = added_load name (added_by (w.views t).events);
        taken_same = taken_load name (taken_by (w.views t).events);
      })
      (record {
        held_same = refl;
        added_same = level_added_load name Touch.Load (level_added_by (w.views t).events) refl;
        taken_same = level_taken_load name Touch.Load (level_taken_by (w.views t).events) refl;
      })
      (goes_to s s' e fit) w.words.umount None (Recalls (Owning stage sb) (Owning stage' sb'))
      (owner_stays c w good t lt v (here_writes s e) now w.words refl refl (role_owns s' role' ∙ sym (ap owns e ∙ role_owns s role)))
      (subst (HasPosition (w.views t).phase) none (here_stands s e))
      (subst (HasPosition (Some (Phase.Thaws (at_thaw x s')))) none' (thaw_stands (at_thaw x s'))) (sym (here_off_tree s e)) (
        ap stage_role_of e ∙ role,
        owners_alike stage sb stage' sb',
        knows,
        none_below (marks_of w.words),
        ap (playing (stages_in w) t) role',
      )
      refl holding

  still : (s s' : ThawStep) → IsHere s → (name : WordName) (value : ℕ) (hook : HookAnswer) →
      thaw_holder_role x.holder s' ≡ holder_role_of (w.views t).phase →
      Holds c (left_world w t w.words (view_at (name, Touch.Load) value hook s' None)) Holding
  still s s' e name value hook same = holders_stay c w good t lt w.words (view_at (name, Touch.Load) value hook s' None) refl refl same

  emptied : (s : ThawStep) → IsHere s → thaw_holder_role x.holder s ≡ Empties → w.words.holders ≡ 0
  emptied s e role = ((roles_tell c.tasks t (holders_at w) (good Holding) lt).0 (ap between (ap holder_role_of e ∙ role))).0

  found : (s : ThawStep) → IsHere s → (held : Holders) → thaw_holder_role x.holder s ≡ Found held → holders_in w.words.holders ≡ held
  found s e held role = ((roles_tell c.tasks t (holders_at w) (good Holding) lt).1 held (ap holder_role_of e ∙ role)).0

  -- the owner's store of stage 0, by what it leaves of the levels and by its kind
  store_law : (hook : HookAnswer) (s s' : ThawStep) (e : IsHere s) (kind : StageEvent) → thaw_owns s ≡ 1 →
      thaw_owns s' ≡ 1 → ThawFits x.holder s' → thaw_holder_role x.holder s ≡ Empties →
      thaw_holder_role x.holder s' ≡ Apart →
      let v : View = view_at (WordName.Stage, Touch.Store 0) w.words.stage hook s' (Some (Action.Stage 0)) in
      let ws : Words = record w.words { stage = 0 } in
      LevelsHold c (left_world w t ws v) → IsStageEvent c w good t lt ws v kind →
      stage_action_of kind (stages_in w) ≡ Some (Action.Stage 0) → WriterLaw c w t ws v (Some (Action.Stage 0))
  store_law hook s s' e kind own own' fit empties apart levels happens adds =
      let v : View = view_at (WordName.Stage, Touch.Store 0) w.words.stage hook s' (Some (Action.Stage 0)) in
      let now : IsWriter v.phase = thaws_write (at_thaw x s') in
      writer_stores c w good t lt v (here_writes s e) now (assumption) (record { held_same = refl; added_same = refl; taken_same = refl })
      (goes_to s s' e fit) 0 kind
      (owner_stays c w good t lt v (here_writes s e) now w.words refl refl (own' ∙ sym (ap owns e ∙ own)))
      levels (opened_tree c w good t lt lim v (sym (here_off_tree s e))) happens adds
      (λ four. ap (λ k. is_unheld (holders_in k)) (emptied s e empties))
      (holders_after c w good t lt (record w.words { stage = 0 }) v ThawsHolders (
        ap holder_role_of e ∙ empties,
        λ j. record {
          stage = 0;
          holders = w.words.holders;
          at = update (holder_roles w) t (apart j);
        },
      ))

  -- gives `umount` back; meets: the next owner takes it
  gives_back : (hook : HookAnswer) (s : ThawStep) (e : IsHere s) → thaw_position s ≡ None → (answer : Result Reply GateError)
      (stage sb : Option ℕ) → thaw_stage_role s ≡ Owning stage sb →
      let v : View = view_with (w.views t) (WordName.Umount, Touch.Store 0) w.words.umount hook (Next.Done answer, None) in
      Holds c (left_world w t (record w.words { umount = 0 }) v) Holding → WriterLaw c w t (record w.words { umount = 0 }) v None
  gives_back hook s e none answer stage sb role holding =
      let v : View = view_with (w.views t) (WordName.Umount, Touch.Store 0) w.words.umount hook (Next.Done answer, None) in
      writer_beside c w good t lt v (here_writes s e) idle_writes (assumption)
      (record { held_same = refl; added_same = refl; taken_same = refl })
      tt 0 None (ReleasesStage stage sb)
      (lock_given c w good t lt v (here_writes s e) idle_writes (ap owns e ∙ role_owns s role) refl)
      (subst (HasPosition (w.views t).phase) none (here_stands s e)) idle_stands (sym (here_off_tree s e)) (ap stage_role_of e ∙ role, refl)
      refl holding

  -- the view after the lock was tried, which left this in `umount`
  abbrev tried : HookAnswer → ℕ → ThawStep → View
  tried hook n s =
      let event : Event = record { word = WordName.Umount; touch = Touch.Cas 0 (x.task + 1); found = w.words.umount; left = n } in
      record (w.views t) {
        phase = Some (Phase.Thaws (at_thaw x s));
        events = event ∷ (w.views t).events;
        trace = record { event = event; hook = hook } ∷ (w.views t).trace;
      }

  -- a try of the lock, which leaves this in `umount`, and after which this step comes
  try_law : (hook : HookAnswer) (e : IsHere ThawStep.Locks) (n : ℕ) (s : ThawStep) → thaw_position s ≡ None → ThawFits x.holder s →
      thaw_holder_role x.holder s ≡ Apart → (kind : StageEvent) →
      OwnerHolds c.tasks n w.words.remount (λ y. (update w.views t (tried hook n s) y).phase) →
      IsStageEvent c w good t lt (record w.words { umount = n }) (tried hook n s) kind → stage_action_of kind (stages_in w) ≡ None →
      WriterLaw c w t (record w.words { umount = n }) (tried hook n s) None
  try_law hook e n s none fit apart kind owner happens adds =
      writer_beside c w good t lt (tried hook n s) (here_writes ThawStep.Locks e) (thaws_write (at_thaw x s)) (assumption)
      (record { held_same = refl; added_same = refl; taken_same = refl })
      (goes_to ThawStep.Locks s e fit) n None kind owner (here_stands ThawStep.Locks e)
      (subst (HasPosition (Some (Phase.Thaws (at_thaw x s)))) none (thaw_stands (at_thaw x s))) (sym (here_off_tree ThawStep.Locks e)) happens adds
      (holders_stay c w good t lt (record w.words { umount = n }) (tried hook n s) refl refl (apart ∙ sym (ap holder_role_of e)))

  locks : (hook : HookAnswer) → IsHere ThawStep.Locks → Keeps hook ThawStep.Locks
  locks hook e =
      elim (eqb_tells w.words.umount 0) [
        | inl h ↦ rw h.0 (
            let n : ℕ = x.task + 1 in
            let mine : n ≡ suc t = omega (arith, (here_fits ThawStep.Locks e).0) in
            try_law hook e n ThawStep.LoadsStage refl tt refl LocksStage
            (lock_taken c w good t lt (tried hook n ThawStep.LoadsStage) (here_writes ThawStep.Locks e)
            (thaws_write (at_thaw x ThawStep.LoadsStage)) n h.1 mine refl)
            (ap stage_role_of e, nobody_owns c w good h.1, refl) refl)
        | inr h ↦ rw h.0 (
            let n : ℕ = w.words.umount in
            try_law hook e n ThawStep.Locks refl tt refl Stays
            (owner_stays c w good t lt (tried hook n ThawStep.Locks) (here_writes ThawStep.Locks e) (thaws_write (at_thaw x ThawStep.Locks)) w.words refl refl
            (sym (ap owns e)))
            (stays_there c w good t lt w.words (tried hook n ThawStep.Locks) (assumption) (sym (ap stage_role_of e))) refl)
      ]

  loads_stage : (hook : HookAnswer) → IsHere ThawStep.LoadsStage → Keeps hook ThawStep.LoadsStage
  loads_stage hook e =
      elim (eqb_tells w.words.stage 4) [
        | inl h ↦ rw h.0 (load_law hook WordName.Stage w.words.stage ThawStep.LoadsStage ThawStep.LoadsHolders e refl refl None None (Some 4) None refl refl tt
            (h.1, tt) (still ThawStep.LoadsStage ThawStep.LoadsHolders e WordName.Stage w.words.stage hook (sym (ap holder_role_of e))))
        | inr h ↦ rw h.0 (load_law hook WordName.Stage w.words.stage ThawStep.LoadsStage
            (ThawStep.Releases (Err GateError.Invalid)) e refl refl None None None None refl refl tt
            (tt, tt) (still ThawStep.LoadsStage (ThawStep.Releases (Err GateError.Invalid)) e WordName.Stage w.words.stage hook (sym (ap holder_role_of e))))
      ]

  loads_holders : (hook : HookAnswer) → IsHere ThawStep.LoadsHolders → Keeps hook ThawStep.LoadsHolders
  loads_holders hook e =
      let s : ThawStep = ThawStep.LoadsHolders in
      let k : (w.words.stage ≡ 4) × Unit {0} = here_knows s e in
      let held : Holders = holders_in w.words.holders in
      let none : total c.tasks (λ y. minds (holder_roles w y)) ≡ 0 =
      nobody_minds c w good t lt (ap owns e) (ap (λ p. minds (holder_role_of p)) e) in
      finds_cases x held (λ s'. WriterLaw c w t w.words (view_at (WordName.Holders, Touch.Load) w.words.holders hook s' None) None)
      (λ other. load_law hook WordName.Holders w.words.holders s (ThawStep.Releases (Err GateError.Invalid)) e refl refl (Some 4) None None None refl refl tt
      (tt, tt) (still s (ThawStep.Releases (Err GateError.Invalid)) e WordName.Holders w.words.holders hook (sym (ap holder_role_of e))))
      (λ own alone. load_law hook WordName.Holders w.words.holders s ThawStep.LoadsSuperblock e refl refl (Some 4) None (Some 4) None refl refl tt
      (k.0, tt) (holders_after c w good t lt w.words (view_at (WordName.Holders, Touch.Load) w.words.holders hook ThawStep.LoadsSuperblock None) Finds (
        ap holder_role_of e,
        k.0,
        none,
        λ j. record {
          stage = w.words.stage;
          holders = w.words.holders;
          at = update (holder_roles w) t (Found (sym (holds_alone x.holder held own alone) j));
        },
      )))
      (λ own shared. load_law hook WordName.Holders w.words.holders s (ThawStep.Leaves held) e refl refl (Some 4) None (Some 4) None refl refl
      (own, shared) (k.0, tt) (holders_after c w good t lt w.words (view_at (WordName.Holders, Touch.Load) w.words.holders hook (ThawStep.Leaves held) None)
      Finds (ap holder_role_of e, k.0, none, refl)))

  loads_superblock : (hook : HookAnswer) → IsHere ThawStep.LoadsSuperblock → Keeps hook ThawStep.LoadsSuperblock
  loads_superblock hook e =
      let s : ThawStep = ThawStep.LoadsSuperblock in
      let k : (w.words.stage ≡ 4) × Unit {0} = here_knows s e in
      elim (eqb_tells w.words.sb 0) [
        | inl h ↦ rw h.0 (load_law hook WordName.SbFlags w.words.sb s ThawStep.LeavesLast e refl refl (Some 4) None (Some 4) (Some 0) refl refl tt
            (k.0, h.1) (still s ThawStep.LeavesLast e WordName.SbFlags w.words.sb hook (sym (ap holder_role_of e))))
        | inr h ↦ rw h.0 (load_law hook WordName.SbFlags w.words.sb s ThawStep.LeavesReadOnly e refl refl (Some 4) None (Some 4) (Some 1) refl refl tt
            (k.0, omega (arith, h.1, (good Stages).superblock))
            (still s ThawStep.LeavesReadOnly e WordName.SbFlags w.words.sb hook (sym (ap holder_role_of e))))
      ]

  -- the owner's store without its holder
  leave_law : (hook : HookAnswer) (s s' : ThawStep) (e : IsHere s) (held : Holders) (n : ℕ) (sb : Option ℕ) →
      thaw_holder_role x.holder s ≡ Found held → held_by held x.holder ≡ true → holders_in n ≡ with_holder x.holder false held →
      thaw_position s ≡ None → thaw_position s' ≡ None → thaw_stage_role s ≡ Owning (Some 4) sb → (stage' sb' : Option ℕ) →
      thaw_stage_role s' ≡ Owning stage' sb' → KnowsStage w.words.stage w.words.sb (Owning stage' sb') → ThawFits x.holder s' →
      let v : View = view_at (WordName.Holders, Touch.Store n) w.words.holders hook s' (Some (Action.Leave x.holder)) in
      Holds c (left_world w t (record w.words { holders = n }) v) Holding →
      WriterLaw c w t (record w.words { holders = n }) v (Some (Action.Leave x.holder))
  leave_law hook s s' e held n sb finds own packed none none' role stage' sb' role' knows fit holding =
      let v : View = view_at (WordName.Holders, Touch.Store n) w.words.holders hook s' (Some (Action.Leave x.holder)) in
      let now : IsWriter v.phase = thaws_write (at_thaw x s') in
      let is : holders_in w.words.holders ≡ held = found s e held finds in
      writer_holds c w good t lt v (here_writes s e) now (assumption) (record { held_same = refl; added_same = refl; taken_same = refl })
      (goes_to s s' e fit) n (Action.Leave x.holder) None (LeavesOne x.holder sb (Owning stage' sb'))
      (owner_stays c w good t lt v (here_writes s e) now w.words refl refl (role_owns s' role' ∙ sym (ap owns e ∙ role_owns s role)))
      (subst (HasPosition (w.views t).phase) none (here_stands s e))
      (subst (HasPosition (Some (Phase.Thaws (at_thaw x s')))) none' (thaw_stands (at_thaw x s'))) (sym (here_off_tree s e)) (
        ap stage_role_of e ∙ role,
        owners_alike (Some 4) sb stage' sb',
        knows,
        none_below (marks_of w.words),
        ap (playing (stages_in w) t) role',
      )
      refl (ap (λ k. held_by k x.holder) is ∙ own)
      (record {
        mounts_same = refl;
        levels_same = refl;
        opens_same = refl;
        ro_same = refl;
        tree_same = refl;
        holders_same = ap (with_holder x.holder false) is ∙ sym packed;
      })
      holding

  -- others still hold a freeze
  leaves_others : (hook : HookAnswer) (held : Holders) → IsHere (ThawStep.Leaves held) → Keeps hook (ThawStep.Leaves held)
  leaves_others hook held e =
      let rest : Holders = with_holder x.holder false held in
      let f : FitsHere (ThawStep.Leaves held) = here_fits (ThawStep.Leaves held) e in
      leave_law hook (ThawStep.Leaves held) (ThawStep.Releases (Ok Reply.Unit)) e held (word_of rest) None refl f.2.0 (unpack_pack rest) refl refl refl None
      None refl (tt, tt) tt
      (holders_after c w good t lt (record w.words { holders = word_of rest })
      (view_at (WordName.Holders, Touch.Store (word_of rest)) w.words.holders hook (ThawStep.Releases (Ok Reply.Unit)) (Some (Action.Leave x.holder)))
      (LeavesOthers x.holder held) (ap holder_role_of e, f.2.1, refl))

  -- nobody holds one any more, of a read-only superblock
  leaves_read_only : (hook : HookAnswer) → IsHere ThawStep.LeavesReadOnly → Keeps hook ThawStep.LeavesReadOnly
  leaves_read_only hook e =
      let held : Holders = with_holder x.holder true nobody in
      leave_law hook ThawStep.LeavesReadOnly ThawStep.UnfreezesReadOnly e held 0 (Some 1) refl (holds_own x.holder) (sym (leaves_none x.holder)) refl refl refl
      (Some 4) (Some 1) refl (here_knows ThawStep.LeavesReadOnly e) tt
      (holders_after c w good t lt (record w.words { holders = 0 })
      (view_at (WordName.Holders, Touch.Store 0) w.words.holders hook ThawStep.UnfreezesReadOnly (Some (Action.Leave x.holder)))
      (LeavesNobody held) (ap holder_role_of e, refl))

  leaves_last : (hook : HookAnswer) → IsHere ThawStep.LeavesLast → Keeps hook ThawStep.LeavesLast
  leaves_last (Ok answer) e =
      let held : Holders = with_holder x.holder true nobody in
      leave_law (Ok answer) ThawStep.LeavesLast ThawStep.SetsUnfrozen e held 0 (Some 0) refl (holds_own x.holder) (sym (leaves_none x.holder)) refl refl refl
      (Some 4) (Some 0) refl (here_knows ThawStep.LeavesLast e) tt
      (holders_after c w good t lt (record w.words { holders = 0 })
      (view_at (WordName.Holders, Touch.Store 0) w.words.holders (Ok answer) ThawStep.SetsUnfrozen (Some (Action.Leave x.holder)))
      (LeavesNobody held) (ap holder_role_of e, refl))
  leaves_last (Err code) e =
      gives_back (Err code) ThawStep.LeavesLast e refl (Err (GateError.Hook code)) (Some 4) (Some 0) refl
      (holders_after c w good t lt (record w.words { umount = 0 })
      (view_with (w.views t) (WordName.Umount, Touch.Store 0) w.words.umount (Err code) (Next.Done (Err (GateError.Hook code)), None))
      (LetsHoldersGo (with_holder x.holder true nobody)) (ap holder_role_of e, refl))

  -- a read-only superblock is thawed at once: its freeze closed no level
  unfreezes_read_only : (hook : HookAnswer) → IsHere ThawStep.UnfreezesReadOnly → Keeps hook ThawStep.UnfreezesReadOnly
  unfreezes_read_only hook e =
      let k : (w.words.stage ≡ 4) × (w.words.sb ≡ 1) = here_knows ThawStep.UnfreezesReadOnly e in
      let s' : ThawStep = ThawStep.Releases (Ok Reply.Unit) in
      let v : View = view_at (WordName.Stage, Touch.Store 0) w.words.stage hook s' (Some (Action.Stage 0)) in
      let whole : is_full 0 w.words.sb ≡ is_full w.words.stage w.words.sb = rw (k.0, k.1) refl in
      store_law hook ThawStep.UnfreezesReadOnly s' e ThawsAtOnce refl refl tt refl refl
      (stored_levels c w good t lt v (record { held_same = refl; added_same = refl; taken_same = refl }) 0 None whole
      (here_stands ThawStep.UnfreezesReadOnly e) (thaw_stands (at_thaw x s')))
      (ap stage_role_of e, refl) refl

  -- stores stage 0 of a writable superblock, with all levels closed as the thaw's own from here on
  sets_unfrozen : (hook : HookAnswer) → IsHere ThawStep.SetsUnfrozen → Keeps hook ThawStep.SetsUnfrozen
  sets_unfrozen hook e =
      let k : (w.words.stage ≡ 4) × (w.words.sb ≡ 0) = here_knows ThawStep.SetsUnfrozen e in
      let s' : ThawStep = ThawStep.Reopens (reopening 3) in
      let v : View = view_at (WordName.Stage, Touch.Store 0) w.words.stage hook s' (Some (Action.Stage 0)) in
      let frozen : is_frozen_whole w.words ≡ 1 = rw (k.0, k.1) refl in
      store_law hook ThawStep.SetsUnfrozen s' e StoresThaw refl refl (omega arith, omega arith, tt) refl refl
      (thaws_all c lim w good t lt (record w.words { stage = 0 }) v (assumption)
      (record { held_same = refl; added_same = refl; taken_same = refl }) (here_stands ThawStep.SetsUnfrozen e) (thaw_stands (at_thaw x s'))
      frozen refl)
      (ap stage_role_of e, refl) refl

  releases : (hook : HookAnswer) (answer : Result Reply GateError) → IsHere (ThawStep.Releases answer) → Keeps hook (ThawStep.Releases answer)
  releases hook answer e =
      gives_back hook (ThawStep.Releases answer) e refl answer None None refl
      (holders_stay c w good t lt (record w.words { umount = 0 })
      (view_with (w.views t) (WordName.Umount, Touch.Store 0) w.words.umount hook (Next.Done answer, None)) refl refl (sym (ap holder_role_of e)))

  -- What a step of a level's reopening finds and leaves.
  module _ (hook : HookAnswer) (u : UpWrite) where
    -- its word and its touch
    abbrev event_here : WordName × Touch
    event_here = up_write_next u u.step

    -- what it finds
    abbrev found_here : ℕ
    found_here = found_by event_here.1 (read w.words event_here.0)

    -- what comes after it
    abbrev next_here : Next UpWrite × Option Action
    next_here = up_write_after u u.step found_here

    -- the words after it
    abbrev words_here : Words
    words_here = put w.words event_here.0 (left event_here.1 (read w.words event_here.0))

    -- and the task's view
    abbrev view_here : View
    view_here =
        view_with (w.views t) event_here (read w.words event_here.0) hook
        (map_next Phase.Thaws (after_opening x u.level next_here.0), next_here.1)

    held_here : held_of view_here ≡ held_of (w.views t)
    held_here = up_write_adds u (λ a. holdings_of (actions_after a (w.views t).actions) ≡ held_of (w.views t)) refl refl u.step found_here

    fits_here : FitsHere (ThawStep.Reopens u) → ViewFits c t view_here
    fits_here f = grind (arith, common_steps)

    reopens_law : (e : IsHere (ThawStep.Reopens u)) (kind : StageEvent) → IsStageEvent c w good t lt words_here view_here kind →
        stage_action_of kind (stages_in w) ≡ next_here.1 → WriterLaw c w t words_here view_here next_here.1
    reopens_law e kind happens adds =
        let f : FitsHere (ThawStep.Reopens u) = here_fits (ThawStep.Reopens u) e in
        let none : (g : ℕ → ℕ → ℕ) → (added_after event_here.0 event_here.1 g ≡ g) × (taken_after event_here.0 event_here.1 g ≡ g) ×
        (level_added_after event_here.0 event_here.1 g ≡ g) × (level_taken_after event_here.0 event_here.1 g ≡ g) =
        up_write_counts_none u u.step in
        writer_at_level c w good t lt words_here view_here next_here.1 kind (here_writes (ThawStep.Reopens u) e)
        (thaw_comes (after_opening x u.level next_here.0)) (up_write_words w.words u u.step)
        (record {
          held_same = held_here;
          added_same = (none (added_by (w.views t).events)).0;
          taken_same = (none (taken_by (w.views t).events)).1;
        })
        (fits_here f)
        (opening_owns x u.level next_here.0 ∙ sym (ap owns e))
        (up_write_levels c lim w good t lt u view_here
        (record {
          held_same = ap (λ (h : Holdings). h.levels) held_here;
          added_same = (none (level_added_by (w.views t).events)).2;
          taken_same = (none (level_taken_by (w.views t).events)).3;
        })
        f.2 (here_stands (ThawStep.Reopens u) e) (opening_stands x u.level next_here.0))
        (tree_beside c w good t lt words_here view_here (up_write_words w.words u u.step)
        (tree_comes view_here.trace (after_opening x u.level next_here.0) ∙ sym (here_off_tree (ThawStep.Reopens u) e)))
        happens adds
        (up_write_adds u (AsksWhere (model_limits c) (shown c w)) tt tt u.step found_here)
        (up_write_adds u (λ a. LeavesRest (shown c w) (state_after (shown c w) t a) (shown c w).tree (shown c w).holders)
        (none_leaves c w good t lt) (reopen_leaves (shown c w) t u.level) u.step found_here)
        (opening_apart x u.level next_here.0 ∙ sym (ap holder_role_of e))

    -- where the level is open and it leaves the words of the stage, the thaw goes on to the next level or to its release
    leaves_law : (e : IsHere (ThawStep.Reopens u)) → thaw_stage_role (ThawStep.Reopens u) ≡ Reopening (u.level - 1) → None ≡ next_here.1 →
        NextRoleHolds (Reopening (u.level - 1)) w.words.stage w.words.sb (marks_of w.words) (stage_role_of view_here.phase) →
        SameStageWords w.words words_here → WriterLaw c w t words_here view_here next_here.1
    leaves_law e role none on same =
        reopens_law e (Recalls (Reopening (u.level - 1)) (stage_role_of view_here.phase)) (
          ap stage_role_of e ∙ role,
          on.0,
          on.1,
          on.2,
          λ j. record {
            stage = same.stage_same j;
            sb = same.sb_same j;
            remount = same.remount_same j;
            block = same.block_same j;
            dirty = λ n. dirty_in (same.node_same j n);
            at = update (stage_roles w) t (stage_role_of view_here.phase);
          },
        ) none

  -- opens a level; meets: who seeks its grant finds its `block` clear
  clears_block : (hook : HookAnswer) (level : ℕ) → IsHere (ThawStep.Reopens (record { level = level; step = UpWriteStep.ClearsBlock })) →
      Keeps hook (ThawStep.Reopens (record { level = level; step = UpWriteStep.ClearsBlock }))
  clears_block hook zero e = absurd (omega (arith, (here_fits (ThawStep.Reopens (record { level = zero; step = UpWriteStep.ClearsBlock })) e).2.0))
  clears_block hook (suc below) e =
      let down : suc below - 1 ≡ below = omega arith in
      reopens_law hook (record { level = suc below; step = UpWriteStep.ClearsBlock }) e (ClearsBlockOf below) (
        ap stage_role_of e,
        ap (λ k. playing (record (stages_in w) { block = update w.words.block (suc below) 0 }) t (Reopening k)) down,
      ) refl

  -- leaves its rcu_sync; meets: the next writer enters it
  exits : (hook : HookAnswer) (level : ℕ) (transition : Transition) →
      IsHere (ThawStep.Reopens (record { level = level; step = UpWriteStep.Exits transition })) →
      Keeps hook (ThawStep.Reopens (record { level = level; step = UpWriteStep.Exits transition }))
  exits hook level Transition.Loads e =
      let u : UpWrite = record { level = level; step = UpWriteStep.Exits Transition.Loads } in
      leaves_law hook u e refl refl
      (exit_on x level u.step (transition_after on_exit Transition.Loads (w.words.sync level)) w.words.stage w.words.sb (marks_of w.words)
      (here_fits (ThawStep.Reopens u) e).2.1 (here_knows (ThawStep.Reopens u) e).0) (assumption)
  exits hook level (Transition.Exchanges from to) e =
      let u : UpWrite = record { level = level; step = UpWriteStep.Exits (Transition.Exchanges from to) } in
      leaves_law hook u e refl refl
      (exit_on x level u.step (transition_after on_exit (Transition.Exchanges from to) (w.words.sync level)) w.words.stage w.words.sb
      (marks_of w.words) (here_fits (ThawStep.Reopens u) e).2.1 (here_knows (ThawStep.Reopens u) e).0)
      (record { stage_same = refl; sb_same = refl; remount_same = refl; block_same = refl; node_same = refl })

  reopening_event : (hook : HookAnswer) (level : ℕ) (s : UpWriteStep) → IsHere (ThawStep.Reopens (record { level = level; step = s })) →
      Keeps hook (ThawStep.Reopens (record { level = level; step = s }))
  reopening_event hook level UpWriteStep.ClearsBlock e = clears_block hook level e
  reopening_event hook level (UpWriteStep.Exits transition) e = exits hook level transition e

  thaw_event : (hook : HookAnswer) (s : ThawStep) → IsHere s → Keeps hook s
  thaw_event hook ThawStep.Locks e = locks hook e
  thaw_event hook ThawStep.LoadsStage e = loads_stage hook e
  thaw_event hook ThawStep.LoadsHolders e = loads_holders hook e
  thaw_event hook (ThawStep.Leaves held) e = leaves_others hook held e
  thaw_event hook ThawStep.LoadsSuperblock e = loads_superblock hook e
  thaw_event hook ThawStep.LeavesReadOnly e = leaves_read_only hook e
  thaw_event hook ThawStep.LeavesLast e = leaves_last hook e
  thaw_event hook ThawStep.UnfreezesReadOnly e = unfreezes_read_only hook e
  thaw_event hook ThawStep.SetsUnfrozen e = sets_unfrozen hook e
  thaw_event hook (ThawStep.Reopens u) e = reopening_event hook u.level u.step e
  thaw_event hook (ThawStep.Releases answer) e = releases hook answer e

-- each step of a thaw keeps the invariant, and moves the shown state by its action
pub thaw_keeps : (c : Config) → IsWithin c → (w : World) → IsGood c w → (t : ℕ) → t < c.tasks → (hook : HookAnswer) (x : Thaw) →
    (w.views t).phase ≡ Some (Phase.Thaws x) → StepKeeps c w t hook (Phase.Thaws x)
thaw_keeps c lim w good t lt hook x e =
    whole_writer c w t lt good hook (Phase.Thaws x) e (thaw_work w x hook) (thaw_event c lim w good t lt x hook x.step e)
