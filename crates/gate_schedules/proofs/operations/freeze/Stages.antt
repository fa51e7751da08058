-- The steps of a freeze on `umount`, the stage and the superblock's flag, and its clearing of marks.
use Rattle.gate_schedules.proofs.Prelude.{Action, Config, Err, Event, Fits, Fitting, Freeze, FreezeFits, FreezeStep, GateError, Holding, Holds}
use Rattle.gate_schedules.proofs.Prelude.{HookAnswer, IsGood, IsWithin, KnowsStage, LevelPosition, Next, None, Ok, Option, OwnerHolds, Phase}
use Rattle.gate_schedules.proofs.Prelude.{PhaseFits, Reply, Result, Some, StageEvent, StageRole, Stages, Touch, Tree, TreeState, View, WordName}
use Rattle.gate_schedules.proofs.Prelude.{Words, World, ap, arith, at_freeze, eqb_tells, freeze_stage_role, held_by, held_of, holder_role_of}
use Rattle.gate_schedules.proofs.Prelude.{holders_in, if◌then◌else◌, inl, inr, model_limits, owns, refl, shown, stage_role_of, subst, sym, total}
use Rattle.gate_schedules.proofs.Prelude.{tree_bounds, tree_of, tree_role_of, tree_roles, turned, update, view_with, ℕ, ◌+◌, ◌<◌, ◌∙◌, ◌∷◌, ◌≡◌}
use Rattle.gate_world.specs.{Roles.{closed_to, freeze_holder_role, freeze_owns, freeze_position, freeze_tree_role, open_from}, Rules.holder_roles}
use Rattle.access_model.specs.{Holders.{is_unheld, nobody, with_holder}, declared.actions.Holders.Holders}
use Rattle.freeze_levels.proofs.holder_laws.{HolderLaws.{finds_some, roles_tell}, Words.{is_nobody, none_held, unpack_pack}}
use Rattle.freeze_levels.specs.{Freezes.{freeze_closes, freeze_fails}, Holders.word_of, holder_laws.Events.{Finds, Freezes as FreezesHolders}}
use Rattle.freeze_levels.specs.holder_laws.{Events.{HoldsFirst, Joins}, Roles.{Apart, Fills, Found, HolderRole, between, minds}}
use Rattle.gate_schedules.proofs.frames.{Cases.both, Frames.SameLevelCounts, Holders.{holders_after, holders_at, holders_move, holders_stay}}
use Rattle.gate_schedules.proofs.frames.{Holders.nobody_minds, Stages.{IsStageEvent, nobody_owns, owners_alike, stages_in}}
use Rattle.gate_schedules.proofs.levels.{FreezeCompletes.freezes_all, LevelPositions.{HasPosition, LevelsHold, left_world}}
use Rattle.gate_schedules.proofs.levels.PositionRoles.{closing_first, closing_next, closing_says, closing_says_none, stands_so}
use Rattle.gate_schedules.proofs.{operations.freeze.Fits.found_cases, trees.worlds.Trees.{sealed_frozen, tree_after, tree_then}}
use Rattle.gate_schedules.proofs.writers.{Owner.{lock_given, lock_taken, owner_stays}, Parts.{AsksWhere, IsWriter, SameAtMounts, WriterKeeps}}
use Rattle.gate_schedules.proofs.writers.{Parts.{WriterLaw, freezes_write, idle_writes}, Stages.{opened_tree, stays_there, stored_levels}}
use Rattle.gate_schedules.{proofs.writers.Stages.{stored_tree, writer_beside, writer_holds, writer_stores}, specs.trees.Events.Event as TreeEvent}
use Rattle.gate_schedules.specs.trees.Events.{Leaves, Seals}
use Rattle.gated_tree.specs.Roles.{HasNoCharge, Out as OffTree, sealed_by}
use Rattle.freeze_laws.{proofs.stages.Facts.at_level, specs.stages.Events.{Advances, Begins, Completes, Fails, FreezesAtOnce}}
use Rattle.freeze_laws.specs.stages.Events.{GivesUp as GivesUpStage, Happens, HoldsOne, LetsGo, LoadsSb, LoadsStage as FindsStage}
use Rattle.freeze_laws.specs.stages.Events.{Locks as LocksStage, LocksAgain as LocksStageAgain, Recalls, Releases as ReleasesStage, Stays, Syncs}
use Rattle.freeze_laws.specs.stages.{Events.{action_of as stage_action_of, playing}, Roles.{Before, HasPassed, Owning, Reopening, is_full}}
use Rattle.std.specs.Prelude.{false, true}

pub freeze_stands : (x : Freeze) → HasPosition (Some (Phase.Freezes x)) (freeze_position x.step)
freeze_stands x = record { counts = λ i one three. refl; syncs = λ i one three. refl; outside = refl }

pub idle_stands : HasPosition None None
idle_stands = record { counts = λ i one three. refl; syncs = λ i one three. refl; outside = refl }

module _ (c : Config) (lim : IsWithin c) (w : World) (good : IsGood c w) (t : ℕ) (lt : t < c.tasks) (x : Freeze) where
  -- the task is at this step
  abbrev pub IsHere : FreezeStep → Type 0
  IsHere s = (w.views t).phase ≡ Some (Phase.Freezes (at_freeze x s))

  -- the law of its step
  abbrev pub Keeps : HookAnswer → FreezeStep → Type 0
  Keeps hook s = WriterKeeps c w t hook (Phase.Freezes (at_freeze x s))

  -- the step fits its task's accesses
  abbrev pub FitsHere : FreezeStep → Type 0
  FitsHere s = PhaseFits c t (held_of (w.views t)) (Phase.Freezes (at_freeze x s))

  -- so it does in a good state
  pub here_fits : (s : FreezeStep) → IsHere s → FitsHere s
  here_fits s e = subst (Fits c t (held_of (w.views t))) e (good Fitting t lt)

  -- what it relies on of the stage is so
  pub here_knows : (s : FreezeStep) → IsHere s → KnowsStage w.words.stage w.words.sb (freeze_stage_role x.nodes s)
  here_knows s e = subst (λ p. KnowsStage w.words.stage w.words.sb (stage_role_of p)) e ((good Stages).knows t lt)

  pub here_stands : (s : FreezeStep) → IsHere s → HasPosition (w.views t).phase (freeze_position s)
  here_stands s e = subst (λ p. HasPosition p (freeze_position s)) (sym e) (freeze_stands (at_freeze x s))

  pub here_tree : (s : FreezeStep) → IsHere s → tree_roles w t ≡ freeze_tree_role x.nodes s
  here_tree s e = ap (tree_role_of (w.views t).trace) e

  pub here_writes : (s : FreezeStep) → IsHere s → IsWriter (w.views t).phase
  here_writes s e = subst IsWriter (sym e) (freezes_write (at_freeze x s))

  pub goes_to : (s s' : FreezeStep) → IsHere s → FreezeFits c x.holder s' → FitsHere s'
  goes_to s s' e fit = let f : FitsHere s = here_fits s e in (f.0, f.1, f.2, f.3, f.4, fit)

  -- the view after a step of this word and touch, after which this program point comes
  abbrev pub view_at : WordName × Touch → ℕ → HookAnswer → FreezeStep → Option Action → View
  view_at n value hook s action = view_with (w.views t) n value hook (Next.Go (Phase.Freezes (at_freeze x s)), action)

  stores : (hook : HookAnswer) (s s' : FreezeStep) (e : IsHere s) (n : ℕ) (kind : StageEvent) →
      freeze_owns s ≡ 1 → freeze_owns s' ≡ 1 → FreezeFits c x.holder s' →
      let v : View = view_at (WordName.Stage, Touch.Store n) w.words.stage hook s' (Some (Action.Stage n)) in
      let ws : Words = record w.words { stage = n } in
      LevelsHold c (left_world w t ws v) → Holds c (left_world w t ws v) Tree → IsStageEvent c w good t lt ws v kind →
      stage_action_of kind (stages_in w) ≡ Some (Action.Stage n) → AsksWhere (model_limits c) (shown c w) (Some (Action.Stage n)) →
      Holds c (left_world w t ws v) Holding → WriterLaw c w t ws v (Some (Action.Stage n))
  stores hook s s' e n kind o o' fit levels tree happens adds asks holding =
      let v : View = view_at (WordName.Stage, Touch.Store n) w.words.stage hook s' (Some (Action.Stage n)) in
      let now : IsWriter v.phase = freezes_write (at_freeze x s') in
      writer_stores c w good t lt v (here_writes s e) now (assumption) (record { held_same = refl; added_same = refl; taken_same = refl })
      (goes_to s s' e fit) n kind
      (owner_stays c w good t lt v (here_writes s e) now w.words refl refl (o' ∙ sym (ap owns e ∙ o)))
      levels tree happens adds asks holding

  -- among stages that aren't 4, it leaves the holders
  moved : (hook : HookAnswer) (s s' : FreezeStep) (e : IsHere s) (n : ℕ) → freeze_holder_role s ≡ Apart → freeze_holder_role s' ≡ Apart →
      (w.words.stage ≡ 4 → ⊥) → (n ≡ 4 → ⊥) →
      let v : View = view_at (WordName.Stage, Touch.Store n) w.words.stage hook s' (Some (Action.Stage n)) in
      Holds c (left_world w t (record w.words { stage = n }) v) Holding
  moved hook s s' e n role role' off off' =
      holders_move c w good t lt (record w.words { stage = n })
      (view_at (WordName.Stage, Touch.Store n) w.words.stage hook s' (Some (Action.Stage n))) off off' refl
      (role' ∙ sym (ap holder_role_of e ∙ role))

  -- and with stage 4 the freeze is to store its holder
  completed : (hook : HookAnswer) (s : FreezeStep) (e : IsHere s) → freeze_holder_role s ≡ Apart →
      freeze_owns s ≡ 1 → (w.words.stage ≡ 4 → ⊥) →
      let v : View = view_at (WordName.Stage, Touch.Store 4) w.words.stage hook (FreezeStep.Holds nobody) (Some (Action.Stage 4)) in
      Holds c (left_world w t (record w.words { stage = 4 }) v) Holding
  completed hook s e role own off =
      let here : holder_role_of (w.views t).phase ≡ Apart = ap holder_role_of e ∙ role in
      holders_after c w good t lt (record w.words { stage = 4 })
      (view_at (WordName.Stage, Touch.Store 4) w.words.stage hook (FreezeStep.Holds nobody) (Some (Action.Stage 4))) FreezesHolders
      (here, off, nobody_minds c w good t lt (ap owns e ∙ own) (ap minds here), refl)

  -- which leaves the levels, where the file system is frozen as a whole or not as before
  kept_levels : (hook : HookAnswer) (s s' : FreezeStep) (e : IsHere s) (n : ℕ) (stand : Option LevelPosition) →
      is_full n w.words.sb ≡ is_full w.words.stage w.words.sb → freeze_position s ≡ stand → HasPosition (Some (Phase.Freezes (at_freeze x s'))) stand →
      let v : View = view_at (WordName.Stage, Touch.Store n) w.words.stage hook s' (Some (Action.Stage n)) in
      LevelsHold c (left_world w t (record w.words { stage = n }) v)
  kept_levels hook s s' e n stand whole before after =
      let v : View = view_at (WordName.Stage, Touch.Store n) w.words.stage hook s' (Some (Action.Stage n)) in
      stored_levels c w good t lt v (record { held_same = refl; added_same = refl; taken_same = refl }) n stand whole
      (subst (HasPosition (w.views t).phase) before (here_stands s e)) after

  -- and the tree, where it is sealed or not as before, and the freeze does there what it did
  kept_tree : (hook : HookAnswer) (s s' : FreezeStep) (e : IsHere s) (n : ℕ) → freeze_tree_role x.nodes s' ≡ freeze_tree_role x.nodes s →
      sealed_by w.words.sb n ≡ sealed_by w.words.sb w.words.stage →
      let v : View = view_at (WordName.Stage, Touch.Store n) w.words.stage hook s' (Some (Action.Stage n)) in
      Holds c (left_world w t (record w.words { stage = n }) v) Tree
  kept_tree hook s s' e n same sealed =
      stored_tree c w good t lt (view_at (WordName.Stage, Touch.Store n) w.words.stage hook s' (Some (Action.Stage n))) (same ∙ sym (here_tree s e)) n
      sealed

  -- a store of stage 3, with no mark left, seals the tree
  sealed_tree : (v : View) → IsHere FreezeStep.SetsFs → tree_role_of v.trace v.phase ≡ OffTree →
      Holds c (left_world w t (record w.words { stage = 3 }) v) Tree
  sealed_tree v e now =
      let f : FitsHere FreezeStep.SetsFs = here_fits FreezeStep.SetsFs e in
      let after : ◌≡◌ {A = TreeState} (tree_then c w good t lt (record w.words { stage = 3 }) v)
      (record (turned (tree_of w) t OffTree) { sealed = 1 }) =
      λ j. record (tree_of w) { sealed = sealed_frozen w.words.sb 3 (omega arith) j; at = update (tree_roles w) t (now j) } in
      tree_after c w good t lt (record w.words { stage = 3 }) v lim None
      (subst (λ s. TreeEvent (tree_bounds c) (tree_of w) t s None) (sym after) (Seals x.nodes (omega (arith, f.3)) (here_tree FreezeStep.SetsFs e)))

  -- one of stage 0 in its place leaves it as it was
  left_tree : (v : View) → IsHere FreezeStep.SetsFs → tree_role_of v.trace v.phase ≡ OffTree →
      Holds c (left_world w t (record w.words { stage = 0 }) v) Tree
  left_tree v e now =
      let k : w.words.stage ≡ 2 = here_knows FreezeStep.SetsFs e in
      let sealed : sealed_by w.words.sb 0 ≡ sealed_by w.words.sb w.words.stage = rw k refl in
      let after : tree_then c w good t lt (record w.words { stage = 0 }) v ≡ turned (tree_of w) t OffTree =
      λ j. record (tree_of w) { sealed = sealed j; at = update (tree_roles w) t (now j) } in
      tree_after c w good t lt (record w.words { stage = 0 }) v lim None
      (subst (λ s. TreeEvent (tree_bounds c) (tree_of w) t s None) (sym after)
      (Leaves (subst HasNoCharge (sym (here_tree FreezeStep.SetsFs e)) (record { blocks = refl; removed = refl; children = λ d. refl }))))

  -- the superblock is read-only: stores stage 4 at once
  pub completes_read_only : (hook : HookAnswer) → IsHere FreezeStep.CompletesReadOnly → Keeps hook FreezeStep.CompletesReadOnly
  completes_read_only hook e =
      let k : (w.words.stage ≡ 0) × (w.words.sb ≡ 1) = here_knows FreezeStep.CompletesReadOnly e in
      let s' : FreezeStep = FreezeStep.Holds nobody in
      stores hook FreezeStep.CompletesReadOnly s' e 4 FreezesAtOnce refl refl (none_held x.holder)
      (kept_levels hook FreezeStep.CompletesReadOnly s' e 4 None (rw (k.0, k.1) refl) refl (freeze_stands (at_freeze x s')))
      (kept_tree hook FreezeStep.CompletesReadOnly s' e 4 refl (rw k.1 refl))
      (ap stage_role_of e, refl) refl tt (completed hook FreezeStep.CompletesReadOnly e refl refl (λ four. omega (arith, k.0, four)))

  pub sets_write : (hook : HookAnswer) → IsHere FreezeStep.SetsWrite → Keeps hook FreezeStep.SetsWrite
  sets_write hook e =
      let k : (w.words.stage ≡ 0) × (w.words.sb ≡ 0) = here_knows FreezeStep.SetsWrite e in
      stores hook FreezeStep.SetsWrite FreezeStep.Unlocks e 1 Begins refl refl tt
      (kept_levels hook FreezeStep.SetsWrite FreezeStep.Unlocks e 1 None (rw k.0 refl) refl (freeze_stands (at_freeze x FreezeStep.Unlocks)))
      (kept_tree hook FreezeStep.SetsWrite FreezeStep.Unlocks e 1 refl (rw k.0 refl))
      (ap stage_role_of e, refl) refl tt
      (moved hook FreezeStep.SetsWrite FreezeStep.Unlocks e 1 refl refl (λ four. omega (arith, k.0, four)) (λ four. omega (arith, four)))

  pub sets_page_fault : (hook : HookAnswer) → IsHere FreezeStep.SetsPageFault → Keeps hook FreezeStep.SetsPageFault
  sets_page_fault hook e =
      let f : FitsHere FreezeStep.SetsPageFault = here_fits FreezeStep.SetsPageFault e in
      let k : w.words.stage ≡ 1 = here_knows FreezeStep.SetsPageFault e in
      let s' : FreezeStep = freeze_closes x 2 in
      stores hook FreezeStep.SetsPageFault s' e 2 (Advances 0) refl refl (omega arith, omega arith, f.1, f.2, tt, tt)
      (kept_levels hook FreezeStep.SetsPageFault s' e 2 (Some (closed_to 1)) (rw k refl) refl
      (closing_next (Some (Phase.Freezes (at_freeze x s'))) 1 x.tasks x.processors (omega arith) (freeze_stands (at_freeze x s'))))
      (kept_tree hook FreezeStep.SetsPageFault s' e 2 refl (rw k refl))
      (ap stage_role_of e, refl) refl tt
      (moved hook FreezeStep.SetsPageFault s' e 2 refl refl (λ four. omega (arith, k, four)) (λ four. omega (arith, four)))

  -- the file system has answered: stores stage 3, and begins to close level 3, or stores stage 0, and begins to reopen level 2
  pub sets_fs : (hook : HookAnswer) → IsHere FreezeStep.SetsFs → Keeps hook FreezeStep.SetsFs
  sets_fs (Ok answer) e =
      let f : FitsHere FreezeStep.SetsFs = here_fits FreezeStep.SetsFs e in
      let k : w.words.stage ≡ 2 = here_knows FreezeStep.SetsFs e in
      let s' : FreezeStep = freeze_closes x 3 in
      stores (Ok answer) FreezeStep.SetsFs s' e 3 (Syncs x.nodes) refl refl (omega arith, omega arith, f.1, f.2, tt, tt)
      (kept_levels (Ok answer) FreezeStep.SetsFs s' e 3 (Some (closed_to 2)) (rw k refl) refl
      (closing_next (Some (Phase.Freezes (at_freeze x s'))) 2 x.tasks x.processors (omega arith) (freeze_stands (at_freeze x s'))))
      (sealed_tree (view_at (WordName.Stage, Touch.Store 3) w.words.stage (Ok answer) s' (Some (Action.Stage 3))) e refl)
      (ap stage_role_of e, omega (arith, f.3), refl) refl tt
      (moved (Ok answer) FreezeStep.SetsFs s' e 3 refl refl (λ four. omega (arith, k, four)) (λ four. omega (arith, four)))
  sets_fs (Err code) e =
      let k : w.words.stage ≡ 2 = here_knows FreezeStep.SetsFs e in
      let s' : FreezeStep = freeze_fails 2 code in
      stores (Err code) FreezeStep.SetsFs s' e 0 (Fails 2 x.nodes) refl refl (omega arith, omega arith, tt)
      (kept_levels (Err code) FreezeStep.SetsFs s' e 0 (Some (closed_to 2)) (rw k refl) refl (freeze_stands (at_freeze x s')))
      (left_tree (view_at (WordName.Stage, Touch.Store 0) w.words.stage (Err code) s' (Some (Action.Stage 0))) e refl)
      (ap stage_role_of e, omega arith, refl) refl (λ four. absurd (omega (arith, k, four)))
      (moved (Err code) FreezeStep.SetsFs s' e 0 refl refl (λ four. omega (arith, k, four)) (λ four. omega (arith, four)))

  -- the same for stage 4, with which the closed levels are no task's own, or stage 0, after which level 3 is to be reopened
  pub sets_complete : (hook : HookAnswer) → IsHere FreezeStep.SetsComplete → Keeps hook FreezeStep.SetsComplete
  sets_complete (Ok answer) e =
      let k : w.words.stage ≡ 3 = here_knows FreezeStep.SetsComplete e in
      let s' : FreezeStep = FreezeStep.Holds nobody in
      let v : View = view_at (WordName.Stage, Touch.Store 4) w.words.stage (Ok answer) s' (Some (Action.Stage 4)) in
      let sb : w.words.sb ≡ 0 = (good Stages).writable (rw k refl) in
      stores (Ok answer) FreezeStep.SetsComplete s' e 4 (Completes 0) refl refl (none_held x.holder)
      (freezes_all c lim w good t lt (record w.words { stage = 4 }) v (assumption)
      (record { held_same = refl; added_same = refl; taken_same = refl }) (here_stands FreezeStep.SetsComplete e) (freeze_stands (at_freeze x s'))
      (rw sb refl))
      (kept_tree (Ok answer) FreezeStep.SetsComplete s' e 4 refl
      (sealed_frozen w.words.sb 4 (omega arith) ∙ sym (sealed_frozen w.words.sb w.words.stage (omega (arith, k)))))
      (ap stage_role_of e, refl) refl tt (completed (Ok answer) FreezeStep.SetsComplete e refl refl (λ four. omega (arith, k, four)))
  sets_complete (Err code) e =
      let k : w.words.stage ≡ 3 = here_knows FreezeStep.SetsComplete e in
      let s' : FreezeStep = freeze_fails 3 code in
      stores (Err code) FreezeStep.SetsComplete s' e 0 (Fails 3 0) refl refl (omega arith, omega arith, tt)
      (kept_levels (Err code) FreezeStep.SetsComplete s' e 0 (Some (closed_to 3)) (rw k refl) refl (freeze_stands (at_freeze x s')))
      (opened_tree c w good t lt lim (view_at (WordName.Stage, Touch.Store 0) w.words.stage (Err code) s' (Some (Action.Stage 0)))
      (sym (here_tree FreezeStep.SetsComplete e)))
      (ap stage_role_of e, omega arith, refl) refl (λ four. absurd (omega (arith, k, four)))
      (moved (Err code) FreezeStep.SetsComplete s' e 0 refl refl (λ four. omega (arith, k, four)) (λ four. omega (arith, four)))

  -- it gives up: stores stage 0, and releases `umount`, or begins to reopen the levels below
  gives_up_first : (hook : HookAnswer) (code : ℕ) → IsHere (FreezeStep.GivesUp 1 code) → Keeps hook (FreezeStep.GivesUp 1 code)
  gives_up_first hook code e =
      let s : FreezeStep = FreezeStep.GivesUp 1 code in
      let k : w.words.stage ≡ 1 = here_knows s e in
      let s' : FreezeStep = freeze_fails 0 code in
      stores hook s s' e 0 (GivesUpStage 1 (Owning None None)) refl refl tt
      (kept_levels hook s s' e 0 (Some (open_from 1)) (rw k refl) refl
      (stands_so _ _ _ (closing_says_none 0 0) (freeze_stands (at_freeze x s'))))
      (kept_tree hook s s' e 0 refl (rw k refl)) (
        ap stage_role_of e,
        record { owns_same = refl; freezes_same = refl; remounts_same = refl; closed_same = refl; passed_same = refl },
        (tt, tt),
        (λ m l. absurd (omega (arith, l))),
        refl,
      ) refl (λ four. absurd (omega (arith, k, four)))
      (moved hook s s' e 0 refl refl (λ four. omega (arith, k, four)) (λ four. omega (arith, four)))

  gives_up_second : (hook : HookAnswer) (code : ℕ) → IsHere (FreezeStep.GivesUp 2 code) → Keeps hook (FreezeStep.GivesUp 2 code)
  gives_up_second hook code e =
      let s : FreezeStep = FreezeStep.GivesUp 2 code in
      let k : w.words.stage ≡ 2 = here_knows s e in
      let s' : FreezeStep = freeze_fails 1 code in
      stores hook s s' e 0 (GivesUpStage 2 (Reopening 1)) refl refl (omega arith, omega arith, tt)
      (kept_levels hook s s' e 0 (Some (open_from 2)) (rw k refl) refl
      (stands_so _ _ _ (closing_says 1 0 0 (omega arith)) (freeze_stands (at_freeze x s'))))
      (kept_tree hook s s' e 0 refl (rw k refl)) (
        ap stage_role_of e,
        record { owns_same = refl; freezes_same = refl; remounts_same = refl; closed_same = refl; passed_same = refl },
        (refl, omega arith),
        (λ m l. absurd (omega (arith, l))),
        refl,
      ) refl (λ four. absurd (omega (arith, k, four)))
      (moved hook s s' e 0 refl refl (λ four. omega (arith, k, four)) (λ four. omega (arith, four)))

  gives_up_third : (hook : HookAnswer) (code : ℕ) → IsHere (FreezeStep.GivesUp 3 code) → Keeps hook (FreezeStep.GivesUp 3 code)
  gives_up_third hook code e =
      let s : FreezeStep = FreezeStep.GivesUp 3 code in
      let k : w.words.stage ≡ 3 = here_knows s e in
      let s' : FreezeStep = freeze_fails 2 code in
      stores hook s s' e 0 (GivesUpStage 3 (Reopening 2)) refl refl (omega arith, omega arith, tt)
      (kept_levels hook s s' e 0 (Some (open_from 3)) (rw k refl) refl
      (stands_so _ _ _ (closing_says 2 0 0 (omega arith)) (freeze_stands (at_freeze x s'))))
      (opened_tree c w good t lt lim (view_at (WordName.Stage, Touch.Store 0) w.words.stage hook s' (Some (Action.Stage 0)))
      (sym (here_tree s e))) (
        ap stage_role_of e,
        record { owns_same = refl; freezes_same = refl; remounts_same = refl; closed_same = refl; passed_same = refl },
        (refl, omega arith),
        (λ m l. absurd (omega (arith, l))),
        refl,
      ) refl (λ four. absurd (omega (arith, k, four)))
      (moved hook s s' e 0 refl refl (λ four. omega (arith, k, four)) (λ four. omega (arith, four)))

  pub gives_up : (hook : HookAnswer) (level code : ℕ) → IsHere (FreezeStep.GivesUp level code) → Keeps hook (FreezeStep.GivesUp level code)
  gives_up hook level code e =
      let f : FitsHere (FreezeStep.GivesUp level code) = here_fits (FreezeStep.GivesUp level code) e in
      at_level (λ i. IsHere (FreezeStep.GivesUp i code) → Keeps hook (FreezeStep.GivesUp i code))
      (gives_up_first hook code, gives_up_second hook code, gives_up_third hook code) level f.5.0 f.5.1 e

  -- a step that leaves all words but `umount`, after which this program point comes
  beside : (s s' : FreezeStep) (e : IsHere s) (n value : ℕ) (word : WordName) (touch : Touch) (hook : HookAnswer) (stand : Option LevelPosition)
      (kind : StageEvent) →
      let v : View = view_at (word, touch) value hook s' None in
      SameAtMounts (w.views t) v → SameLevelCounts (w.views t) v → FreezeFits c x.holder s' →
      OwnerHolds c.tasks n w.words.remount (λ y. (update w.views t v y).phase) →
      freeze_position s ≡ stand → HasPosition (Some (Phase.Freezes (at_freeze x s'))) stand → freeze_tree_role x.nodes s' ≡ freeze_tree_role x.nodes s →
      IsStageEvent c w good t lt (record w.words { umount = n }) v kind → stage_action_of kind (stages_in w) ≡ None →
      Holds c (left_world w t (record w.words { umount = n }) v) Holding →
      WriterLaw c w t (record w.words { umount = n }) v None
  beside s s' e n value word touch hook stand kind mounts levels fit owner before after same happens adds holding =
      writer_beside c w good t lt (view_at (word, touch) value hook s' None) (here_writes s e)
      (freezes_write (at_freeze x s')) mounts levels
      (goes_to s s' e fit) n stand kind owner
      (subst (HasPosition (w.views t).phase) before (here_stands s e)) after (same ∙ sym (here_tree s e)) happens adds holding

  -- the view after the lock was tried, which left this in `umount`, with this step to come
  abbrev tried : HookAnswer → ℕ → FreezeStep → View
  tried hook n s =
      let event : Event = record { word = WordName.Umount; touch = Touch.Cas 0 (x.task + 1); found = w.words.umount; left = n } in
      record (w.views t) {
        phase = Some (Phase.Freezes (at_freeze x s));
        events = event ∷ (w.views t).events;
        trace = record { event = event; hook = hook } ∷ (w.views t).trace;
      }

  -- the lock is tried, and this step comes
  tries : (s s' : FreezeStep) (e : IsHere s) (n : ℕ) (hook : HookAnswer) (stand : Option LevelPosition) (kind : StageEvent) →
      let v : View = tried hook n s' in
      FreezeFits c x.holder s' → OwnerHolds c.tasks n w.words.remount (λ y. (update w.views t v y).phase) →
      freeze_position s ≡ stand → freeze_position s' ≡ stand → freeze_tree_role x.nodes s' ≡ freeze_tree_role x.nodes s →
      IsStageEvent c w good t lt (record w.words { umount = n }) v kind → stage_action_of kind (stages_in w) ≡ None →
      freeze_holder_role s' ≡ freeze_holder_role s → WriterLaw c w t (record w.words { umount = n }) v None
  tries s s' e n hook stand kind fit owner before after same happens adds holder =
      writer_beside c w good t lt (tried hook n s') (here_writes s e) (freezes_write (at_freeze x s')) (assumption)
      (record { held_same = refl; added_same = refl; taken_same = refl }) (goes_to s s' e fit) n stand kind owner
      (subst (HasPosition (w.views t).phase) before (here_stands s e))
      (subst (HasPosition (Some (Phase.Freezes (at_freeze x s')))) after (freeze_stands (at_freeze x s'))) (same ∙ sym (here_tree s e)) happens adds
      (holders_stay c w good t lt (record w.words { umount = n }) (tried hook n s') refl refl (holder ∙ sym (ap holder_role_of e)))

  -- in vain: the same step comes again
  tries_again : (s : FreezeStep) (e : IsHere s) (hook : HookAnswer) → FreezeFits c x.holder s →
      WriterLaw c w t w.words (tried hook w.words.umount s) None
  tries_again s e hook fit =
      let v : View = tried hook w.words.umount s in
      tries s s e w.words.umount hook (freeze_position s) Stays fit
      (owner_stays c w good t lt v (here_writes s e) (freezes_write (at_freeze x s)) w.words refl refl (sym (ap owns e))) refl refl refl
      (stays_there c w good t lt w.words v (assumption) (sym (ap stage_role_of e))) refl refl

  pub locks : (hook : HookAnswer) → IsHere FreezeStep.Locks → Keeps hook FreezeStep.Locks
  locks hook e =
      let f : FitsHere FreezeStep.Locks = here_fits FreezeStep.Locks e in
      elim (eqb_tells w.words.umount 0) [
        | inl h ↦ rw h.0 (
            let v : View = tried hook (x.task + 1) FreezeStep.LoadsStage in
            tries FreezeStep.Locks FreezeStep.LoadsStage e (x.task + 1) hook None LocksStage tt
            (lock_taken c w good t lt v (here_writes FreezeStep.Locks e) (freezes_write (at_freeze x FreezeStep.LoadsStage)) (x.task + 1) h.1
            (omega (arith, f.0)) refl)
            refl refl refl (ap stage_role_of e, nobody_owns c w good h.1, refl) refl refl)
        | inr h ↦ rw h.0 (tries_again FreezeStep.Locks e hook tt)
      ]

  -- takes it again, with level 1 closed
  pub locks_again : (hook : HookAnswer) → IsHere FreezeStep.LocksAgain → Keeps hook FreezeStep.LocksAgain
  locks_again hook e =
      let f : FitsHere FreezeStep.LocksAgain = here_fits FreezeStep.LocksAgain e in
      elim (eqb_tells w.words.umount 0) [
        | inl h ↦ rw h.0 (
            let v : View = tried hook (x.task + 1) FreezeStep.SetsPageFault in
            tries FreezeStep.LocksAgain FreezeStep.SetsPageFault e (x.task + 1) hook (Some (closed_to 1)) (LocksStageAgain 1 (HasPassed 0)) tt
            (lock_taken c w good t lt v (here_writes FreezeStep.LocksAgain e) (freezes_write (at_freeze x FreezeStep.SetsPageFault)) (x.task + 1) h.1
            (omega (arith, f.0)) refl)
            refl refl refl (ap stage_role_of e, nobody_owns c w good h.1, refl) refl refl)
        | inr h ↦ rw h.0 (tries_again FreezeStep.LocksAgain e hook tt)
      ]

  -- or with level 1 given up
  pub locks_to_undo : (hook : HookAnswer) (code : ℕ) → IsHere (FreezeStep.LocksToUndo code) → Keeps hook (FreezeStep.LocksToUndo code)
  locks_to_undo hook code e =
      let s : FreezeStep = FreezeStep.LocksToUndo code in
      let s' : FreezeStep = FreezeStep.GivesUp 1 code in
      let f : FitsHere s = here_fits s e in
      elim (eqb_tells w.words.umount 0) [
        | inl h ↦ rw h.0 (
            let v : View = tried hook (x.task + 1) s' in
            tries s s' e (x.task + 1) hook (Some (open_from 1)) (LocksStageAgain 1 Before) (omega arith, omega arith)
            (lock_taken c w good t lt v (here_writes s e) (freezes_write (at_freeze x s')) (x.task + 1) h.1
            (omega (arith, f.0)) refl)
            refl refl refl (ap stage_role_of e, nobody_owns c w good h.1, refl) refl refl)
        | inr h ↦ rw h.0 (tries_again s e hook tt)
      ]

  pub unlocks : (hook : HookAnswer) → IsHere FreezeStep.Unlocks → Keeps hook FreezeStep.Unlocks
  unlocks hook e =
      let f : FitsHere FreezeStep.Unlocks = here_fits FreezeStep.Unlocks e in
      let s' : FreezeStep = freeze_closes x 1 in
      let v : View = view_at (WordName.Umount, Touch.Store 0) w.words.umount hook s' None in
      beside FreezeStep.Unlocks s' e 0 w.words.umount WordName.Umount (Touch.Store 0) hook None (LetsGo 1 Before) (assumption)
      (record { held_same = refl; added_same = refl; taken_same = refl }) (omega arith, omega arith, f.1, f.2, tt, tt)
      (lock_given c w good t lt v (here_writes FreezeStep.Unlocks e) (freezes_write (at_freeze x s')) (ap owns e) refl)
      refl (closing_first (Some (Phase.Freezes (at_freeze x s'))) x.tasks x.processors (freeze_stands (at_freeze x s')))
      refl (ap stage_role_of e, refl) refl
      (holders_stay c w good t lt (record w.words { umount = 0 }) v refl refl (sym (ap holder_role_of e)))

  -- gives it back at the end
  pub releases : (hook : HookAnswer) (answer : Result Reply GateError) → IsHere (FreezeStep.Releases answer) → Keeps hook (FreezeStep.Releases answer)
  releases hook answer e =
      let s : FreezeStep = FreezeStep.Releases answer in
      let v : View = view_with (w.views t) (WordName.Umount, Touch.Store 0) w.words.umount hook (Next.Done answer, None) in
      writer_beside c w good t lt v (here_writes s e) idle_writes (assumption)
      (record { held_same = refl; added_same = refl; taken_same = refl }) tt 0 None (ReleasesStage None None)
      (lock_given c w good t lt v (here_writes s e) idle_writes (ap owns e) refl)
      (here_stands s e) idle_stands (sym (here_tree s e)) (ap stage_role_of e, refl) refl
      (holders_stay c w good t lt (record w.words { umount = 0 }) v refl refl (sym (ap holder_role_of e)))

  -- a load by the owner, after which this step comes
  loads : (hook : HookAnswer) (word : WordName) (value : ℕ) (s s' : FreezeStep) (e : IsHere s) (kind : StageEvent) →
      let v : View = view_at (word, Touch.Load) value hook s' None in
      freeze_owns s ≡ 1 → freeze_owns s' ≡ 1 →
      freeze_position s ≡ None → freeze_position s' ≡ None → freeze_tree_role x.nodes s' ≡ freeze_tree_role x.nodes s →
      FreezeFits c x.holder s' → SameAtMounts (w.views t) v → SameLevelCounts (w.views t) v →
      IsStageEvent c w good t lt w.words v kind → stage_action_of kind (stages_in w) ≡ None →
      Holds c (left_world w t w.words v) Holding → WriterLaw c w t w.words v None
  loads hook word value s s' e kind o o' before after same fit mounts levels happens adds holding =
      let v : View = view_at (word, Touch.Load) value hook s' None in
      beside s s' e w.words.umount value word Touch.Load hook None kind mounts levels fit
      (owner_stays c w good t lt v (here_writes s e) (freezes_write (at_freeze x s')) w.words refl refl (o' ∙ sym (ap owns e ∙ o)))
      before (subst (HasPosition (Some (Phase.Freezes (at_freeze x s')))) after (freeze_stands (at_freeze x s'))) same happens adds holding

  still : (s s' : FreezeStep) → IsHere s → (word : WordName) (value : ℕ) (hook : HookAnswer) →
      freeze_holder_role s' ≡ freeze_holder_role s → Holds c (left_world w t w.words (view_at (word, Touch.Load) value hook s' None)) Holding
  still s s' e word value hook same =
      holders_stay c w good t lt w.words (view_at (word, Touch.Load) value hook s' None) refl refl (same ∙ sym (ap holder_role_of e))

  -- an owner that found a word so relies on it
  finds : (s : FreezeStep) (e : IsHere s) (v : View) (kind : StageEvent) → (found value : ℕ) → found ≡ value → (role : ℕ → StageRole) →
      Happens c.tasks c.nodes t (stages_in w) (playing (stages_in w) t (role found)) kind →
      stage_role_of v.phase ≡ role value → IsStageEvent c w good t lt w.words v kind
  finds s e v kind found value same role h is =
      subst (λ r. Happens c.tasks c.nodes t (stages_in w) (playing (stages_in w) t r) kind) (ap role same ∙ sym is) h

  pub loads_stage : (hook : HookAnswer) → IsHere FreezeStep.LoadsStage → Keeps hook FreezeStep.LoadsStage
  loads_stage hook e =
      elim (eqb_tells w.words.stage 0) [
        | inl h ↦ rw h.0 (loads hook WordName.Stage w.words.stage FreezeStep.LoadsStage FreezeStep.LoadsSuperblock e
            (FindsStage None None) refl refl refl refl refl tt
            (record { held_same = refl; added_same = refl; taken_same = refl })
            (record { held_same = refl; added_same = refl; taken_same = refl })
            (finds FreezeStep.LoadsStage e (view_at (WordName.Stage, Touch.Load) w.words.stage hook FreezeStep.LoadsSuperblock None)
            (FindsStage None None) w.words.stage 0
            h.1 (λ n. Owning (Some n) None) (ap stage_role_of e, refl) refl) refl
            (still FreezeStep.LoadsStage FreezeStep.LoadsSuperblock e WordName.Stage w.words.stage hook refl))
        | inr h ↦ elim (eqb_tells w.words.stage 4) [
          | inl k ↦ rw (h.0, k.0)
              (loads hook WordName.Stage w.words.stage FreezeStep.LoadsStage FreezeStep.LoadsHolders e (FindsStage None None) refl refl refl refl
              refl tt (assumption) (record { held_same = refl; added_same = refl; taken_same = refl })
              (finds FreezeStep.LoadsStage e (view_at (WordName.Stage, Touch.Load) w.words.stage hook FreezeStep.LoadsHolders None)
              (FindsStage None None) w.words.stage 4
              k.1 (λ n. Owning (Some n) None) (ap stage_role_of e, refl) refl) refl
              (still FreezeStep.LoadsStage FreezeStep.LoadsHolders e WordName.Stage w.words.stage hook refl))
          | inr k ↦ rw (h.0, k.0)
              (loads hook WordName.Stage w.words.stage FreezeStep.LoadsStage (FreezeStep.Releases (Err GateError.Busy)) e Stays refl refl refl refl refl tt
              (record { held_same = refl; added_same = refl; taken_same = refl })
              (record { held_same = refl; added_same = refl; taken_same = refl })
              (stays_there c w good t lt w.words (view_at (WordName.Stage, Touch.Load) w.words.stage hook (FreezeStep.Releases (Err GateError.Busy)) None)
              (assumption)
              (sym (ap stage_role_of e))) refl (still FreezeStep.LoadsStage
              (FreezeStep.Releases (Err GateError.Busy)) e WordName.Stage w.words.stage hook refl))
        ]
      ]

  pub loads_holders : (hook : HookAnswer) → IsHere FreezeStep.LoadsHolders → Keeps hook FreezeStep.LoadsHolders
  loads_holders hook e =
      let k : (w.words.stage ≡ 4) × Unit {0} = here_knows FreezeStep.LoadsHolders e in
      let held : Holders = holders_in w.words.holders in
      let none : total c.tasks (λ y. minds (holder_roles w y)) ≡ 0 =
      nobody_minds c w good t lt (ap owns e) (ap (λ p. minds (holder_role_of p)) e) in
      let some : is_unheld held ≡ false = finds_some c.tasks (holders_at w) (good Holding) t lt k.0 none in
      found_cases x held (λ s'. WriterLaw c w t w.words (view_at (WordName.Holders, Touch.Load) w.words.holders hook s' None) None)
      (λ own. loads hook WordName.Holders w.words.holders FreezeStep.LoadsHolders (FreezeStep.Releases (Err GateError.Busy)) e
      (Recalls (Owning (Some 4) None) (Owning None None))
      refl refl refl refl refl tt (assumption) (record { held_same = refl; added_same = refl; taken_same = refl })
      (ap stage_role_of e, owners_alike (Some 4) None None None, (tt, tt), (λ m l. absurd (omega (arith, l))), refl) refl
      (still FreezeStep.LoadsHolders (FreezeStep.Releases (Err GateError.Busy)) e WordName.Holders w.words.holders hook refl))
      (λ other. loads hook WordName.Holders w.words.holders FreezeStep.LoadsHolders (FreezeStep.Holds held) e Stays refl refl refl refl refl other (assumption)
      (record { held_same = refl; added_same = refl; taken_same = refl })
      (stays_there c w good t lt w.words (view_at (WordName.Holders, Touch.Load) w.words.holders hook (FreezeStep.Holds held) None) (assumption)
      (sym (ap stage_role_of e))) refl
      (holders_after c w good t lt w.words (view_at (WordName.Holders, Touch.Load) w.words.holders hook (FreezeStep.Holds held) None) Finds (
        ap holder_role_of e,
        k.0,
        none,
        λ j. record {
          stage = w.words.stage;
          holders = w.words.holders;
          at = update (holder_roles w) t (if some j then Fills else Found held);
        },
      )))

  -- the owner's store of its holder beside these
  hold_law : (hook : HookAnswer) (beside : Holders) (e : IsHere (FreezeStep.Holds beside)) → holders_in w.words.holders ≡ beside →
      let n : ℕ = word_of (with_holder x.holder true beside) in
      let v : View = view_at (WordName.Holders, Touch.Store n) w.words.holders hook (FreezeStep.Releases (Ok Reply.Unit)) (Some (Action.Hold x.holder)) in
      Holds c (left_world w t (record w.words { holders = n }) v) Holding → Keeps hook (FreezeStep.Holds beside)
  hold_law hook beside e is holding =
      let n : ℕ = word_of (with_holder x.holder true beside) in
      let s' : FreezeStep = FreezeStep.Releases (Ok Reply.Unit) in
      let v : View = view_at (WordName.Holders, Touch.Store n) w.words.holders hook s' (Some (Action.Hold x.holder)) in
      let now : IsWriter v.phase = freezes_write (at_freeze x s') in
      let f : FitsHere (FreezeStep.Holds beside) = here_fits (FreezeStep.Holds beside) e in
      writer_holds c w good t lt v (here_writes (FreezeStep.Holds beside) e) now (assumption)
      (record { held_same = refl; added_same = refl; taken_same = refl })
      (goes_to (FreezeStep.Holds beside) s' e tt) n (Action.Hold x.holder) None (HoldsOne x.holder None (Owning None None))
      (owner_stays c w good t lt v (here_writes (FreezeStep.Holds beside) e) now w.words refl refl (sym (ap owns e)))
      (here_stands (FreezeStep.Holds beside) e) (freeze_stands (at_freeze x s')) (sym (here_tree (FreezeStep.Holds beside) e))
      (ap stage_role_of e, owners_alike (Some 4) None None None, (tt, tt), (λ m l. absurd (omega (arith, l))), refl)
      refl (ap (λ k. held_by k x.holder) is ∙ f.5)
      (record {
        mounts_same = refl;
        levels_same = refl;
        opens_same = refl;
        ro_same = refl;
        tree_same = refl;
        holders_same = ap (with_holder x.holder true) is ∙ sym (unpack_pack (with_holder x.holder true beside));
      })
      holding

  pub holds : (hook : HookAnswer) (beside : Holders) → IsHere (FreezeStep.Holds beside) → Keeps hook (FreezeStep.Holds beside)
  holds hook beside e =
      let n : ℕ = word_of (with_holder x.holder true beside) in
      let v : View = view_at (WordName.Holders, Touch.Store n) w.words.holders hook (FreezeStep.Releases (Ok Reply.Unit)) (Some (Action.Hold x.holder)) in
      let roles = roles_tell c.tasks t (holders_at w) (good Holding) lt in
      both (is_unheld beside) (λ b. Keeps hook (FreezeStep.Holds beside))
      (λ none.
      let role : holder_role_of (w.views t).phase ≡ Fills =
      ap holder_role_of e ∙ ap {B = HolderRole} (λ b. if b then Fills else Found beside) none in
      let empty : w.words.holders ≡ 0 = (roles.0 (ap between role)).0 in
      hold_law hook beside e (ap holders_in empty ∙ sym (is_nobody beside none))
      (holders_after c w good t lt (record w.words { holders = n }) v (HoldsFirst x.holder) (
        role,
        λ j. record {
          stage = w.words.stage;
          holders = word_of (with_holder x.holder true (is_nobody beside none j));
          at = update (holder_roles w) t Apart;
        },
      )))
      (λ some.
      let role : holder_role_of (w.views t).phase ≡ Found beside =
      ap holder_role_of e ∙ ap {B = HolderRole} (λ b. if b then Fills else Found beside) some in
      hold_law hook beside e (roles.1 beside role).0
      (holders_after c w good t lt (record w.words { holders = n }) v (Joins x.holder beside) (role, refl)))

  pub loads_superblock : (hook : HookAnswer) → IsHere FreezeStep.LoadsSuperblock → Keeps hook FreezeStep.LoadsSuperblock
  loads_superblock hook e =
      elim (eqb_tells w.words.sb 0) [
        | inl h ↦ rw h.0 (loads hook WordName.SbFlags w.words.sb FreezeStep.LoadsSuperblock FreezeStep.SetsWrite e
            (LoadsSb (Some 0) None) refl refl refl refl refl tt
            (record { held_same = refl; added_same = refl; taken_same = refl })
            (record { held_same = refl; added_same = refl; taken_same = refl })
            (finds FreezeStep.LoadsSuperblock e (view_at (WordName.SbFlags, Touch.Load) w.words.sb hook FreezeStep.SetsWrite None)
            (LoadsSb (Some 0) None) w.words.sb 0 h.1
            (λ n. Owning (Some 0) (Some n)) (ap stage_role_of e, refl) refl) refl
            (still FreezeStep.LoadsSuperblock FreezeStep.SetsWrite e WordName.SbFlags w.words.sb hook refl))
        | inr h ↦ rw h.0 (loads hook WordName.SbFlags w.words.sb FreezeStep.LoadsSuperblock FreezeStep.CompletesReadOnly e
            (LoadsSb (Some 0) None) refl refl refl refl refl
            tt (record { held_same = refl; added_same = refl; taken_same = refl }) (assumption)
            (finds FreezeStep.LoadsSuperblock e (view_at (WordName.SbFlags, Touch.Load) w.words.sb hook FreezeStep.CompletesReadOnly None)
            (LoadsSb (Some 0) None) w.words.sb
            1 (omega (arith, h.1, (good Stages).superblock)) (λ n. Owning (Some 0) (Some n)) (ap stage_role_of e, refl) refl) refl
            (still FreezeStep.LoadsSuperblock FreezeStep.CompletesReadOnly e WordName.SbFlags w.words.sb hook refl))
      ]
