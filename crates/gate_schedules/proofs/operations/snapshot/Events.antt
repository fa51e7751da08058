-- The law of each step of a snapshot.
use Rattle.gate_schedules.proofs.Prelude.{AtLevel, AtMount, Bool, Config, Err, Files, Fits, Fitting, GateError, Holding, Holds, HookAnswer, IsGood}
use Rattle.gate_schedules.proofs.Prelude.{IsWithin, Known, KnowsStage, List, Next, None, Option, Owner, Owning, Part, Phase, PhaseFits, Reply, Result}
use Rattle.gate_schedules.proofs.Prelude.{SameDuties, Sections, Snapshot, SnapshotStep, Some, StageRole, Stages, StepKeeps, SyncAt, Traced, Tree}
use Rattle.gate_schedules.proofs.Prelude.{TreePhase, View, WordName, Words, World, after_step, ap, arith, common_steps, eqb_tells, false, found_by}
use Rattle.gate_schedules.proofs.Prelude.{held_of, if◌then◌else◌, inl, inr, map_next, marks_of, node_after, owns, phase_after, playing, put, read}
use Rattle.gate_schedules.proofs.Prelude.{refl, remounts, role_after, snapshot_next, stage_role_of, stage_roles, subst, suc, sym, tree_bounds}
use Rattle.gate_schedules.proofs.Prelude.{tree_role_of, true, update, values_noted, view_with, ℕ, ◌<◌, ◌==◌, ◌∙◌, ◌≡◌}
use Rattle.freeze_laws.specs.stages.Events.{Locks as LocksStage, Recalls, Releases as ReleasesStage, Stages as StageMoment}
use Rattle.freeze_laws.specs.stages.Roles.{Aside, clean_by, owns as stage_owns}
use Rattle.gate_world.specs.Roles.{snapshot_stage_role, stage_at_end}
use Rattle.gated_tree.specs.{Calls.phase_role, Phases.{at_snapshot, kids_step, snapshot_after, snapshot_locked_out}}
use Rattle.gate_schedules.proofs.frames.{ByPhase.snapshot_owner, Frames.left_alone, Known.{IsOwnersWork, known_after}, OperationLaws.by_bool}
use Rattle.gate_schedules.proofs.frames.{Owners.{locks_umount, releases_umount}, Snapshots.noted_part, Stages.{alike_same, nobody_owns, owners_alike}}
use Rattle.gate_schedules.proofs.{frames.{Stages.{stages_after, stages_in}, Words.load_same}, operations.snapshot.Noted.notes_step}
use Rattle.gate_schedules.proofs.trees.worlds.Parts.{TreeKeeps, call_files, call_fitting, call_keeps, call_moves, call_parts, call_view}
use Rattle.gate_schedules.specs.trees.Steps.{words_left}

-- the words but `umount`
abbrev off_umount : Words → Words
off_umount w = record w { umount = 0 }

-- are as they were after each step of a snapshot
event_beside : (w : Words) (x : Snapshot) (s : SnapshotStep) → off_umount (words_left w (snapshot_next x s)) ≡ off_umount w
event_beside w x s = grind arith

-- What comes after it is the same snapshot at another step, or it is done.
module _ (x : Snapshot) (P : Next Snapshot → Type 0) (go : (s : SnapshotStep) → P (Next.Go (at_snapshot x s)))
    (wait : P (Next.Wait (at_snapshot x SnapshotStep.Locks))) (done : (answer : Result Reply GateError) → P (Next.Done answer)) where
  snapshot_comes : (s : SnapshotStep) (found : ℕ) → P (snapshot_after x s found).0
  snapshot_comes s found = grind (arith, common_steps)

-- what comes after a step, among all phases
abbrev later : Next Snapshot → Option Phase
later n = phase_after (map_next Phase.Trees (map_next TreePhase.Snapshot n))

kids_step_role : (o : Option ℕ) → snapshot_stage_role (kids_step o) ≡ Owning (Some 4) None
kids_step_role o = grind arith

locked_out_role : (x : Snapshot) (b : Bool) → stage_role_of (later (snapshot_locked_out x b)) ≡ Aside
locked_out_role x true = refl
locked_out_role x false = refl

locked_out_owns : (x : Snapshot) (b : Bool) → owns (later (snapshot_locked_out x b)) ≡ 0
locked_out_owns x true = refl
locked_out_owns x false = refl

-- the role after a load of a node, whatever it found
node_role : (x : Snapshot) (n found : ℕ) → stage_role_of (later (snapshot_after x (SnapshotStep.LoadsNode n) found).0) ≡ Owning (Some 4) None
node_role x n found = grind arith

-- who owns by its stage owns
later_owns : (x : Snapshot) (s : SnapshotStep) (found : ℕ) →
    owns (later (snapshot_after x s found).0) ≡ stage_owns (stage_role_of (later (snapshot_after x s found).0))
later_owns x s found =
    snapshot_comes x (λ n. owns (later n) ≡ stage_owns (stage_role_of (later n))) (λ s'. sym (snapshot_owner s')) refl (λ answer. refl) s found

module _ (c : Config) (within : IsWithin c) (w : World) (good : IsGood c w) (t : ℕ) (lt : t < c.tasks) (hook : HookAnswer)
    (x : Snapshot) where
  -- the task is at this step of the snapshot
  abbrev IsHere : SnapshotStep → Type 0
  IsHere s = (w.views t).phase ≡ Some (Phase.Trees (TreePhase.Snapshot (at_snapshot x s)))

  -- what its step finds
  abbrev found_here : SnapshotStep → ℕ
  found_here s = found_by (snapshot_next x s).1 (read w.words (snapshot_next x s).0)

  -- what comes after it
  abbrev next_here : SnapshotStep → Next Snapshot
  next_here s = (snapshot_after x s (found_here s)).0

  -- the words after it
  abbrev words_here : SnapshotStep → Words
  words_here s = words_left w.words (snapshot_next x s)

  -- and the task's view, without a snapshot that it completes
  abbrev view_here : SnapshotStep → View
  view_here s =
      view_with (w.views t) (snapshot_next x s) (read w.words (snapshot_next x s).0) hook
      (map_next Phase.Trees (map_next TreePhase.Snapshot (next_here s)), (snapshot_after x s (found_here s)).1)

  abbrev world_here : SnapshotStep → World
  world_here s = record { words = words_here s; views = update w.views t (view_here s) }

  -- the stage then, where the task plays this role
  moment_here : (s : SnapshotStep) (r : StageRole) → stage_role_of (view_here s).phase ≡ r →
      ◌≡◌ {A = StageMoment} (record {
        stage = (words_here s).stage;
        sb = (words_here s).sb;
        remount = (words_here s).remount;
        block = (words_here s).block;
        dirty = marks_of (words_here s);
        at = update (stage_roles w) t (stage_role_of (view_here s).phase);
      }) (playing (stages_in w) t r)
  moment_here s r is = grind (arith, common_steps)

  -- the invariant of the stage after a step that leaves the task's part in it, but for what it relies on
  recalls : (s : SnapshotStep) → IsHere s → (r : StageRole) → stage_role_of (view_here s).phase ≡ r → SameDuties (snapshot_stage_role s) r →
      KnowsStage w.words.stage w.words.sb r → clean_by r ≡ 0 → Holds c (world_here s) Stages
  recalls s e r is alike knows none =
      stages_after c w good t lt (words_here s) (view_here s) (Recalls (snapshot_stage_role s) r)
      (ap stage_role_of e, alike, knows, λ m l. absurd (omega (arith, l, none)), moment_here s r is)

  -- what it relies on is so
  here_knows : (s : SnapshotStep) → IsHere s → KnowsStage w.words.stage w.words.sb (snapshot_stage_role s)
  here_knows s e = subst (λ p. KnowsStage w.words.stage w.words.sb (stage_role_of p)) e ((good Stages).knows t lt)

  stage_law : (s : SnapshotStep) → IsHere s → Holds c (world_here s) Stages
  stage_law SnapshotStep.Locks e =
      elim (eqb_tells w.words.umount 0) [
        | inl h ↦ stages_after c w good t lt (words_here SnapshotStep.Locks) (view_here SnapshotStep.Locks) LocksStage
            (ap stage_role_of e, nobody_owns c w good h.1, moment_here SnapshotStep.Locks (Owning None None) (rw h.0 refl))
        | inr h ↦ recalls SnapshotStep.Locks e Aside (rw h.0 (locked_out_role x x.wait)) (alike_same Aside) tt refl
      ]
  stage_law SnapshotStep.LoadsStage e =
      elim (eqb_tells w.words.stage 4) [
        | inl h ↦ recalls SnapshotStep.LoadsStage e (Owning (Some 4) None) (rw h.0 refl) (owners_alike None None (Some 4) None) (h.1, tt) refl
        | inr h ↦ recalls SnapshotStep.LoadsStage e (Owning None None) (rw h.0 refl) (owners_alike None None None None) (tt, tt) refl
      ]
  stage_law SnapshotStep.LoadsUsed e =
      recalls SnapshotStep.LoadsUsed e (Owning (Some 4) None) refl (owners_alike (Some 4) None (Some 4) None) (here_knows SnapshotStep.LoadsUsed e) refl
  stage_law (SnapshotStep.LoadsNode n) e =
      recalls (SnapshotStep.LoadsNode n) e (Owning (Some 4) None) (node_role x n (found_here (SnapshotStep.LoadsNode n)))
      (owners_alike (Some 4) None (Some 4) None)
      (here_knows (SnapshotStep.LoadsNode n) e) refl
  stage_law (SnapshotStep.LoadsKids n) e =
      recalls (SnapshotStep.LoadsKids n) e (Owning (Some 4) None) (kids_step_role (node_after n x.nodes)) (owners_alike (Some 4) None (Some 4) None)
      (here_knows (SnapshotStep.LoadsKids n) e) refl
  stage_law (SnapshotStep.Releases answer) e =
      stages_after c w good t lt (words_here (SnapshotStep.Releases answer)) (view_here (SnapshotStep.Releases answer))
      (ReleasesStage (stage_at_end answer) None)
      (ap stage_role_of e, moment_here (SnapshotStep.Releases answer) Aside refl)

  later_remounts : (s : SnapshotStep) → IsHere s → remounts (view_here s).phase ≡ remounts (w.views t).phase
  later_remounts s e =
      snapshot_comes x (λ n. remounts (later n) ≡ 0) (λ s'. refl) refl (λ answer. refl) s (found_here s) ∙ sym (ap remounts e)

  load_owner : (s : SnapshotStep) → IsHere s → (words_here s).umount ≡ w.words.umount → owns (view_here s).phase ≡ owns (w.views t).phase →
      Holds c (world_here s) Owner
  load_owner s e umount own =
      left_alone c w t lt Owner (words_here s) (view_here s) (umount, λ j. (event_beside w.words x s j).remount)
      (own, later_remounts s e) (good Owner)

  umount_left : (name : WordName) → (put w.words name (read w.words name)).umount ≡ w.words.umount
  umount_left name = ap (λ (ws : Words). ws.umount) (load_same w.words name)

  owner_law : (s : SnapshotStep) → IsHere s → x.task ≡ t → Holds c (world_here s) Owner
  owner_law SnapshotStep.Locks e own =
      elim (eqb_tells w.words.umount 0) [
        | inl h ↦
            let mine : (words_here SnapshotStep.Locks).umount ≡ suc t = rw h.0 (omega (arith, own)) in
            locks_umount c w good t lt (words_here SnapshotStep.Locks).umount (view_here SnapshotStep.Locks) h.1 mine (rw h.0 refl)
            (later_remounts SnapshotStep.Locks e)
        | inr h ↦ load_owner SnapshotStep.Locks e (rw h.0 refl) (rw h.0 (locked_out_owns x x.wait) ∙ sym (ap owns e))
      ]
  owner_law SnapshotStep.LoadsStage e own =
      load_owner SnapshotStep.LoadsStage e (umount_left WordName.Stage)
      (by_bool (w.words.stage == 4)
      (λ b. owns (later (if b then Next.Go (at_snapshot x SnapshotStep.LoadsUsed)
      else Next.Go (at_snapshot x (SnapshotStep.Releases (Err GateError.Invalid))))) ≡ 1) refl refl ∙
      sym (ap owns e))
  owner_law SnapshotStep.LoadsUsed e own = load_owner SnapshotStep.LoadsUsed e (umount_left WordName.Used) (sym (ap owns e))
  owner_law (SnapshotStep.LoadsNode n) e own =
      load_owner (SnapshotStep.LoadsNode n) e (umount_left (WordName.Node n))
      (later_owns x (SnapshotStep.LoadsNode n) (found_here (SnapshotStep.LoadsNode n)) ∙ ap stage_owns
      (node_role x n (found_here (SnapshotStep.LoadsNode n))) ∙ sym (ap owns e))
  owner_law (SnapshotStep.LoadsKids n) e own =
      load_owner (SnapshotStep.LoadsKids n) e (umount_left (WordName.Kids n)) (later_owns x (SnapshotStep.LoadsKids n)
      (found_here (SnapshotStep.LoadsKids n)) ∙ ap stage_owns (kids_step_role (node_after n x.nodes)) ∙ sym (ap owns e))
  owner_law (SnapshotStep.Releases answer) e own =
      releases_umount c w good t lt (view_here (SnapshotStep.Releases answer)) (ap owns e) refl (later_remounts (SnapshotStep.Releases answer) e)

-- What comes after a step is at the same loads of the tree, in the laws of the tree and here.
later_role : (x : Snapshot) (s : SnapshotStep) (found : ℕ) (trace : List Traced) →
    role_after (phase_role (values_noted x.nodes trace)) (map_next TreePhase.Snapshot (snapshot_after x s found).0) ≡
    tree_role_of trace (later (snapshot_after x s found).0)
later_role x s found trace = grind (arith, common_steps)

-- The law of the step to come.
module _ (c : Config) (within : IsWithin c) (w : World) (good : IsGood c w) (t : ℕ) (lt : t < c.tasks) (hook : HookAnswer)
    (x : Snapshot) (e : (w.views t).phase ≡ Some (Phase.Trees (TreePhase.Snapshot x))) where
  fits_now : PhaseFits c t (held_of (w.views t)) (Phase.Trees (TreePhase.Snapshot x))
  fits_now = subst (Fits c t (held_of (w.views t))) e (good Fitting t lt)

  -- the tree holds after it, with what it has loaded noted
  tree_kept : TreeKeeps c within w good t lt (TreePhase.Snapshot x) hook e
  tree_kept =
      let trace : List Traced = (call_view c within w good t lt (TreePhase.Snapshot x) hook e).trace in
      call_keeps c within w good t lt (TreePhase.Snapshot x) hook e (values_noted x.nodes trace)
      (notes_step (tree_bounds c) x x.step fits_now.0.1 fits_now.0.2 (w.views t).trace (read w.words (snapshot_next x x.step).0) hook)
      (later_role x x.step (found_here c within w good t lt hook x x.step) trace)

  owners_work : IsOwnersWork w (Phase.Trees (TreePhase.Snapshot x)) hook
  owners_work = grind arith

  each_part : (part : Part) → Holds c (after_step w t (Phase.Trees (TreePhase.Snapshot x)) hook) part
  each_part Owner =
      noted_part c w t (Phase.Trees (TreePhase.Snapshot x)) hook Owner (owner_law c within w good t lt hook x x.step e fits_now.0.0)
  each_part Stages = noted_part c w t (Phase.Trees (TreePhase.Snapshot x)) hook Stages (stage_law c within w good t lt hook x x.step e)
  each_part Holding = call_parts c within w good t lt (TreePhase.Snapshot x) hook e Holding refl
  each_part Fitting = call_fitting c within w good t lt (TreePhase.Snapshot x) hook e
  each_part Known = known_after c w t (Phase.Trees (TreePhase.Snapshot x)) hook good lt e owners_work
  each_part Tree = tree_kept.0
  each_part Files = call_files c within w good t lt (TreePhase.Snapshot x) hook e tree_kept
  each_part (AtMount m) = call_parts c within w good t lt (TreePhase.Snapshot x) hook e (AtMount m) refl
  each_part (AtLevel i) = call_parts c within w good t lt (TreePhase.Snapshot x) hook e (AtLevel i) refl
  each_part (SyncAt i) = call_parts c within w good t lt (TreePhase.Snapshot x) hook e (SyncAt i) refl
  each_part Sections = call_parts c within w good t lt (TreePhase.Snapshot x) hook e Sections refl

pub snapshot_step : (c : Config) → IsWithin c → (w : World) → IsGood c w → (t : ℕ) → t < c.tasks → (hook : HookAnswer) (x : Snapshot) →
    (w.views t).phase ≡ Some (Phase.Trees (TreePhase.Snapshot x)) → StepKeeps c w t hook (Phase.Trees (TreePhase.Snapshot x))
snapshot_step c within w good t lt hook x e = (
  each_part c within w good t lt hook x e,
  call_moves c within w good t lt (TreePhase.Snapshot x) hook e (tree_kept c within w good t lt hook x e),
)
