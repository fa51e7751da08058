-- The steps of a freeze on nodes and on the words of a level that it reopens, and all of its steps as one law.
use Rattle.gate_schedules.proofs.Prelude.{Action, Apart, ClearMarks, Clearing, Config, Freeze, FreezeFits, FreezeStep, Freezing, Holdings, Holds}
use Rattle.gate_schedules.proofs.Prelude.{HookAnswer, IsGood, IsWithin, Next, None, Option, Phase, Some, StepKeeps, Thaw, ThawStep, Touch, Tree}
use Rattle.gate_schedules.proofs.Prelude.{TreeState, UpWrite, View, ViewFits, WordName, Words, World, ap, arith, at_freeze, cases_Bool, closed_to}
use Rattle.gate_schedules.proofs.Prelude.{dirty_in, each_updated, eqb_tells, false, found_by, freeze_stage_role, held_of, holder_role_of, inl, inr}
use Rattle.gate_schedules.proofs.Prelude.{ltb-false, ltb-true, map_next, marks_of, model_limits, nat_lt, node_shown, opens_in, owns, phase_after}
use Rattle.gate_schedules.proofs.Prelude.{read, refl, rephased, shown, stage_role_of, stage_roles, state_after, subst, suc, sym, tree_bounds, tree_of}
use Rattle.gate_schedules.proofs.Prelude.{true, up_write_after, up_write_next, update, update_map, update_same, ℕ, ◌+◌, ◌<◌, ◌∙◌, ◌≡◌}
use Rattle.std.proofs.Common.{option_map}
use Rattle.access_model.specs.{Actions.marked, States.IsFile}
use Rattle.freeze_laws.specs.stages.{Events.{ClearsMark as ClearsMarkStage, cleaned}, Roles.{HasPassed, owns as stage_owns}}
use Rattle.freeze_levels.specs.{Freezes.after_reopening, Thaws.after_opening}
use Rattle.gate_world.specs.{Roles.{freeze_holder_role, freeze_position, freeze_tree_role}, SameRoles.SameRoles}
use Rattle.node_words.{proofs.ClearedMarks.{clean_stays, cleared_shown, clears_mark, without_mark}, specs.Nodes.IsNode}
use Rattle.gate_schedules.proofs.frames.{ByPhase.freeze_owner, Holders.holders_stay, PhaseSubstitution.{alike_of, made_keeps}}
use Rattle.gate_schedules.proofs.{frames.Stages.{IsStageEvent, stages_in}, levels.LevelPositions.{HasPosition, left_world, position_after_opening}}
use Rattle.gate_schedules.proofs.{levels.PositionRoles.levels_stay, operations.freeze.{Closes.closes, Fits.freeze_goes, GivesUp.{undoes, waits}}}
use Rattle.gate_schedules.proofs.operations.freeze.Stages.{FitsHere, IsHere, Keeps, completes_read_only, freeze_stands, gives_up, goes_to, here_fits}
use Rattle.gate_schedules.proofs.operations.freeze.Stages.{here_knows, here_stands, here_tree, here_writes, holds, loads_holders, loads_stage}
use Rattle.gate_schedules.proofs.operations.freeze.Stages.{loads_superblock, locks, locks_again, locks_to_undo, releases, sets_complete, sets_fs}
use Rattle.gate_schedules.proofs.operations.{freeze.Stages.{sets_page_fault, sets_write, unlocks, view_at}, thaw.Events.thaw_keeps}
use Rattle.gate_schedules.proofs.{trees.worlds.Trees.{nobody_reads, tree_after}, writers.{Owner.owner_stays, Parts.{AsksWhere, IsWriter, LeavesRest}}}
use Rattle.gate_schedules.proofs.writers.Parts.{SameAtMounts, WriterLaw, freeze_work, freezes_write, whole_writer, writer_law}
use Rattle.gate_schedules.specs.trees.Events.{Clears, Event, Passes, with_node}

-- and after each step of a reopening
pub stands_then : (x : Freeze) (u : UpWrite) (code found : ℕ) →
    let n : Next UpWrite = (up_write_after u u.step found).0 in
    HasPosition (phase_after (map_next Phase.Freezes (after_reopening x u.level code n))) (position_after_opening u.level n)
stands_then x u code found = grind arith

-- Where a freeze failed, its levels are reopened as by a thaw: a thaw at this step stands with all conjuncts of the invariant as the freeze does.
abbrev as_thaw : Freeze → ThawStep → Thaw
as_thaw x s = record { task = x.task; holder = x.holder; step = s }

-- before a step
reopens_alike : (x : Freeze) (u : UpWrite) (code : ℕ) →
    SameRoles (Some (Phase.Freezes (at_freeze x (FreezeStep.Reopens u code)))) (Some (Phase.Thaws (as_thaw x (ThawStep.Reopens u))))
reopens_alike x u code = refl

next_alike : (x : Freeze) (u : UpWrite) (code : ℕ) (n : Next UpWrite) →
    SameRoles (phase_after (map_next Phase.Thaws (after_opening (as_thaw x (ThawStep.Reopens u)) u.level n)))
    (phase_after (map_next Phase.Freezes (after_reopening x u.level code n)))
next_alike x u code n = grind arith

module _ (c : Config) (lim : IsWithin c) (w : World) (good : IsGood c w) (t : ℕ) (lt : t < c.tasks) (x : Freeze) (hook : HookAnswer) where
  -- the clearing of a node's mark, after which this step comes
  module _ (marks : ClearMarks) (e : IsHere c lim w good t lt x (FreezeStep.Cleans marks)) (s : FreezeStep) (fit : FreezeFits c x.holder s)
      (role : freeze_stage_role x.nodes s ≡ Freezing 2 (HasPassed (suc marks.node)) true)
      (past : freeze_tree_role x.nodes s ≡ Clearing (suc marks.node))
      (stand : freeze_position s ≡ Some (closed_to 2)) (holder : freeze_holder_role s ≡ Apart) where
    abbrev node_word : ℕ
    node_word = w.words.node marks.node

    -- the words after it
    abbrev cleared_words : Words
    cleared_words = record w.words { node = update w.words.node marks.node (without_mark node_word) }

    -- and the view, where this is added
    abbrev cleared_view : Option Action → View
    cleared_view action = view_at c lim w good t lt x (WordName.Node marks.node, Touch.And 18446744073709551611) node_word hook s action

    node_there : IsNode node_word
    node_there =
        let f : FitsHere c lim w good t lt x (FreezeStep.Cleans marks) = here_fits c lim w good t lt x (FreezeStep.Cleans marks) e in
        (good Tree).words marks.node f.5.2

    abbrev cleared_tree : TreeState
    cleared_tree = with_node (tree_of w) marks.node (without_mark node_word) t (Clearing (suc marks.node))

    -- is what is left of it
    tree_cleared : (action : Option Action) → Event (tree_bounds c) (tree_of w) t cleared_tree action →
        Holds c (left_world w t cleared_words (cleared_view action)) Tree
    tree_cleared action event =
        tree_after c w good t lt cleared_words (cleared_view action) lim action
        (subst (λ r. Event (tree_bounds c) (tree_of w) t (with_node (tree_of w) marks.node (without_mark node_word) t r) action) (sym past)
        event)

    -- it is that step of the stage
    mark_happens : (action : Option Action) →
        IsStageEvent c w good t lt cleared_words (cleared_view action) (ClearsMarkStage marks.node)
    mark_happens action = (
      ap stage_role_of e,
      λ j. record (stages_in w) {
        dirty = (update_map dirty_in w.words.node marks.node (without_mark node_word) ∙
            ap (update (marks_of w.words) marks.node) (clears_mark node_word node_there.packed).dirty) j;
        at = update (stage_roles w) t (role j);
      },
    )

    -- so it keeps the invariant
    node_law : (action : Option Action) → SameAtMounts (w.views t) (cleared_view action) → ViewFits c t (cleared_view action) →
        cleaned marks.node (dirty_in node_word) ≡ action → AsksWhere (model_limits c) (shown c w) action →
        LeavesRest (shown c w) (state_after (shown c w) t action) (λ n. node_shown (cleared_words.node n)) (shown c w).holders →
        Event (tree_bounds c) (tree_of w) t cleared_tree action →
        WriterLaw c w t cleared_words (cleared_view action) action
    node_law action mounts fits adds asks rest event =
        let v : View = cleared_view action in
        let was : IsWriter (w.views t).phase = here_writes c lim w good t lt x (FreezeStep.Cleans marks) e in
        let now : IsWriter v.phase = freezes_write (at_freeze x s) in
        writer_law c w good t lt cleared_words v action (ClearsMarkStage marks.node) (record {
          words = record { flags_same = refl; count_same = refl; remount_same = refl; sb_same = refl };
          counts = mounts;
          was = was;
          now = now;
          owner = owner_stays c w good t lt v was now cleared_words refl refl (sym (freeze_owner x.nodes s) ∙ ap stage_owns role ∙ sym (ap owns e));
          levels = levels_stay c w good t lt cleared_words v (Some (closed_to 2)) (assumption)
              (record { held_same = ap (λ (h : Holdings). h.levels) mounts.held_same; added_same = refl; taken_same = refl })
              (here_stands c lim w good t lt x (FreezeStep.Cleans marks) e)
              (subst (HasPosition (Some (Phase.Freezes (at_freeze x s)))) stand (freeze_stands (at_freeze x s)));
          tree = tree_cleared action event;
          opens = λ n. each_updated (λ y word. opens_in word ≡ opens_in (w.words.node y)) w.words.node marks.node
              (without_mark node_word) n (clears_mark node_word node_there.packed).opens (λ ne. refl);
          fits = fits;
          holding = holders_stay c w good t lt cleared_words v refl refl (holder ∙ sym (ap holder_role_of e));
          happens = mark_happens action;
          adds = adds;
          asks = asks;
          rest = rest;
        })

    clears_set : dirty_in node_word ≡ 1 →
        WriterLaw c w t cleared_words (cleared_view (Some (Action.Clean marks.node))) (Some (Action.Clean marks.node))
    clears_set set =
        let f : FitsHere c lim w good t lt x (FreezeStep.Cleans marks) = here_fits c lim w good t lt x (FreezeStep.Cleans marks) e in
        let k : w.words.stage ≡ 2 = here_knows c lim w good t lt x (FreezeStep.Cleans marks) e in
        let not_frozen : w.words.stage ≡ 4 → ⊥ = λ four. omega (arith, k, four) in
        let after : IsFile (node_shown node_word) ×
        (node_shown (without_mark node_word) ≡ option_map (marked false) (node_shown node_word)) =
        cleared_shown node_word node_there set in
        node_law (Some (Action.Clean marks.node)) (record { held_same = refl; added_same = refl; taken_same = refl })
        (goes_to c lim w good t lt x (FreezeStep.Cleans marks) s e fit) (ap (cleaned marks.node) set) (f.5.2, after.0)
        (record {
          mounts_same = refl;
          levels_same = refl;
          opens_same = refl;
          ro_same = refl;
          tree_same = sym (update_map node_shown w.words.node marks.node (without_mark node_word) ∙
              ap (update (λ n. node_shown (w.words.node n)) marks.node) after.1);
          holders_same = refl;
        })
        (Clears marks.node (inr (nobody_reads c w good not_frozen)) (here_tree c lim w good t lt x (FreezeStep.Cleans marks) e) f.5.2 set)

    clears_clean : dirty_in node_word ≡ 0 → WriterLaw c w t cleared_words (cleared_view None) None
    clears_clean clean =
        let f : FitsHere c lim w good t lt x (FreezeStep.Cleans marks) = here_fits c lim w good t lt x (FreezeStep.Cleans marks) e in
        node_law None (record { held_same = refl; added_same = refl; taken_same = refl })
        (goes_to c lim w good t lt x (FreezeStep.Cleans marks) s e fit) (ap (cleaned marks.node) clean) tt
        (record {
          mounts_same = refl;
          levels_same = refl;
          opens_same = refl;
          ro_same = refl;
          tree_same = sym ((λ j n. node_shown (update w.words.node marks.node
              (clean_stays node_word node_there clean j) n)) ∙
              (λ j n. node_shown (update_same w.words.node marks.node j n)));
          holders_same = refl;
        })
        (Passes marks.node (here_tree c lim w good t lt x (FreezeStep.Cleans marks) e) f.5.2 clean)

  -- clears the mark of a node
  cleans : (marks : ClearMarks) → IsHere c lim w good t lt x (FreezeStep.Cleans marks) → Keeps c lim w good t lt x hook (FreezeStep.Cleans marks)
  cleans marks e =
      let f : FitsHere c lim w good t lt x (FreezeStep.Cleans marks) = here_fits c lim w good t lt x (FreezeStep.Cleans marks) e in
      let word : ℕ = w.words.node marks.node in
      let more : FreezeStep = FreezeStep.Cleans (record marks { node = marks.node + 1 }) in
      let next : freeze_stage_role x.nodes more ≡ Freezing 2 (HasPassed (suc marks.node)) true =
      ap (λ n. Freezing 2 (HasPassed n) true) (omega arith) in
      let further : freeze_tree_role x.nodes more ≡ Clearing (suc marks.node) = ap Clearing (omega arith) in
      elim (cases_Bool (nat_lt (marks.node + 1) marks.nodes)) [
        | inl h ↦
            let fit : FreezeFits c x.holder more = (f.5.0, omega arith, omega (arith, f.5.0, ltb-true (marks.node + 1) marks.nodes h)) in
            elim (eqb_tells (dirty_in word) 1) [
              | inl k ↦ rw (h, k.0) (clears_set marks e more fit next further refl refl k.1)
              | inr k ↦ rw (h, k.0) (clears_clean marks e more fit next further refl refl (omega (arith, k.1)))
            ]
        | inr h ↦
            let all : x.nodes ≡ suc marks.node = omega (arith, f.3, f.5.0, f.5.2, ltb-false (marks.node + 1) marks.nodes h) in
            let last : freeze_stage_role x.nodes FreezeStep.SetsFs ≡ Freezing 2 (HasPassed (suc marks.node)) true =
            ap (λ n. Freezing 2 (HasPassed n) true) all in
            elim (eqb_tells (dirty_in word) 1) [
              | inl k ↦ rw (h, k.0) (clears_set marks e FreezeStep.SetsFs tt last (ap Clearing all) refl refl k.1)
              | inr k ↦ rw (h, k.0) (clears_clean marks e FreezeStep.SetsFs tt last (ap Clearing all) refl refl (omega (arith, k.1)))
            ]
      ]

  -- a step of the reopening of a level is one of the thaw
  reopens : (u : UpWrite) (code : ℕ) → IsHere c lim w good t lt x (FreezeStep.Reopens u code) → Keeps c lim w good t lt x hook (FreezeStep.Reopens u code)
  reopens u code e =
      let f : FitsHere c lim w good t lt x (FreezeStep.Reopens u code) = here_fits c lim w good t lt x (FreezeStep.Reopens u code) e in
      let y : Thaw = as_thaw x (ThawStep.Reopens u) in
      let event : WordName × Touch = up_write_next u u.step in
      let found : ℕ = found_by event.1 (read w.words event.0) in
      let more : Next UpWrite × Option Action = up_write_after u u.step found in
      let law : StepKeeps c w t hook (Phase.Freezes (at_freeze x (FreezeStep.Reopens u code))) =
      made_keeps c w t lt (Some (Phase.Thaws y)) event hook (map_next Phase.Thaws (after_opening y u.level more.0))
      (map_next Phase.Freezes (after_reopening x u.level code more.0)) more.1 good (alike_of e (reopens_alike x u code)) (f.0, f.4, f.5)
      (λ g at. thaw_keeps c lim (rephased w t (Some (Phase.Thaws y))) g t lt hook y at) (next_alike x u code more.0)
      (freeze_goes c lim t (held_of (w.views t)) x (FreezeStep.Reopens u code) found hook f) in
      (λ part known. law.0 part, law.1)

freeze_event : (c : Config) (lim : IsWithin c) (w : World) (good : IsGood c w) (t : ℕ) (lt : t < c.tasks) (x : Freeze) (hook : HookAnswer)
    (s : FreezeStep) → IsHere c lim w good t lt x s → Keeps c lim w good t lt x hook s
freeze_event c lim w good t lt x hook FreezeStep.Locks e = locks c lim w good t lt x hook e
freeze_event c lim w good t lt x hook FreezeStep.LoadsStage e = loads_stage c lim w good t lt x hook e
freeze_event c lim w good t lt x hook FreezeStep.LoadsHolders e = loads_holders c lim w good t lt x hook e
freeze_event c lim w good t lt x hook (FreezeStep.Holds beside) e = holds c lim w good t lt x hook beside e
freeze_event c lim w good t lt x hook FreezeStep.LoadsSuperblock e = loads_superblock c lim w good t lt x hook e
freeze_event c lim w good t lt x hook FreezeStep.CompletesReadOnly e = completes_read_only c lim w good t lt x hook e
freeze_event c lim w good t lt x hook FreezeStep.SetsWrite e = sets_write c lim w good t lt x hook e
freeze_event c lim w good t lt x hook FreezeStep.Unlocks e = unlocks c lim w good t lt x hook e
freeze_event c lim w good t lt x hook (FreezeStep.Closes d) e = closes c lim w good t lt x hook d d.step e
freeze_event c lim w good t lt x hook (FreezeStep.Waits d) e = waits c lim w good t lt x hook d e
freeze_event c lim w good t lt x hook (FreezeStep.Undoes level transition code) e = undoes c lim w good t lt x hook level transition code e
freeze_event c lim w good t lt x hook (FreezeStep.LocksToUndo code) e = locks_to_undo c lim w good t lt x hook code e
freeze_event c lim w good t lt x hook (FreezeStep.GivesUp level code) e = gives_up c lim w good t lt x hook level code e
freeze_event c lim w good t lt x hook FreezeStep.LocksAgain e = locks_again c lim w good t lt x hook e
freeze_event c lim w good t lt x hook FreezeStep.SetsPageFault e = sets_page_fault c lim w good t lt x hook e
freeze_event c lim w good t lt x hook (FreezeStep.Cleans marks) e = cleans c lim w good t lt x hook marks e
freeze_event c lim w good t lt x hook FreezeStep.SetsFs e = sets_fs c lim w good t lt x hook e
freeze_event c lim w good t lt x hook FreezeStep.SetsComplete e = sets_complete c lim w good t lt x hook e
freeze_event c lim w good t lt x hook (FreezeStep.Reopens u code) e = reopens c lim w good t lt x hook u code e
freeze_event c lim w good t lt x hook (FreezeStep.Releases answer) e = releases c lim w good t lt x hook answer e

-- each step of a freeze keeps the invariant, and moves the shown state by its action
pub freeze_keeps : (c : Config) → IsWithin c → (w : World) → IsGood c w → (t : ℕ) → t < c.tasks → (hook : HookAnswer) (x : Freeze) →
    (w.views t).phase ≡ Some (Phase.Freezes x) → StepKeeps c w t hook (Phase.Freezes x)
freeze_keeps c lim w good t lt hook x e =
    let f : FitsHere c lim w good t lt x x.step = here_fits c lim w good t lt x x.step e in
    whole_writer c w t lt good hook (Phase.Freezes x) e (freeze_work c w x hook f.5) (freeze_event c lim w good t lt x hook x.step e)
