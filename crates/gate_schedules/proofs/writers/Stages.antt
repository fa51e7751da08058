-- Steps of a freeze or a thaw that leave the words of the levels: on `umount`, loads by the owner, and stores of the stage.
use Rattle.gate_schedules.proofs.Prelude.{Action, Config, Holding, Holds, IsGood, IsWithin, LevelPosition, None, Option, OwnerHolds, Some, StageEvent}
use Rattle.gate_schedules.proofs.Prelude.{StageRole, Stages, Tree, TreeState, View, ViewFits, Words, World, ap, arith, common_steps, eqb_tells}
use Rattle.gate_schedules.proofs.Prelude.{holders_in, inl, inr, is_frozen_whole, model_limits, playing, refl, shown, stage_role_of, stage_roles}
use Rattle.gate_schedules.proofs.Prelude.{subst, sym, tree_bounds, tree_of, tree_role_of, tree_roles, update, update_same, ℕ, ◌<◌, ◌∙◌, ◌≡◌}
use Rattle.{access_model.specs.Actions.after_action, freeze_laws.specs.stages.Events.{Stays, action_of as stage_action_of}}
use Rattle.gated_tree.specs.Roles.{sealed_by}
use Rattle.gate_schedules.proofs.frames.{Frames.{SameLevelCounts, left_alone}, Stages.{IsStageEvent, stages_in}}
use Rattle.gate_schedules.proofs.levels.{LevelPositions.{HasPosition, LevelsHold, left_world}, PositionRoles.levels_stay}
use Rattle.gate_schedules.proofs.{trees.worlds.Trees.{sealed_read_only, tree_after, tree_then}, writers.Parts.{AsksWhere, IsWriter, LeavesRest}}
use Rattle.gate_schedules.{proofs.writers.Parts.{SameAtMounts, WriterLaw, writer_law}, specs.trees.Events.{Event, Opens}}

-- the words that tell the stage are as they were
pub record SameStageWords (old new : Words) : Type 0 where
  pub stage_same : new.stage ≡ old.stage
  pub sb_same : new.sb ≡ old.sb
  pub remount_same : new.remount ≡ old.remount
  pub block_same : new.block ≡ old.block
  pub node_same : new.node ≡ old.node

module _ (c : Config) (w : World) (good : IsGood c w) (t : ℕ) (lt : t < c.tasks) where
  -- a step that is about other words
  pub stays_there : (ws : Words) (v : View) → SameStageWords w.words ws → stage_role_of v.phase ≡ stage_role_of (w.views t).phase →
      IsStageEvent c w good t lt ws v Stays
  stays_there ws v words same = grind (arith, common_steps)

  pub still_plays : {r : StageRole} → r ≡ stage_role_of (w.views t).phase → playing (stages_in w) t r ≡ stages_in w
  still_plays same = λ j. record (stages_in w) { at = (ap (update (stage_roles w) t) same ∙ update_same (stage_roles w) t) j }

  pub none_leaves : LeavesRest (shown c w) (shown c w) (shown c w).tree (shown c w).holders
  none_leaves = record { mounts_same = refl; levels_same = refl; opens_same = refl; ro_same = refl; tree_same = refl; holders_same = refl }

  pub stage_leaves : (n : ℕ) → LeavesRest (shown c w) (after_action (shown c w) t (Action.Stage n)) (shown c w).tree (shown c w).holders
  stage_leaves n = record { mounts_same = refl; levels_same = refl; opens_same = refl; ro_same = refl; tree_same = refl; holders_same = refl }

  -- a store of the stage leaves the levels, where the file system is frozen as a whole or not as before
  pub stored_levels : (v : View) → SameLevelCounts (w.views t) v → (n : ℕ) (stand : Option LevelPosition) →
      is_frozen_whole (record w.words { stage = n }) ≡ is_frozen_whole w.words → HasPosition (w.views t).phase stand →
      HasPosition v.phase stand → LevelsHold c (left_world w t (record w.words { stage = n }) v)
  stored_levels v levels n stand whole before after =
      levels_stay c w good t lt (record w.words { stage = n }) v stand
      (record { block_same = refl; level_same = refl; sync_same = refl; section_same = refl; whole_same = whole }) levels before after

  -- nor the tree, where it is sealed or not as before, and the task does there what it did
  pub stored_tree : (v : View) → tree_role_of v.trace v.phase ≡ tree_role_of (w.views t).trace (w.views t).phase → (n : ℕ) →
      sealed_by w.words.sb n ≡ sealed_by w.words.sb w.words.stage → Holds c (left_world w t (record w.words { stage = n }) v) Tree
  stored_tree v same n sealed =
      left_alone c w t lt Tree (record w.words { stage = n }) v (refl, refl, refl, refl, sealed, refl) same (good Tree)

  -- a store of stage 0 opens it, where the superblock's flag isn't set
  pub opened_tree : IsWithin c → (v : View) → tree_role_of v.trace v.phase ≡ tree_role_of (w.views t).trace (w.views t).phase →
      Holds c (left_world w t (record w.words { stage = 0 }) v) Tree
  opened_tree within v same =
      elim (eqb_tells w.words.sb 0) [
        | inl q ↦
            let unsealed : sealed_by w.words.sb 0 ≡ 0 = rw q.1 refl in
            let after : ◌≡◌ {A = TreeState} (tree_then c w good t lt (record w.words { stage = 0 }) v)
            (record (tree_of w) { sealed = 0 }) =
            λ j. record (tree_of w) {
              sealed = unsealed j;
              at = (ap (update (tree_roles w) t) same ∙ update_same (tree_roles w) t) j;
            } in
            tree_after c w good t lt (record w.words { stage = 0 }) v within None
            (subst (λ s. Event (tree_bounds c) (tree_of w) t s None) (sym after) Opens)
        | inr q ↦
            let set : w.words.sb ≡ 1 = omega (arith, q.1, (good Stages).superblock) in
            stored_tree v same 0 (sealed_read_only w.words.sb 0 set ∙ sym (sealed_read_only w.words.sb w.words.stage set))
      ]

  module _ (v : View) (was : IsWriter (w.views t).phase) (now : IsWriter v.phase) (mounts : SameAtMounts (w.views t) v)
      (levels : SameLevelCounts (w.views t) v) (fits : ViewFits c t v) where
    -- a step that leaves all words but `umount`, and what its task has to do with the levels and the tree
    pub writer_beside : (n : ℕ) (stand : Option LevelPosition) (kind : StageEvent) →
        OwnerHolds c.tasks n w.words.remount (λ y. (update w.views t v y).phase) →
        HasPosition (w.views t).phase stand → HasPosition v.phase stand →
        tree_role_of v.trace v.phase ≡ tree_role_of (w.views t).trace (w.views t).phase →
        IsStageEvent c w good t lt (record w.words { umount = n }) v kind → stage_action_of kind (stages_in w) ≡ None →
        Holds c (left_world w t (record w.words { umount = n }) v) Holding →
        WriterLaw c w t (record w.words { umount = n }) v None
    writer_beside n stand kind owner before after same happens adds holding =
        writer_law c w good t lt (record w.words { umount = n }) v None kind (record {
          words = record { flags_same = refl; count_same = refl; remount_same = refl; sb_same = refl };
          counts = mounts;
          was = was;
          now = now;
          owner = owner;
          levels = levels_stay c w good t lt (record w.words { umount = n }) v stand
              (record { block_same = refl; level_same = refl; sync_same = refl; section_same = refl; whole_same = refl }) levels before
              after;
          tree = left_alone c w t lt Tree (record w.words { umount = n }) v (refl, refl, refl, refl, refl, refl) same (good Tree);
          opens = λ n. refl;
          fits = fits;
          holding = holding;
          happens = happens;
          adds = adds;
          asks = tt;
          rest = none_leaves;
        })

    pub writer_stores : (n : ℕ) (kind : StageEvent) →
        OwnerHolds c.tasks w.words.umount w.words.remount (λ y. (update w.views t v y).phase) →
        LevelsHold c (left_world w t (record w.words { stage = n }) v) →
        Holds c (left_world w t (record w.words { stage = n }) v) Tree →
        IsStageEvent c w good t lt (record w.words { stage = n }) v kind →
        stage_action_of kind (stages_in w) ≡ Some (Action.Stage n) →
        AsksWhere (model_limits c) (shown c w) (Some (Action.Stage n)) →
        Holds c (left_world w t (record w.words { stage = n }) v) Holding →
        WriterLaw c w t (record w.words { stage = n }) v (Some (Action.Stage n))
    writer_stores n kind owner hold tree happens adds asks holding =
        writer_law c w good t lt (record w.words { stage = n }) v (Some (Action.Stage n)) kind (record {
          words = record { flags_same = refl; count_same = refl; remount_same = refl; sb_same = refl };
          counts = mounts;
          was = was;
          now = now;
          owner = owner;
          levels = hold;
          tree = tree;
          opens = λ n. refl;
          fits = fits;
          holding = holding;
          happens = happens;
          adds = adds;
          asks = asks;
          rest = stage_leaves n;
        })

    -- a store of the holders by the owner, which has to do with the levels and the tree what it had
    pub writer_holds : (n : ℕ) (action : Action) (stand : Option LevelPosition) (kind : StageEvent) →
        OwnerHolds c.tasks w.words.umount w.words.remount (λ y. (update w.views t v y).phase) →
        HasPosition (w.views t).phase stand → HasPosition v.phase stand →
        tree_role_of v.trace v.phase ≡ tree_role_of (w.views t).trace (w.views t).phase →
        IsStageEvent c w good t lt (record w.words { holders = n }) v kind →
        stage_action_of kind (stages_in w) ≡ Some action →
        AsksWhere (model_limits c) (shown c w) (Some action) →
        LeavesRest (shown c w) (after_action (shown c w) t action) (shown c w).tree (holders_in n) →
        Holds c (left_world w t (record w.words { holders = n }) v) Holding →
        WriterLaw c w t (record w.words { holders = n }) v (Some action)
    writer_holds n action stand kind owner before after same happens adds asks rest holding =
        writer_law c w good t lt (record w.words { holders = n }) v (Some action) kind (record {
          words = record { flags_same = refl; count_same = refl; remount_same = refl; sb_same = refl };
          counts = mounts;
          was = was;
          now = now;
          owner = owner;
          levels = levels_stay c w good t lt (record w.words { holders = n }) v stand
              (record { block_same = refl; level_same = refl; sync_same = refl; section_same = refl; whole_same = refl }) levels before
              after;
          tree = left_alone c w t lt Tree (record w.words { holders = n }) v (refl, refl, refl, refl, refl, refl) same (good Tree);
          opens = λ n. refl;
          fits = fits;
          holding = holding;
          happens = happens;
          adds = adds;
          asks = asks;
          rest = rest;
        })
