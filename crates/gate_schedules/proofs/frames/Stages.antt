-- The stage of a state, as the laws of the stage have it: what holds of it, what a step of a task leaves of it, and which actions are
-- allowed.
use Rattle.gate_schedules.proofs.Prelude.{Action, Bool, Config, Holdings, Holds, IsGood, Option, Owner, Phase, Some, StageEvent, StageRole, Stages}
use Rattle.gate_schedules.proofs.Prelude.{State, View, Words, World, ap, arith, dirty_in, has_open, held_at, held_of, holders_in, holds_level}
use Rattle.gate_schedules.proofs.Prelude.{marks_of, model_limits, node_shown, owns, refl, ro_bit, shown, stage_role_of, stage_roles, subst, sym}
use Rattle.gate_schedules.proofs.Prelude.{total, total_none, update, update_map, update_same, ℕ, ◌<◌, ◌==◌, ◌∙◌, ◌≡◌, ◌≤◌}
use Rattle.access_model.specs.{Actions.IsAllowed, States.is_dirty}
use Rattle.gate_schedules.proofs.{frames.{ByPhase.shown_passed, Owners.owns_le}, trees.worlds.Trees.marks_right}
use Rattle.freeze_laws.{proofs.stages.CitedLaws.{actions_are_allowed, actions_have_their_effect, events_keep}, specs.stages.Events.Happens}
use Rattle.freeze_laws.specs.stages.{Events.{Holds as StageHolds, RepresentsStages, SameDuties, Stages as StageMoment, action_of}, Roles.Owning}
use Rattle.freeze_laws.specs.stages.{Roles.owns as stage_owns, Shown.{AsksOthers, ShowsStages, passed_shown, state_after}}
use Rattle.std.specs.Prelude.{false}

-- owners that rely on one thing or another are alike
pub owners_alike : (stage sb stage' sb' : Option ℕ) → SameDuties (Owning stage sb) (Owning stage' sb')
owners_alike stage sb stage' sb' =
    record { owns_same = refl; freezes_same = refl; remounts_same = refl; closed_same = refl; passed_same = refl }

pub alike_same : (r : StageRole) → SameDuties r r
alike_same r = record { owns_same = refl; freezes_same = refl; remounts_same = refl; closed_same = refl; passed_same = refl }

-- the stage of a state
abbrev pub stages_in : World → StageMoment
stages_in w = record {
  stage = w.words.stage;
  sb = w.words.sb;
  remount = w.words.remount;
  block = w.words.block;
  dirty = marks_of w.words;
  at = stage_roles w;
}

pub stage_owner : (p : Option Phase) → stage_owns (stage_role_of p) ≤ owns p
stage_owner p = grind arith

clean_shown : (word : ℕ) → dirty_in word ≡ 0 → is_dirty (node_shown word) ≡ false
clean_shown word e = grind arith

module _ (c : Config) (w : World) (good : IsGood c w) where
  pub stages_right : StageHolds c.tasks c.nodes (stages_in w)
  stages_right = record { stages = good Stages; marks = marks_right c w good }

  pub stages_shown : RepresentsStages (model_limits c) (stages_in w) (shown c w)
  stages_shown = record {
    stages = record { stage_same = refl; passed_same = shown_passed c w; sb_same = refl };
    marks = λ n lt e. clean_shown (w.words.node n) e;
  }

  pub nobody_owns : w.words.umount ≡ 0 → total c.tasks (λ x. stage_owns (stage_roles w x)) ≡ 0
  nobody_owns free = total_none c.tasks (λ x. stage_owns (stage_roles w x)) (λ x lx.
      let none : owns (w.views x).phase ≡ 1 → ⊥ = λ o. omega (arith, free, (good Owner).locked x lx o) in
      omega (arith, none, owns_le (w.views x).phase, stage_owner (w.views x).phase))

  module _ (t : ℕ) (lt : t < c.tasks) (ws : Words) (v : View) where
    -- the stage of the state after a step of this task
    pub stage_moves : stages_in (record { words = ws; views = update w.views t v }) ≡ record {
      stage = ws.stage;
      sb = ws.sb;
      remount = ws.remount;
      block = ws.block;
      dirty = marks_of ws;
      at = update (stage_roles w) t (stage_role_of v.phase);
    }
    stage_moves = λ i. record {
      stage = ws.stage;
      sb = ws.sb;
      remount = ws.remount;
      block = ws.block;
      dirty = marks_of ws;
      at = update_map (λ (u : View). stage_role_of u.phase) w.views t v i;
    }

    -- what is there of the stage where the step is one of these
    abbrev pub IsStageEvent : StageEvent → Type 0
    IsStageEvent kind = Happens c.tasks c.nodes t (stages_in w) record {
      stage = ws.stage;
      sb = ws.sb;
      remount = ws.remount;
      block = ws.block;
      dirty = marks_of ws;
      at = update (stage_roles w) t (stage_role_of v.phase);
    } kind

    module _ (kind : StageEvent) (happens : IsStageEvent kind) where
      -- so all holds of it again
      stage_kept : StageHolds c.tasks c.nodes (stages_in (record { words = ws; views = update w.views t v }))
      stage_kept = subst (StageHolds c.tasks c.nodes) (sym stage_moves)
          (events_keep c.tasks c.nodes (stages_in w) _ t kind (record { right = stages_right; there = lt; happens = happens }))

      pub stages_after : Holds c (record { words = ws; views = update w.views t v }) Stages
      stages_after = stage_kept.stages

      -- its action is allowed, where the other parts have what it asks for
      pub stage_action : (a : Action) → action_of kind (stages_in w) ≡ Some a → AsksOthers (model_limits c) (shown c w) a →
          IsAllowed (model_limits c) (shown c w) t a
      stage_action a is asks =
          actions_are_allowed (model_limits c) (stages_in w) _ t kind
          (record { right = stages_right; there = lt; happens = happens }) (shown c w) stages_shown a is asks

      -- and the state after it has the stage, the number of levels passed and the superblock's flag that are shown then
      pub stage_effect : ShowsStages c.tasks ws.stage ws.sb ws.remount ws.block (update (stage_roles w) t (stage_role_of v.phase))
          (state_after (shown c w) t (action_of kind (stages_in w)))
      stage_effect =
          actions_have_their_effect c.tasks c.nodes (stages_in w) _ t kind
          (record { right = stages_right; there = lt; happens = happens }) (shown c w) stages_shown.stages

    -- The shown state after a step of a task that holds what it held, and that leaves the flags of the
    -- mounts: it is a state that shows the stage then, who holds a freeze, and the nodes, and is else as it was.
    pub shown_by : ws.flags ≡ w.words.flags → held_of v ≡ held_of (w.views t) → (s : State) →
        ShowsStages c.tasks ws.stage ws.sb ws.remount ws.block (update (stage_roles w) t (stage_role_of v.phase)) s →
        s.mounts ≡ (shown c w).mounts → s.levels ≡ (shown c w).levels → s.opens ≡ (shown c w).opens → s.mount_ro ≡ (shown c w).mount_ro →
        s.holders ≡ holders_in ws.holders → s.tree ≡ (λ n. node_shown (ws.node n)) → shown c (record { words = ws; views = update w.views t v }) ≡ s
    shown_by flags held s shows em el eo ef eh et = λ j. record {
      mounts = (update_map held_at w.views t v ∙ ap (λ (h : Holdings). update (λ x. held_at (w.views x)) t h.mounts) held ∙
          update_same (λ x. held_at (w.views x)) t ∙ sym em) j;
      levels = (update_map holds_level w.views t v ∙ ap (λ (h : Holdings). update (λ x. holds_level (w.views x)) t h.levels) held ∙
          update_same (λ x. holds_level (w.views x)) t ∙ sym el) j;
      opens = (update_map has_open w.views t v ∙ ap (λ (h : Holdings). update (λ x. has_open (w.views x)) t h.files) held ∙
          update_same (λ x. has_open (w.views x)) t ∙ sym eo) j;
      mount_ro = (ap {B = ℕ → Bool} (λ (f : ℕ → ℕ) m. ro_bit (f m) == 1) flags ∙ sym ef) j;
      sb_ro = sym shows.sb_same j;
      stage = sym shows.stage_same j;
      holders = sym eh j;
      passed = (shown_passed c (record { words = ws; views = update w.views t v }) ∙
          ap (passed_shown c.tasks ws.block) (update_map (λ (u : View). stage_role_of u.phase) w.views t v) ∙
          sym shows.passed_same) j;
      tree = sym et j;
    }
