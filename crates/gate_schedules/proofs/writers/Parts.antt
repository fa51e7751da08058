-- What a step of a freeze or a thaw may leave: each conjunct of the invariant, and the shown state.
use Rattle.gate_schedules.proofs.Prelude.{Action, AtLevel, AtMount, Config, DownWrite, DownWriteStep, Files, Fitting, Freeze, FreezeFits, HasFile}
use Rattle.gate_schedules.proofs.Prelude.{Holding, Holdings, Holds, HookAnswer, IsGood, Known, Moves, Next, NodeInfo, None, Ok, Option, Owner}
use Rattle.gate_schedules.proofs.Prelude.{OwnerHolds, Part, Phase, Reply, Roles, Sections, Some, StageEvent, Stages, State, StepKeeps, SyncAt, Thaw}
use Rattle.gate_schedules.proofs.Prelude.{Tree, View, ViewFits, Words, World, added_by, after_step, ap, arith, at_down_write, cases_Bool}
use Rattle.gate_schedules.proofs.Prelude.{common_steps, down_write_after, each_updated, false, file_of, has_open, held_of, holders_in, inl, inr}
use Rattle.gate_schedules.proofs.Prelude.{map_next, model_limits, no_roles, node_shown, openers, opens_in, phase_action, phase_after, refl, roles_of}
use Rattle.gate_schedules.proofs.Prelude.{shown, stage_role_of, stage_roles, state_after, subst, sym, taken_by, true≢false, update, ℕ, ◌<◌, ◌∙◌, ◌≡◌}
use Rattle.access_model.specs.{States.Limits, declared.actions.Holders.Holders}
use Rattle.freeze_laws.specs.stages.{Events.action_of as stage_action_of, Shown.{AsksOthers, ShowsStages}}
use Rattle.gate_schedules.proofs.frames.{Frames.{left_alone, opens_left, view_as}, Known.{IsOwnersWork, known_after}}
use Rattle.gate_schedules.proofs.frames.Stages.{IsStageEvent, shown_by, stage_action, stage_effect, stages_after, stages_in}
use Rattle.gate_schedules.proofs.{levels.LevelPositions.{LevelsHold, left_world}, mounts.Parts.{is_known_part, known_is}}

-- of these roles those that no freeze and no thaw has
abbrev pub off_writers : Roles → Roles
off_writers r = record no_roles { mount = r.mount; remounts = r.remounts; file = r.file }

-- a phase of one, or none: it has none of them
abbrev pub IsWriter : Option Phase → Type 0
IsWriter p = off_writers (roles_of p) ≡ no_roles

pub idle_writes : IsWriter None
idle_writes = refl

pub freezes_write : (x : Freeze) → IsWriter (Some (Phase.Freezes x))
freezes_write x = refl

pub thaws_write : (x : Thaw) → IsWriter (Some (Phase.Thaws x))
thaws_write x = refl

pub freeze_comes : (n : Next Freeze) → IsWriter (phase_after (map_next Phase.Freezes n))
freeze_comes n = grind arith

pub thaw_comes : (n : Next Thaw) → IsWriter (phase_after (map_next Phase.Thaws n))
thaw_comes n = grind arith

-- the words that no freeze and no thaw writes are as they were
pub record SameOffFreezes (old new : Words) : Type 0 where
  pub flags_same : new.flags ≡ old.flags
  pub count_same : new.count ≡ old.count
  pub remount_same : new.remount ≡ old.remount
  pub sb_same : new.sb ≡ old.sb

-- the view counts what it counted at mounts, and holds what it held
pub record SameAtMounts (old new : View) : Type 0 where
  pub held_same : held_of new ≡ held_of old
  pub added_same : added_by new.events ≡ added_by old.events
  pub taken_same : taken_by new.events ≡ taken_by old.events

-- what a state shows of the accesses, the mounts, the tree and the holders: these accesses and mounts, this tree and these holders
pub record LeavesRest (old new : State) (tree : ℕ → Option NodeInfo) (held : Holders) : Type 0 where
  pub mounts_same : new.mounts ≡ old.mounts
  pub levels_same : new.levels ≡ old.levels
  pub opens_same : new.opens ≡ old.opens
  pub ro_same : new.mount_ro ≡ old.mount_ro
  pub tree_same : new.tree ≡ tree
  pub holders_same : new.holders ≡ held

-- what an action, if there is one, asks of other parts than the stage
abbrev pub AsksWhere : Limits → State → Option Action → Type 0
AsksWhere l s None = Unit {0}
AsksWhere l s (Some a) = AsksOthers l s a

module _ (c : Config) (w : World) (good : IsGood c w) (t : ℕ) (lt : t < c.tasks) (ws : Words) (v : View) (action : Option Action)
    (kind : StageEvent) where
  -- All that is to be known of a step of a freeze or a thaw: what it leaves of the words and of its task's view, which step of the
  -- stage it is, and what it adds.
  pub record WriterEvent : Type 0 where
    pub words : SameOffFreezes w.words ws
    pub counts : SameAtMounts (w.views t) v
    pub was : IsWriter (w.views t).phase
    pub now : IsWriter v.phase
    pub owner : OwnerHolds c.tasks ws.umount ws.remount (λ y. (update w.views t v y).phase)
    pub levels : LevelsHold c (left_world w t ws v)
    pub tree : Holds c (left_world w t ws v) Tree
    pub opens : (n : ℕ) → opens_in (ws.node n) ≡ opens_in (w.words.node n)
    pub fits : ViewFits c t v
    pub holding : Holds c (left_world w t ws v) Holding
    pub happens : IsStageEvent c w good t lt ws v kind
    pub adds : stage_action_of kind (stages_in w) ≡ action
    pub asks : AsksWhere (model_limits c) (shown c w) action
    pub rest : LeavesRest (shown c w) (state_after (shown c w) t action) (λ n. node_shown (ws.node n)) (holders_in ws.holders)

  -- each part but what the owner knows
  abbrev pub PartsHold : Type 0
  PartsHold = (part : Part) → is_known_part part ≡ false → Holds c (left_world w t ws v) part

  pub writer_parts : WriterEvent → PartsHold
  writer_parts h Owner k = h.owner
  writer_parts h Stages k = stages_after c w good t lt ws v kind h.happens
  writer_parts h Holding k = h.holding
  writer_parts h Fitting k = λ y ly. each_updated (λ z (u : View). ViewFits c z u) w.views t v y h.fits (λ ne. good Fitting y ly)
  writer_parts h Known k = absurd (true≢false k)
  writer_parts h Tree k = h.tree
  writer_parts h Files k = record {
    counted = λ n ln. h.opens n ∙ (good Files).counted n ln ∙
        sym (ap (λ f. openers f n) (opens_left c w t lt v (ap (λ (k : Holdings). k.files) h.counts.held_same)));
    own = λ x lx. each_updated (λ y (u : View). HasFile (has_open u) (file_of u.phase)) w.views t v x
        (subst (HasFile (has_open v)) (sym (λ j. (h.now j).file)) tt) (λ ne. (good Files).own x lx);
  }
  writer_parts h (AtMount m) k =
      left_alone c w t lt (AtMount m) ws v
      (ap (λ f. f m) h.words.flags_same, h.words.remount_same, h.words.sb_same, ap (λ f. f m) h.words.count_same)
      (view_as (ap (λ (k : Holdings). k.mounts m) h.counts.held_same) (ap (λ f. f m) h.counts.added_same) (ap (λ f. f m) h.counts.taken_same)
      ((λ j. (h.now j).mount m) ∙ sym (λ j. (h.was j).mount m))) (good (AtMount m))
  writer_parts h (AtLevel i) k = h.levels.0 i
  writer_parts h (SyncAt i) k = h.levels.1 i
  writer_parts h Sections k = h.levels.2

  effect_shown : WriterEvent → shown c (left_world w t ws v) ≡ state_after (shown c w) t action
  effect_shown h =
      shown_by c w good t lt ws v h.words.flags_same h.counts.held_same (state_after (shown c w) t action)
      (subst (λ a. ShowsStages c.tasks ws.stage ws.sb ws.remount ws.block (update (stage_roles w) t (stage_role_of v.phase))
      (state_after (shown c w) t a)) h.adds (stage_effect c w good t lt ws v kind h.happens))
      h.rest.mounts_same h.rest.levels_same h.rest.opens_same h.rest.ro_same h.rest.holders_same h.rest.tree_same

writer_moves : (c : Config) (w : World) (good : IsGood c w) (t : ℕ) (lt : t < c.tasks) (ws : Words) (v : View) (action : Option Action)
    (kind : StageEvent) → WriterEvent c w good t lt ws v action kind → Moves c (shown c w) t action (shown c (left_world w t ws v))
writer_moves c w good t lt ws v None kind h = effect_shown c w good t lt ws v None kind h
writer_moves c w good t lt ws v (Some a) kind h =
    (stage_action c w good t lt ws v kind h.happens a h.adds h.asks, effect_shown c w good t lt ws v (Some a) kind h)

-- the law of a step: each part but what the owner knows, and the shown state
abbrev pub WriterLaw : Config → World → ℕ → Words → View → Option Action → Type 0
WriterLaw c w t ws v action =
    ((part : Part) → is_known_part part ≡ false → Holds c (left_world w t ws v) part) ×
    Moves c (shown c w) t action (shown c (left_world w t ws v))

-- so it is of such a step
pub writer_law : (c : Config) (w : World) (good : IsGood c w) (t : ℕ) (lt : t < c.tasks) (ws : Words) (v : View) (action : Option Action)
    (kind : StageEvent) → WriterEvent c w good t lt ws v action kind → WriterLaw c w t ws v action
writer_law c w good t lt ws v action kind h =
    (writer_parts c w good t lt ws v action kind h, writer_moves c w good t lt ws v action kind h)

-- the law of the next step of a phase, as this
abbrev pub WriterKeeps : Config → World → ℕ → HookAnswer → Phase → Type 0
WriterKeeps c w t hook phase =
    ((part : Part) → is_known_part part ≡ false → Holds c (after_step w t phase hook) part) ×
    Moves c (shown c w) t (phase_action w hook (Some phase)) (shown c (after_step w t phase hook))

-- what the owner knows moves with its trace
pub whole_writer : (c : Config) (w : World) (t : ℕ) → t < c.tasks → IsGood c w → (hook : HookAnswer) (phase : Phase) →
    (w.views t).phase ≡ Some phase → IsOwnersWork w phase hook → WriterKeeps c w t hook phase → StepKeeps c w t hook phase
whole_writer c w t lt good hook phase e work keeps = (
  λ part. elim (cases_Bool (is_known_part part)) [
    | inl h ↦ subst (Holds c (after_step w t phase hook)) (sym (known_is part h)) (known_after c w t phase hook good lt e work)
    | inr h ↦ keeps.0 part h
  ],
  keeps.1,
)

-- What comes after a step of a down-write is the down-write at another point, or it is done.
module _ (d : DownWrite) (P : Next DownWrite → Type 0) (go : (s : DownWriteStep) → P (Next.Go (at_down_write d s)))
    (wait : (s : DownWriteStep) → P (Next.Wait (at_down_write d s))) (done : P (Next.Done (Ok Reply.Unit))) where
  pub down_write_comes : (s : DownWriteStep) (found : ℕ) → P (down_write_after d s found).0
  down_write_comes s found = grind arith

pub freeze_work : (c : Config) (w : World) (x : Freeze) (hook : HookAnswer) → FreezeFits c x.holder x.step → IsOwnersWork w (Phase.Freezes x) hook
freeze_work c w x hook f = grind (arith, common_steps)

pub thaw_work : (w : World) (x : Thaw) (hook : HookAnswer) → IsOwnersWork w (Phase.Thaws x) hook
thaw_work w x hook = grind arith
