-- What a step of a remount may leave: each conjunct of the invariant, and the shown state.
use Rattle.gate_schedules.proofs.Prelude.{Action, Apart, AtLevel, AtMount, Bool, CleanBelow, Config, Files, Fits, Fitting, HasFile, Holding, Holdings}
use Rattle.gate_schedules.proofs.Prelude.{Holds, HookAnswer, IsGood, IsSteady, IsWithin, Known, KnowsStage, Moves, Next, None, Option, Owner}
use Rattle.gate_schedules.proofs.Prelude.{OwnerHolds, Owning, Part, Phase, PhaseFits, Remount, RemountFits, RemountStep, SameDuties, Sections, Some}
use Rattle.gate_schedules.proofs.Prelude.{StageEvent, StageRole, Stages, StepKeeps, SyncAt, Touch, Tree, TreeState, View, ViewFits, WordName, Words}
use Rattle.gate_schedules.proofs.Prelude.{World, added_by, after_step, ap, arith, at_mount, at_remount, cases_Bool, closing, each_updated, eqb_tells}
use Rattle.gate_schedules.proofs.Prelude.{false, file_of, has_open, held_of, holder_role_of, holders_in, inl, inr, is_bare_at, is_frozen_whole}
use Rattle.gate_schedules.proofs.Prelude.{level_added_by, level_taken_by, marks_of, node_shown, openers, opens_in, owns, phase_action, playing, read}
use Rattle.gate_schedules.proofs.Prelude.{refl, remount_stage_role, remounts, ro_bit, role_of, shown, stage_role_of, subst, sym, taken_by}
use Rattle.gate_schedules.proofs.Prelude.{tree_bounds, tree_of, tree_role_of, tree_roles, true≢false, update, update_at, update_map, update_off}
use Rattle.gate_schedules.proofs.Prelude.{update_same, view_with, ℕ, ◌<◌, ◌==◌, ◌||◌, ◌∙◌, ◌≡◌}
use Rattle.freeze_laws.specs.stages.{Events.Recalls, Roles.{IsKnown, clean_by}}
use Rattle.gate_world.specs.{Remounts.{remount_owns, remount_role, remount_sets}, Roles.remount_tree_role, Trees.is_sealed}
use Rattle.{gated_tree.specs.Roles.Role as TreeRole, mount_counts.specs.Roles.{MountHolds, Role}}
use Rattle.gate_schedules.proofs.frames.Frames.{IsOffLevels, SameLevelCounts, SameLevelWords, added_load, holds_as, left_alone, level_left}
use Rattle.gate_schedules.proofs.frames.Frames.{opens_left, owner_same, sections_left, shown_held, shown_still, sync_left, taken_load, view_as}
use Rattle.gate_schedules.proofs.frames.{Holders.holders_stay, Known.{IsOwnersWork, known_after}, Owners.remount_stored, Stages.IsStageEvent}
use Rattle.gate_schedules.proofs.{frames.{Stages.{stages_after, stages_in}, Words.load_same}, mounts.{Loads.after_load, Parts.is_known_part}}
use Rattle.gate_schedules.proofs.{mounts.Parts.{known_is, level_added_load, level_taken_load}, trees.{Each.each_event, worlds.Trees.marks_right}}
use Rattle.gate_schedules.{proofs.trees.worlds.Trees.{tree_after, tree_holds, tree_then, tree_within}, specs.trees.Events.Event as TreeEvent}

remount_work : (w : World) (x : Remount) (hook : HookAnswer) → IsOwnersWork w (Phase.Remounts x) hook
remount_work w x hook = grind arith

-- the law of a step of a remount: each part but what the owner knows, and the shown state
abbrev pub RemountKeeps : Config → World → ℕ → HookAnswer → Phase → Type 0
RemountKeeps c w t hook phase =
    ((part : Part) → is_known_part part ≡ false → Holds c (after_step w t phase hook) part) ×
    Moves c (shown c w) t (phase_action w hook (Some phase)) (shown c (after_step w t phase hook))

-- what it knows moves with its trace
pub whole_remount : (c : Config) (w : World) (t : ℕ) → t < c.tasks → IsGood c w → (hook : HookAnswer) (x : Remount) →
    (w.views t).phase ≡ Some (Phase.Remounts x) → RemountKeeps c w t hook (Phase.Remounts x) → StepKeeps c w t hook (Phase.Remounts x)
whole_remount c w t lt good hook x e keeps = (
  λ part. elim (cases_Bool (is_known_part part)) [
    | inl h ↦ subst (Holds c (after_step w t (Phase.Remounts x) hook)) (sym (known_is part h))
        (known_after c w t (Phase.Remounts x) hook good lt e (remount_work w x hook))
    | inr h ↦ keeps.0 part h
  ],
  keeps.1,
)

-- a step, among so many nodes, at which `umount` is owned, `remount` stands so, and the remount is doing this at the tree
abbrev pub StaysAtStep : ℕ → RemountStep → ℕ → TreeRole → Type 0
StaysAtStep nodes s set role = (remount_owns s ≡ 1) × (remount_sets s ≡ set) × (remount_tree_role nodes s ≡ role)

-- A step to which a remount in this role goes on without a change of the stage and the flags: its role is alike, and what it relies on is
-- so of this stage, these flags and these marks.
abbrev pub NextRoleHolds : StageRole → ℕ → RemountStep → ℕ → ℕ → (ℕ → ℕ) → Type 0
NextRoleHolds old nodes s stage sb dirty =
    SameDuties old (remount_stage_role nodes s) × KnowsStage stage sb (remount_stage_role nodes s) ×
    CleanBelow (clean_by (remount_stage_role nodes s)) dirty

-- in the loop over the mounts
abbrev pub in_loop : StageRole
in_loop = Owning (Some 0) (Some 0)

-- an owner goes on as an owner, where what it relies on then is so
pub owner_on : (old_stage old_sb new_stage new_sb : Option ℕ) (stage sb : ℕ) (dirty : ℕ → ℕ) → IsKnown new_stage stage → IsKnown new_sb sb →
    SameDuties (Owning old_stage old_sb) (Owning new_stage new_sb) × (IsKnown new_stage stage × IsKnown new_sb sb) × CleanBelow 0 dirty
owner_on old_stage old_sb new_stage new_sb stage sb dirty a b = grind arith

module _ (c : Config) (w : World) (good : IsGood c w) (t : ℕ) (lt : t < c.tasks) (x : Remount) (s : RemountStep)
    (e : (w.views t).phase ≡ Some (Phase.Remounts (at_remount x s))) where
  pub here_fits : PhaseFits c t (held_of (w.views t)) (Phase.Remounts (at_remount x s))
  here_fits = subst (Fits c t (held_of (w.views t))) e (good Fitting t lt)

  -- what its step relies on is so
  pub here_knows : KnowsStage w.words.stage w.words.sb (remount_stage_role x.nodes s)
  here_knows = subst (λ p. KnowsStage w.words.stage w.words.sb (stage_role_of p)) e ((good Stages).knows t lt)

  -- the marks that it has cleared are clear
  pub here_cleared : CleanBelow (clean_by (remount_stage_role x.nodes s)) (marks_of w.words)
  here_cleared = subst (λ p. CleanBelow (clean_by (stage_role_of p)) (marks_of w.words)) e ((marks_right c w good).cleared t lt)

  pub role_was : (m : ℕ) → role_of m (w.views t).phase ≡ remount_role m s
  role_was m = ap (role_of m) e

  -- one mount, where its flags, `remount` and the superblock's flags are these, and this task's role is this
  abbrev pub Mount : ℕ → ℕ → ℕ → ℕ → Role → Type 0
  Mount m f set sealing r =
      MountHolds c.tasks c.processors f set sealing (w.words.count m)
      (update (λ y. at_mount m (w.views y)) t (record (at_mount m (w.views t)) { role = r }))

  pub role_stays : (m : ℕ) (f set sealing : ℕ) (r : Role) → r ≡ remount_role m s →
      MountHolds c.tasks c.processors f set sealing (w.words.count m) (λ y. at_mount m (w.views y)) → Mount m f set sealing r
  role_stays m f set sealing r q h =
      holds_as refl refl refl refl
      (ap (update (λ y. at_mount m (w.views y)) t) (view_as refl refl refl (q ∙ sym (role_was m))) ∙
      update_same (λ y. at_mount m (w.views y)) t) h

  pub mount_stays : (m : ℕ) → m < c.mounts → (r : Role) → r ≡ remount_role m s → Mount m (w.words.flags m) w.words.remount w.words.sb r
  mount_stays m lm r q = role_stays m (w.words.flags m) w.words.remount w.words.sb r q (good (AtMount m) lm)

  -- the view counts what it counted, and holds what it held
  abbrev pub SameCounts : View → Type 0
  SameCounts v = (held_of v ≡ held_of (w.views t)) × (added_by v.events ≡ added_by (w.views t).events) ×
      (taken_by v.events ≡ taken_by (w.views t).events) × (level_added_by v.events ≡ level_added_by (w.views t).events) ×
      (level_taken_by v.events ≡ level_taken_by (w.views t).events)

  at_levels : (v : View) → SameCounts v → SameLevelCounts (w.views t) v
  at_levels v same = record { held_same = ap (λ (h : Holdings). h.levels) same.0; added_same = same.3; taken_same = same.4 }

  off_now : IsOffLevels (w.views t).phase
  off_now = subst IsOffLevels (sym e) refl

  -- each part but what the owner knows
  abbrev pub PartsHold : Words → View → Type 0
  PartsHold ws v = (part : Part) → is_known_part part ≡ false → Holds c (record { words = ws; views = update w.views t v }) part

  -- the part of the stage, and that of the tree
  abbrev pub StageHolds : Words → View → Type 0
  StageHolds ws v = Holds c (record { words = ws; views = update w.views t v }) Stages

  abbrev pub TreeIsRight : Words → View → Type 0
  TreeIsRight ws v = Holds c (record { words = ws; views = update w.views t v }) Tree

  pub tree_was : tree_roles w t ≡ remount_tree_role x.nodes s
  tree_was = ap (tree_role_of (w.views t).trace) e

  -- the tree after a step that leaves its words, of a remount that does there what it did
  pub tree_stays : (ws : Words) (v : View) → ws.used ≡ w.words.used → ws.removed ≡ w.words.removed →
      ws.node ≡ w.words.node → ws.kids ≡ w.words.kids → is_sealed ws ≡ is_sealed w.words → is_bare_at ws ≡ is_bare_at w.words →
      tree_role_of v.trace v.phase ≡ remount_tree_role x.nodes s → TreeIsRight ws v
  tree_stays ws v used removed node kids sealed bare role =
      left_alone c w t lt Tree ws v (used, removed, node, kids, sealed, bare) (role ∙ sym tree_was) (good Tree)

  -- the tree of these words, where it is doing this there
  abbrev pub tree_where : Words → TreeRole → TreeState
  tree_where ws role = record {
    sealed = is_sealed ws;
    bare = is_bare_at ws;
    used = ws.used;
    removed = ws.removed;
    node = ws.node;
    kids = ws.kids;
    at = update (tree_roles w) t role;
  }

  -- the tree after one of the tree's steps, with which the remount comes to do this there
  pub tree_by : IsWithin c → (ws : Words) (v : View) (role : TreeRole) → tree_role_of v.trace v.phase ≡ role → (action : Option Action) →
      TreeEvent (tree_bounds c) (tree_of w) t (tree_where ws role) action → TreeIsRight ws v
  tree_by lim ws v role now action event =
      tree_after c w good t lt ws v lim action
      (subst (λ r. TreeEvent (tree_bounds c) (tree_of w) t (tree_where ws r) action) (sym now) event)

  -- the same of two steps that come at once
  pub tree_by_two : IsWithin c → (ws : Words) (v : View) (role : TreeRole) → tree_role_of v.trace v.phase ≡ role → (mid : TreeState) →
      (action : Option Action) → TreeEvent (tree_bounds c) (tree_of w) t mid None →
      TreeEvent (tree_bounds c) mid t (tree_where ws role) action → TreeIsRight ws v
  tree_by_two lim ws v role now mid action first second =
      tree_holds c w good t lt ws v
      (each_event (tree_bounds c) (tree_within c lim) mid
      (each_event (tree_bounds c) (tree_within c lim) (tree_of w) (good Tree) t lt mid None first).0 t lt
      (tree_then c w good t lt ws v) action
      (subst (λ r. TreeEvent (tree_bounds c) mid t (tree_where ws r) action) (sym now) second)).0

  -- the stage holds after a step of one of the kinds
  pub stage_holds : (ws : Words) (v : View) (kind : StageEvent) → IsStageEvent c w good t lt ws v kind → StageHolds ws v
  stage_holds ws v kind happens = stages_after c w good t lt ws v kind happens

  -- and after a step on the flags of a mount, or on none, with which the remount goes on
  pub goes_on : (flags : ℕ → ℕ) (s' : RemountStep) (v : View) → v.phase ≡ Some (Phase.Remounts (at_remount x s')) →
      NextRoleHolds (remount_stage_role x.nodes s) x.nodes s' w.words.stage w.words.sb (marks_of w.words) →
      StageHolds (record w.words { flags = flags }) v
  goes_on flags s' v is on =
      stage_holds (record w.words { flags = flags }) v (Recalls (remount_stage_role x.nodes s) (remount_stage_role x.nodes s'))
      (ap stage_role_of e, on.0, on.1, on.2, ap (λ p. playing (stages_in w) t (stage_role_of p)) is)

  -- each part after a step, from what it says of each mount, of the stage and of the tree
  pub each_part : (ws : Words) (v : View) → SameCounts v → SameLevelWords w.words ws → IsOffLevels v.phase →
      ws.count ≡ w.words.count → ((n : ℕ) → opens_in (ws.node n) ≡ opens_in (w.words.node n)) → file_of v.phase ≡ None → TreeIsRight ws v →
      OwnerHolds c.tasks ws.umount ws.remount (λ y. (update w.views t v y).phase) → StageHolds ws v →
      Holds c (record { words = ws; views = update w.views t v }) Holding → ViewFits c t v →
      ((m : ℕ) → m < c.mounts → Mount m (ws.flags m) ws.remount ws.sb (role_of m v.phase)) → PartsHold ws v
  each_part ws v same levels off ec opens none tree owner stage holding fits own Owner k = owner
  each_part ws v same levels off ec opens none tree owner stage holding fits own Stages k = stage
  each_part ws v same levels off ec opens none tree owner stage holding fits own Holding k = holding
  each_part ws v same levels off ec opens none tree owner stage holding fits own Fitting k = λ y ly.
      each_updated (λ z (u : View). ViewFits c z u) w.views t v y fits (λ ne. good Fitting y ly)
  each_part ws v same levels off ec opens none tree owner stage holding fits own Known k = absurd (true≢false k)
  each_part ws v same levels off ec opens none tree owner stage holding fits own Tree k = tree
  each_part ws v same levels off ec opens none tree owner stage holding fits own Files k = record {
    counted = λ n ln. opens n ∙ (good Files).counted n ln ∙ sym (ap (λ f. openers f n) (opens_left c w t lt v (ap (λ (h : Holdings). h.files) same.0)));
    own = λ y ly. each_updated (λ z (u : View). HasFile (has_open u) (file_of u.phase)) w.views t v y
        (subst (HasFile (has_open v)) (sym none) tt) (λ ne. (good Files).own y ly);
  }
  each_part ws v same levels off ec opens none tree owner stage holding fits own (AtMount m) k = λ lm.
      holds_as refl refl refl (ap (λ f. f m) ec)
      (update_map (at_mount m) w.views t v ∙ ap (update (λ y. at_mount m (w.views y)) t)
      (view_as (ap (λ (h : Holdings). h.mounts m) same.0) (ap (λ g. g m) same.1) (ap (λ g. g m) same.2) refl)) (own m lm)
  each_part ws v same levels off ec opens none tree owner stage holding fits own (AtLevel i) k =
      level_left c w t lt good ws v levels (at_levels v same) off_now off i
  each_part ws v same levels off ec opens none tree owner stage holding fits own (SyncAt i) k =
      sync_left c w t lt good ws v levels (at_levels v same) off_now off i
  each_part ws v same levels off ec opens none tree owner stage holding fits own Sections k =
      sections_left c w t lt good ws v levels (at_levels v same) off_now off

  -- the shown state after it: the superblock's flag alone may change
  pub seal_shown : (ws : Words) (v : View) (b : Bool) → ws.block ≡ w.words.block →
      ◌≡◌ {A = ℕ → Bool} (λ m. ro_bit (ws.flags m) == 1) (λ m. ro_bit (w.words.flags m) == 1) → ws.stage ≡ w.words.stage →
      ws.holders ≡ w.words.holders → ws.node ≡ w.words.node → ((i : ℕ) → closing i v.phase ≡ closing i (w.views t).phase) → SameCounts v →
      (ws.remount == 1 || ws.sb == 1) ≡ b →
      shown c (record { words = ws; views = update w.views t v }) ≡ record (shown c w) { sb_ro = b }
  seal_shown ws v b eb ef es eo en ec same h =
      shown_held c w t lt ws v eb ec same.0 ∙
      (λ j. record (shown c w) {
        mount_ro = ef j;
        sb_ro = h j;
        stage = es j;
        holders = holders_in (eo j);
        tree = λ n. node_shown (en j n);
      })

  module _ (o : remount_owns s ≡ 1) (s' : RemountStep) (v : View) (is : v.phase ≡ Some (Phase.Remounts (at_remount x s'))) (same : SameCounts v)
      (fits : ViewFits c t v) where
    -- the phase that comes is off the levels
    off_then : IsOffLevels v.phase
    off_then = subst IsOffLevels (sym is) refl

    -- it has nothing to do with the holders, as before
    holding_then : (ws : Words) → ws.stage ≡ w.words.stage → ws.holders ≡ w.words.holders →
        Holds c (record { words = ws; views = update w.views t v }) Holding
    holding_then ws es eh = holders_stay c w good t lt ws v es eh (ap holder_role_of is ∙ sym (ap holder_role_of e))

    -- it closes no level, as before
    closes_same : (i : ℕ) → closing i v.phase ≡ closing i (w.views t).phase
    closes_same i = ap (closing i) is ∙ sym (ap (closing i) e)

    steady_to : remount_owns s' ≡ 1 → remount_sets s' ≡ remount_sets s → IsSteady (w.views t).phase v.phase
    steady_to o' q = grind arith

    tree_now : tree_role_of v.trace v.phase ≡ remount_tree_role x.nodes s'
    tree_now = ap (tree_role_of v.trace) is

    -- a load by the owner, after which this step comes
    pub loads : remount_owns s' ≡ 1 → remount_sets s' ≡ remount_sets s → TreeIsRight w.words v → StageHolds w.words v →
        ((m : ℕ) → m < c.mounts → Mount m (w.words.flags m) w.words.remount w.words.sb (remount_role m s')) →
        PartsHold w.words v × (shown c (record { words = w.words; views = update w.views t v }) ≡ shown c w)
    loads owning sets tree stage own =
        let still : IsSteady (w.views t).phase v.phase = steady_to owning sets in (
          each_part w.words v same
              (record { block_same = refl; level_same = refl; sync_same = refl; section_same = refl; whole_same = refl }) off_then
              refl (λ n. refl) (ap file_of is) tree (owner_same c w t lt good v still) stage
              (holding_then w.words refl refl) fits
              (λ m lm. subst (Mount m (w.words.flags m) w.words.remount w.words.sb) (sym (ap (role_of m) is)) (own m lm)),
          shown_still c w t lt w.words v refl refl refl refl refl refl refl still.closing_same same.0,
        )

    -- a step on the flags of one mount, which leaves READONLY
    pub flags_change : (at f : ℕ) → StaysAtStep x.nodes s' (remount_sets s) (remount_tree_role x.nodes s) →
        NextRoleHolds (remount_stage_role x.nodes s) x.nodes s' w.words.stage w.words.sb (marks_of w.words) →
        ro_bit f ≡ ro_bit (w.words.flags at) →
        (at < c.mounts → Mount at f w.words.remount w.words.sb (remount_role at s')) →
        ((m : ℕ) → (m ≡ at → ⊥) → remount_role m s' ≡ remount_role m s) →
        let ws : Words = record w.words { flags = update w.words.flags at f } in
        PartsHold ws v × (shown c (record { words = ws; views = update w.views t v }) ≡ shown c w)
    flags_change at f stays on ro here there =
        let ws : Words = record w.words { flags = update w.words.flags at f } in
        let still : IsSteady (w.views t).phase v.phase = steady_to stays.0 stays.1 in (
          each_part ws v same
              (record { block_same = refl; level_same = refl; sync_same = refl; section_same = refl; whole_same = refl }) off_then
              refl (λ n. refl) (ap file_of is) (tree_stays ws v refl refl refl refl refl refl (tree_now ∙ stays.2)) (owner_same c w t lt good v still)
              (goes_on (update w.words.flags at f) s' v is on) (holding_then ws refl refl) fits
              (λ m lm. subst (Mount m (update w.words.flags at f m) w.words.remount w.words.sb) (sym (ap (role_of m) is))
              (elim (eqb_tells m at) [
                | inl q ↦ subst (λ y. Mount y (update w.words.flags at f y) w.words.remount w.words.sb (remount_role y s')) (sym q.1)
                    (subst (λ k. Mount at k w.words.remount w.words.sb (remount_role at s')) (sym (update_at w.words.flags at f))
                    (here (omega (arith, q.1, lm))))
                | inr q ↦ subst (λ k. Mount m k w.words.remount w.words.sb (remount_role m s')) (sym (update_off w.words.flags at f m q.1))
                    (mount_stays m lm (remount_role m s') (there m q.1))
              ])),
          seal_shown ws v (w.words.remount == 1 || w.words.sb == 1) refl
              (update_map (λ y. ro_bit y == 1) w.words.flags at f ∙
              ap (update (λ m. ro_bit (w.words.flags m) == 1) at) (ap (λ y. y == 1) ro) ∙
              update_same (λ m. ro_bit (w.words.flags m) == 1) at)
              refl refl refl still.closing_same same refl,
        )

    pub stores : (set sealing : ℕ) (b : Bool) (role : TreeRole) →
        is_frozen_whole (record w.words { remount = set; sb = sealing }) ≡ is_frozen_whole w.words →
        StaysAtStep x.nodes s' set role → TreeIsRight (record w.words { remount = set; sb = sealing }) v →
        StageHolds (record w.words { remount = set; sb = sealing }) v → (set == 1 || sealing == 1) ≡ b →
        ((m : ℕ) → m < c.mounts → Mount m (w.words.flags m) set sealing (remount_role m s')) →
        let ws : Words = record w.words { remount = set; sb = sealing } in
        PartsHold ws v × (shown c (record { words = ws; views = update w.views t v }) ≡ record (shown c w) { sb_ro = b })
    stores set sealing b role whole stays tree stage shows own =
        let ws : Words = record w.words { remount = set; sb = sealing } in (
          each_part ws v same
              (record { block_same = refl; level_same = refl; sync_same = refl; section_same = refl; whole_same = whole }) off_then
              refl (λ n. refl) (ap file_of is) tree (remount_stored c w good t lt set v (ap owns e ∙ o) (ap owns is ∙ stays.0) (ap remounts is ∙ stays.1))
              stage (holding_then ws refl refl) fits
              (λ m lm. subst (Mount m (w.words.flags m) set sealing) (sym (ap (role_of m) is)) (own m lm)),
          seal_shown ws v b refl refl refl refl refl closes_same same shows,
        )

    -- a step on the word of a node, of a remount that has no role at a mount before and after it
    pub node_changes : (n f : ℕ) (role : TreeRole) → StaysAtStep x.nodes s' (remount_sets s) role →
        opens_in f ≡ opens_in (w.words.node n) → TreeIsRight (record w.words { node = update w.words.node n f }) v →
        StageHolds (record w.words { node = update w.words.node n f }) v →
        ((m : ℕ) → remount_role m s' ≡ remount_role m s) →
        let ws : Words = record w.words { node = update w.words.node n f } in
        PartsHold ws v × (shown c (record { words = ws; views = update w.views t v }) ≡
        record (shown c w) { tree = update (λ k. node_shown (w.words.node k)) n (node_shown f) })
    node_changes n f role stays still_open tree stage roles =
        let ws : Words = record w.words { node = update w.words.node n f } in
        let opens : (k : ℕ) → opens_in (ws.node k) ≡ opens_in (w.words.node k) = λ k.
        each_updated (λ y word. opens_in word ≡ opens_in (w.words.node y)) w.words.node n f k still_open (λ ne. refl) in
        let still : IsSteady (w.views t).phase v.phase = steady_to stays.0 stays.1 in (
          each_part ws v same
              (record { block_same = refl; level_same = refl; sync_same = refl; section_same = refl; whole_same = refl }) off_then
              refl opens (ap file_of is) tree (owner_same c w t lt good v still) stage (holding_then ws refl refl) fits
              (λ m lm. subst (Mount m (w.words.flags m) w.words.remount w.words.sb) (sym (ap (role_of m) is))
              (mount_stays m lm (remount_role m s') (roles m))),
          shown_held c w t lt ws v refl still.closing_same same.0 ∙ (λ j. record (shown c w) { tree = update_map node_shown w.words.node n f j }),
        )

  -- a load by the owner with which it comes to do something else at the tree
  pub load_found : (name : WordName) (hook : HookAnswer) (s' : RemountStep) → remount_owns s ≡ 1 → remount_owns s' ≡ 1 →
      remount_sets s' ≡ remount_sets s →
      TreeIsRight w.words (view_with (w.views t) (name, Touch.Load) (read w.words name) hook (Next.Go (Phase.Remounts (at_remount x s')), None)) →
      NextRoleHolds (remount_stage_role x.nodes s) x.nodes s' w.words.stage w.words.sb (marks_of w.words) →
      RemountFits c s' → ((m : ℕ) → m < c.mounts → Mount m (w.words.flags m) w.words.remount w.words.sb (remount_role m s')) →
      let coming : Next Phase = Next.Go (Phase.Remounts (at_remount x s')) in
      ((part : Part) → is_known_part part ≡ false → Holds c (after_load w t name hook coming) part) ×
      (shown c (after_load w t name hook coming) ≡ shown c w)
  load_found name hook s' o owning sets tree on fit own =
      let v : View = view_with (w.views t) (name, Touch.Load) (read w.words name) hook (Next.Go (Phase.Remounts (at_remount x s')), None) in
      let f : PhaseFits c t (held_of (w.views t)) (Phase.Remounts (at_remount x s)) = here_fits in
      subst (λ ws. let next_world : World = record { words = ws; views = update w.views t v } in
      ((part : Part) → is_known_part part ≡ false → Holds c next_world part) × (shown c next_world ≡ shown c w))
      (sym (load_same w.words name))
      (loads o s' v refl (
        refl,
        added_load name (added_by (w.views t).events),
        taken_load name (taken_by (w.views t).events),
        level_added_load name Touch.Load (level_added_by (w.views t).events) refl,
        level_taken_load name Touch.Load (level_taken_by (w.views t).events) refl,
      )
      (f.0, f.1, f.2, f.3, f.4, fit) owning sets tree (goes_on w.words.flags s' v refl on) own)

  -- a load by the owner, after which this program point comes, as its step
  pub load_event : (name : WordName) (hook : HookAnswer) (s' : RemountStep) → remount_owns s ≡ 1 →
      StaysAtStep x.nodes s' (remount_sets s) (remount_tree_role x.nodes s) →
      NextRoleHolds (remount_stage_role x.nodes s) x.nodes s' w.words.stage w.words.sb (marks_of w.words) →
      RemountFits c s' → ((m : ℕ) → m < c.mounts → Mount m (w.words.flags m) w.words.remount w.words.sb (remount_role m s')) →
      let coming : Next Phase = Next.Go (Phase.Remounts (at_remount x s')) in
      ((part : Part) → is_known_part part ≡ false → Holds c (after_load w t name hook coming) part) ×
      (shown c (after_load w t name hook coming) ≡ shown c w)
  load_event name hook s' o stays on fit own =
      let v : View = view_with (w.views t) (name, Touch.Load) (read w.words name) hook (Next.Go (Phase.Remounts (at_remount x s')), None) in
      load_found name hook s' o stays.0 stays.1 (tree_stays w.words v refl refl refl refl refl refl stays.2) on fit own

  -- a step on `umount`, of a task that has no role at a mount before and after it, and does at the tree what it did
  pub umount_changes : (n : ℕ) (v : View) → SameCounts v → ViewFits c t v →
      OwnerHolds c.tasks n w.words.remount (λ y. (update w.views t v y).phase) →
      StageHolds (record w.words { umount = n }) v → IsOffLevels v.phase →
      ((m : ℕ) → role_of m v.phase ≡ remount_role m s) → tree_role_of v.trace v.phase ≡ remount_tree_role x.nodes s →
      ((i : ℕ) → closing i v.phase ≡ 0) → holder_role_of v.phase ≡ Apart → file_of v.phase ≡ None →
      let ws : Words = record w.words { umount = n } in
      PartsHold ws v × (shown c (record { words = ws; views = update w.views t v }) ≡ shown c w)
  umount_changes n v same fits owner stage off role tree close apart no_file =
      let ws : Words = record w.words { umount = n } in (
        each_part ws v same (record { block_same = refl; level_same = refl; sync_same = refl; section_same = refl; whole_same = refl }) off
            refl (λ n. refl) no_file (tree_stays ws v refl refl refl refl refl refl tree) owner stage
            (holders_stay c w good t lt ws v refl refl (apart ∙ sym (ap holder_role_of e))) fits
            (λ m lm. mount_stays m lm (role_of m v.phase) (role m)),
        shown_still c w t lt ws v refl refl refl refl refl refl refl
            (λ i. close i ∙ sym (ap (closing i) e)) same.0,
      )
