-- What a step leaves alone.
use Rattle.gate_schedules.proofs.Prelude.{AtLevel, AtMount, Bool, Config, Files, Fits, Fitting, GatesHold, HasFile, Holding, Holdings, Holds, IsGood}
use Rattle.gate_schedules.proofs.Prelude.{IsSteady, Known, LevelRole, Option, Owner, OwnerHolds, Part, Phase, Roles, SameWords, Sections, StageRole}
use Rattle.gate_schedules.proofs.Prelude.{Stages, SyncAt, SyncRole, Touch, Tree, TreeHolds, TreeState, View, ViewFits, WordName, Words, World, ap}
use Rattle.gate_schedules.proofs.Prelude.{arith, at_level, at_mount, closing, common_steps, each_updated, eq-eqb, eqb_tells, false, file_of, has_open}
use Rattle.gate_schedules.proofs.Prelude.{held_at, held_of, holder_role_of, holders_in, holds_level, if◌then◌else◌, inl, inr, inside, is_frozen_whole}
use Rattle.gate_schedules.proofs.Prelude.{level_added_by, level_taken_by, ne_eqb, no_roles, node_shown, openers, opens_in, owns, refl, remounts}
use Rattle.gate_schedules.proofs.Prelude.{ro_bit, roles_of, shown, stage_role_of, stage_roles, subst, suc, sym, sync_role_if, sync_role_of}
use Rattle.gate_schedules.proofs.Prelude.{total_updated, tree_bounds, tree_role_of, tree_roles, true, true≢false, update, update_map, update_same, ℕ}
use Rattle.gate_schedules.proofs.Prelude.{◌%◌, ◌+◌, ◌<◌, ◌==◌, ◌||◌, ◌∙◌, ◌≡◌}
use Rattle.cpu_words.specs.gate_counts.Levels.{LevelHolds, LevelView, Out as CountsNot}
use Rattle.freeze_laws.specs.{levels.Roles.{Out as IsApart, SyncNumberHolds}, stages.Roles.StagesHold}
use Rattle.freeze_levels.specs.holder_laws.Roles.{HolderRole, HoldersHold}
use Rattle.gate_world.specs.{Owners.KnowsWords, Roles.{count_role_if, role_if}, Rules.{SameView, holder_roles}, Shown.is_passed}
use Rattle.gate_world.specs.Views.{added_after, taken_after}
use Rattle.{gated_tree.specs.Roles.Role as TreeRole, mount_counts.specs.Roles.{MountHolds, MountView, Out, Role}}
use Rattle.gate_schedules.proofs.frames.Known.{known_same}

pub added_load : (name : WordName) (added : ℕ → ℕ → ℕ) → added_after name Touch.Load added ≡ added
added_load name added = grind arith

pub taken_load : (name : WordName) (taken : ℕ → ℕ → ℕ) → taken_after name Touch.Load taken ≡ taken
taken_load name taken = grind arith

pub role_on : (m : ℕ) (r : Role) → role_if (m == m) r ≡ r
role_on m r = rw (eq-eqb m m refl)

pub role_off : (n m : ℕ) (r : Role) → (n ≡ m → ⊥) → role_if (n == m) r ≡ Out
role_off n m r ne = rw (ne_eqb n m ne)

-- nobody has a role at one mount, or level, that is none
pub role_none : (y m : ℕ) → role_if (y == m) Out ≡ Out
role_none y m = elim (y == m) as (λ b. role_if b Out ≡ Out) [ true ↦ refl | false ↦ refl ]

pub count_none : (j i : ℕ) → count_role_if (j == i) CountsNot ≡ CountsNot
count_none j i = elim (j == i) as (λ b. count_role_if b CountsNot ≡ CountsNot) [ true ↦ refl | false ↦ refl ]

pub sync_none : (j i : ℕ) → sync_role_if (j == i) IsApart ≡ IsApart
sync_none j i = elim (j == i) as (λ b. sync_role_if b IsApart ≡ IsApart) [ true ↦ refl | false ↦ refl ]

pub view_as : {h h' : ℕ} {a a' k k' : ℕ → ℕ} {r r' : Role} → h ≡ h' → a ≡ a' → k ≡ k' → r ≡ r' →
    ◌≡◌ {A = MountView} (record { held = h; added = a; taken = k; role = r }) (record { held = h'; added = a'; taken = k'; role = r' })
view_as eh ea ek er = λ i. record { held = eh i; added = ea i; taken = ek i; role = er i }

pub holds_as : {tasks processors f f' r r' s s' : ℕ} {c c' : ℕ → ℕ} {at at' : ℕ → MountView} → f ≡ f' → r ≡ r' → s ≡ s' → c ≡ c' →
    at ≡ at' →
    MountHolds tasks processors f' r' s' c' at' → MountHolds tasks processors f r s c at
holds_as {tasks} {processors} ef er es ec ea h = subst (λ X. X) (sym (λ i. MountHolds tasks processors (ef i) (er i) (es i) (ec i) (ea i)))
    h

pub stages_as : {tasks s s' f f' r r' : ℕ} {b b' : ℕ → ℕ} {at at' : ℕ → StageRole} → s ≡ s' → f ≡ f' → r ≡ r' → b ≡ b' → at ≡ at' →
    StagesHold tasks s' f' r' b' at' → StagesHold tasks s f r b at
stages_as {tasks} es ef er eb ea h = subst (λ X. X) (sym (λ i. StagesHold tasks (es i) (ef i) (er i) (eb i) (ea i))) h

pub holders_as : {tasks s s' h h' : ℕ} {at at' : ℕ → HolderRole} → s ≡ s' → h ≡ h' → at ≡ at' → HoldersHold tasks s' h' at' →
    HoldersHold tasks s h at
holders_as {tasks} es eh ea h = subst (λ X. X) (sym (λ i. HoldersHold tasks (es i) (eh i) (ea i))) h

-- a tree with the same words and roles
pub tree_as : {s s' b b' u u' r r' : ℕ} {n n' k k' : ℕ → ℕ} {at at' : ℕ → TreeRole} → s ≡ s' → b ≡ b' → u ≡ u' → r ≡ r' → n ≡ n' → k ≡ k' →
    at ≡ at' →
    ◌≡◌ {A = TreeState} (record { sealed = s; bare = b; used = u; removed = r; node = n; kids = k; at = at })
    (record { sealed = s'; bare = b'; used = u'; removed = r'; node = n'; kids = k'; at = at' })
tree_as es eb eu er en ek ea =
    λ i. record { sealed = es i; bare = eb i; used = eu i; removed = er i; node = en i; kids = ek i; at = ea i }

-- a view of a level with the same accesses, net additions and role
pub level_view_as : {h h' : ℕ} {a a' k k' : ℕ → ℕ} {r r' : LevelRole} → h ≡ h' → a ≡ a' → k ≡ k' → r ≡ r' →
    ◌≡◌ {A = LevelView} (record { held = h; added = a; taken = k; role = r }) (record { held = h'; added = a'; taken = k'; role = r' })
level_view_as eh ea ek er = λ i. record { held = eh i; added = ea i; taken = ek i; role = er i }

pub level_as : {tasks processors b b' f f' : ℕ} {c c' : ℕ → ℕ} {at at' : ℕ → LevelView} → b ≡ b' → f ≡ f' → c ≡ c' → at ≡ at' →
    LevelHolds tasks processors b' f' c' at' → LevelHolds tasks processors b f c at
level_as {tasks} {processors} eb ef ec ea h = subst (λ X. X) (sym (λ i. LevelHolds tasks processors (eb i) (ef i) (ec i) (ea i))) h

pub sync_as : {tasks n n' b b' f f' : ℕ} {s s' : ℕ → ℕ} {at at' : ℕ → SyncRole} → n ≡ n' → b ≡ b' → f ≡ f' → s ≡ s' → at ≡ at' →
    SyncNumberHolds tasks n' b' f' s' at' → SyncNumberHolds tasks n b f s at
sync_as {tasks} en eb ef es ea h = subst (λ X. X) (sym (λ i. SyncNumberHolds tasks (en i) (eb i) (ef i) (es i) (ea i))) h

-- words are as they were, to each part
pub same_words : (w : Words) (part : Part) → SameWords w w part
same_words w part = grind arith

-- so are words that differ in some alone, to each part that doesn't read these: there its two sides compute to the words themselves
pub unwritten : {old new : Words} → new ≡ old → (part : Part) → SameWords old new part
unwritten {old} e part = subst (λ ws. SameWords old ws part) (sym e) (same_words old part)

-- one mount after a step of this task, which makes this of its flags and counts and of the task's view
abbrev pub MountHoldsAfter : Config → World → ℕ → ℕ → ℕ → (ℕ → ℕ) → MountView → Type 0
MountHoldsAfter c w t m flags count v =
    MountHolds c.tasks c.processors flags w.words.remount w.words.sb count (update (λ x. at_mount m (w.views x)) t v)

module _ (c : Config) (w : World) (t : ℕ) (lt : t < c.tasks) where
  -- a level is passed as before, where neither its word nor the task's part in its closing changes
  pub passed_same : (ws : Words) (v : View) (i : ℕ) → ws.block i ≡ w.words.block i → closing i v.phase ≡ closing i (w.views t).phase →
      is_passed c (record { words = ws; views = update w.views t v }) i ≡ is_passed c w i
  passed_same ws v i eb ec = grind (arith, common_steps)

  -- the shown state after a step that is no step of a freeze
  pub shown_as : (ws : Words) (v : View) → ws.block ≡ w.words.block → ((i : ℕ) → closing i v.phase ≡ closing i (w.views t).phase) →
      shown c (record { words = ws; views = update w.views t v }) ≡
      record (shown c w) {
        mounts = update (λ x. held_at (w.views x)) t (held_at v);
        levels = update (λ x. holds_level (w.views x)) t (holds_level v);
        opens = update (λ x. has_open (w.views x)) t (has_open v);
        mount_ro = λ m. ro_bit (ws.flags m) == 1;
        sb_ro = ws.remount == 1 || ws.sb == 1;
        stage = ws.stage;
        holders = holders_in ws.holders;
        tree = λ n. node_shown (ws.node n);
      }
  shown_as ws v eb ec = λ j. record {
    mounts = update_map held_at w.views t v j;
    levels = update_map holds_level w.views t v j;
    opens = update_map has_open w.views t v j;
    mount_ro = λ m. ro_bit (ws.flags m) == 1;
    sb_ro = ws.remount == 1 || ws.sb == 1;
    stage = ws.stage;
    holders = holders_in ws.holders;
    passed = passed_same ws v 1 (ap (λ f. f 1) eb) (ec 1) j + (passed_same ws v 2 (ap (λ f. f 2) eb) (ec 2) j + passed_same ws v 3
        (ap (λ f. f 3) eb) (ec 3) j);
    tree = λ n. node_shown (ws.node n);
  }

  -- and of a task that holds what it held
  pub shown_held : (ws : Words) (v : View) → ws.block ≡ w.words.block → ((i : ℕ) → closing i v.phase ≡ closing i (w.views t).phase) →
      held_of v ≡ held_of (w.views t) →
      shown c (record { words = ws; views = update w.views t v }) ≡
      record (shown c w) {
        mount_ro = λ m. ro_bit (ws.flags m) == 1;
        sb_ro = ws.remount == 1 || ws.sb == 1;
        stage = ws.stage;
        holders = holders_in ws.holders;
        tree = λ n. node_shown (ws.node n);
      }
  shown_held ws v eb ec eh =
      shown_as ws v eb ec ∙
      (λ j. record (shown c w) {
        mounts = (ap (λ (h : Holdings). update (λ x. held_at (w.views x)) t h.mounts) eh ∙ update_same (λ x. held_at (w.views x)) t) j;
        levels = (ap (λ (h : Holdings). update (λ x. holds_level (w.views x)) t h.levels) eh ∙ update_same (λ x. holds_level (w.views x)) t) j;
        opens = (ap (λ (h : Holdings). update (λ x. has_open (w.views x)) t h.files) eh ∙ update_same (λ x. has_open (w.views x)) t) j;
        mount_ro = λ m. ro_bit (ws.flags m) == 1;
        sb_ro = ws.remount == 1 || ws.sb == 1;
        stage = ws.stage;
        holders = holders_in ws.holders;
        tree = λ n. node_shown (ws.node n);
      })

  -- and leaves the words that are shown
  pub shown_still : (ws : Words) (v : View) → ws.block ≡ w.words.block → ws.flags ≡ w.words.flags → ws.remount ≡ w.words.remount →
      ws.sb ≡ w.words.sb → ws.stage ≡ w.words.stage → ws.holders ≡ w.words.holders → ws.node ≡ w.words.node →
      ((i : ℕ) → closing i v.phase ≡ closing i (w.views t).phase) → held_of v ≡ held_of (w.views t) →
      shown c (record { words = ws; views = update w.views t v }) ≡ shown c w
  shown_still ws v eb ef er es eg ew en ec eh =
      shown_held ws v eb ec eh ∙
      (λ j. record (shown c w) {
        mount_ro = λ m. ro_bit (ef j m) == 1;
        sb_ro = er j == 1 || es j == 1;
        stage = eg j;
        holders = holders_in (ew j);
        tree = λ n. node_shown (en j n);
      })

  -- what each task is doing with the stage, where this one does what it did
  pub stage_roles_left : (v : View) → stage_role_of v.phase ≡ stage_role_of (w.views t).phase →
      ◌≡◌ {A = ℕ → StageRole} (λ x. stage_role_of (update w.views t v x).phase) (stage_roles w)
  stage_roles_left v seen =
      update_map (λ (u : View). stage_role_of u.phase) w.views t v ∙ ap (update (stage_roles w) t) seen ∙ update_same (stage_roles w) t

  -- what each task is doing with those who hold a freeze, where this one does what it did
  pub holder_roles_left : (v : View) → holder_role_of v.phase ≡ holder_role_of (w.views t).phase →
      ◌≡◌ {A = ℕ → HolderRole} (λ x. holder_role_of (update w.views t v x).phase) (holder_roles w)
  holder_roles_left v seen =
      update_map (λ (u : View). holder_role_of u.phase) w.views t v ∙ ap (update (holder_roles w) t) seen ∙ update_same (holder_roles w) t

  -- what each task is doing at the tree, where this one does what it did
  pub tree_roles_left : (v : View) → tree_role_of v.trace v.phase ≡ tree_role_of (w.views t).trace (w.views t).phase →
      ◌≡◌ {A = ℕ → TreeRole} (λ x. tree_role_of (update w.views t v x).trace (update w.views t v x).phase) (tree_roles w)
  tree_roles_left v seen =
      update_map (λ (u : View). tree_role_of u.trace u.phase) w.views t v ∙ ap (update (tree_roles w) t) seen ∙
      update_same (tree_roles w) t

  -- which files each task has open, where this one has those that it had
  pub opens_left : (v : View) → has_open v ≡ has_open (w.views t) →
      ◌≡◌ {A = ℕ → ℕ → Bool} (λ x. has_open (update w.views t v x)) (λ x. has_open (w.views x))
  opens_left v seen =
      update_map has_open w.views t v ∙ ap (update (λ x. has_open (w.views x)) t) seen ∙ update_same (λ x. has_open (w.views x)) t

  -- each conjunct of the invariant where a step leaves what it reads
  pub left_alone : (part : Part) (ws : Words) (v : View) → SameWords w.words ws part → SameView (w.views t) v part → Holds c w part →
      Holds c (record { words = ws; views = update w.views t v }) part
  left_alone Owner ws v same seen h = record {
    locked = λ x lx o. same.0 ∙ each_updated (λ y (u : View). y < c.tasks → owns u.phase ≡ 1 → w.words.umount ≡ suc y) w.views t v x
        (λ l e. h.locked t l (sym seen.0 ∙ e)) (λ ne. h.locked x) lx o;
    owned = λ x lx o. each_updated (λ y (u : View). y < c.tasks → w.words.umount ≡ suc y → owns u.phase ≡ 1) w.views t v x
        (λ l e. seen.0 ∙ h.owned t l e) (λ ne. h.owned x) lx (sym same.0 ∙ o);
    known = omega (arith, same.0, h.known);
    bit = omega (arith, same.1, h.bit);
    remounting = omega (arith, same.1, h.remounting, seen.1, total_updated (λ (u : View). remounts u.phase) c.tasks t w.views v lt);
  }
  left_alone Stages ws v same seen h = stages_as same.0 same.1 same.2 same.3 (stage_roles_left v seen) h
  left_alone Holding ws v same seen h = holders_as same.0 same.1 (holder_roles_left v seen) h
  left_alone Fitting ws v same seen h = λ x lx.
      each_updated (λ y (u : View). ViewFits c y u) w.views t v x
      (subst (Fits c t (held_of v)) (sym seen.1) (subst (λ k. Fits c t k (w.views t).phase) (sym seen.0) (h t lt))) (λ ne. h x lx)
  left_alone Known ws v same seen h = λ x lx.
      each_updated (λ y (u : View). owns u.phase ≡ 1 → KnowsWords ws u.trace) w.views t v x
      (λ o. subst (KnowsWords ws) (sym seen.1) (known_same w.words ws same (w.views t).trace (h t lt (sym seen.0 ∙ o))))
      (λ ne o. known_same w.words ws same (w.views x).trace (h x lx o))
  left_alone Tree ws v same seen h =
      subst (TreeHolds (tree_bounds c)) (sym (tree_as same.4 same.5 same.0 same.1 same.2 same.3 (tree_roles_left v seen))) h
  left_alone Files ws v same seen h = record {
    counted = λ n ln. ap (λ f. opens_in (f n)) same ∙ h.counted n ln ∙ sym (ap (λ f. openers f n) (opens_left v seen.0));
    own = λ x lx. each_updated (λ y (u : View). HasFile (has_open u) (file_of u.phase)) w.views t v x
        (subst (HasFile (has_open v)) (sym seen.1) (subst (λ f. HasFile f (file_of (w.views t).phase)) (sym seen.0) (h.own t lt)))
        (λ ne. h.own x lx);
  }
  left_alone (AtMount m) ws v same seen h = λ lm.
      holds_as same.0 same.1 same.2 same.3 (update_map (at_mount m) w.views t v ∙
      (ap (update (λ x. at_mount m (w.views x)) t) seen ∙ update_same (λ x. at_mount m (w.views x)) t)) (h lm)
  left_alone (AtLevel i) ws v same seen h = λ l1 l3.
      level_as same.0 same.2 same.1 (update_map (at_level i) w.views t v ∙
      (ap (update (λ x. at_level i (w.views x)) t) seen ∙ update_same (λ x. at_level i (w.views x)) t)) (h l1 l3)
  left_alone (SyncAt i) ws v same seen h = λ l1 l3.
      sync_as same.0 same.1 same.3 same.2 (update_map (λ (u : View). sync_role_of i u.phase) w.views t v ∙
      (ap (update (λ x. sync_role_of i (w.views x).phase) t) seen ∙ update_same (λ x. sync_role_of i (w.views x).phase) t)) (h l1 l3)
  left_alone Sections ws v same seen h = λ x lx.
      ap (λ f. f x % 2) same ∙
      each_updated (λ y (u : View). y < c.tasks → w.words.section y % 2 ≡ inside u.phase) w.views t v x
      (λ l. h t l ∙ sym seen) (λ ne. h x) lx

  module _ (good : IsGood c w) where
    pub owner_same : (v : View) → IsSteady (w.views t).phase v.phase →
        OwnerHolds c.tasks w.words.umount w.words.remount (λ x. (update w.views t v x).phase)
    owner_same v same = left_alone Owner w.words v (refl, refl) (same.owns_same, same.remounts_same) (good Owner)

    -- a step that touches one mount
    pub gates_after : (m : ℕ) (ws : Words) (v : View) →
        ws.remount ≡ w.words.remount → ws.sb ≡ w.words.sb →
        OwnerHolds c.tasks ws.umount ws.remount (λ x. (update w.views t v x).phase) →
        ViewFits c t v →
        ((n : ℕ) → (n ≡ m → ⊥) → (ws.flags n ≡ w.words.flags n) × (ws.count n ≡ w.words.count n) × (at_mount n v ≡ at_mount n (w.views t)))
        →
        (m < c.mounts → MountHoldsAfter c w t m (ws.flags m) (ws.count m) (at_mount m v)) →
        GatesHold c (record { words = ws; views = update w.views t v })
    gates_after m ws v er es owner fits off own Owner h = owner
    gates_after m ws v er es owner fits off own Fitting h = λ x lx. each_updated (λ y u. ViewFits c y u) w.views t v x fits
        (λ ne. good Fitting x lx)
    gates_after m ws v er es owner fits off own (AtMount n) h = λ ln.
        elim (eqb_tells n m) [
          | inl q ↦
              let lm : m < c.mounts = omega (arith, q.1) in
              let here : MountHolds c.tasks c.processors (ws.flags m) ws.remount ws.sb (ws.count m)
              (λ x. at_mount m (update w.views t v x)) =
              holds_as refl er es refl (update_map (at_mount m) w.views t v) (own lm) in
              subst (λ y. MountHolds c.tasks c.processors (ws.flags y) ws.remount ws.sb (ws.count y)
              (λ x. at_mount y (update w.views t v x))) (sym q.1) here
          | inr q ↦
              let o : (ws.flags n ≡ w.words.flags n) × (ws.count n ≡ w.words.count n) × (at_mount n v ≡ at_mount n (w.views t)) =
              off n q.1 in
              left_alone (AtMount n) ws v (o.0, er, es, o.1) o.2 (good (AtMount n)) ln
        ]
    gates_after m ws v er es owner fits off own part h = absurd (true≢false (sym h))

-- of these roles those at levels
abbrev pub at_levels : Roles → Roles
at_levels r = record no_roles { count = r.count; sync = r.sync; inside = r.inside }

-- a phase that has none
abbrev pub IsOffLevels : Option Phase → Type 0
IsOffLevels p = at_levels (roles_of p) ≡ no_roles

-- what the parts of levels read of the words is the same
pub record SameLevelWords (old new : Words) : Type 0 where
  pub block_same : new.block ≡ old.block
  pub level_same : new.level ≡ old.level
  pub sync_same : new.sync ≡ old.sync
  pub section_same : new.section ≡ old.section
  pub whole_same : is_frozen_whole new ≡ is_frozen_whole old

-- and of a view's accesses and net additions
pub record SameLevelCounts (old new : View) : Type 0 where
  pub held_same : holds_level new ≡ holds_level old
  pub added_same : level_added_by new.events ≡ level_added_by old.events
  pub taken_same : level_taken_by new.events ≡ level_taken_by old.events

-- so a step of such a phase leaves the levels alone
module _ (c : Config) (w : World) (t : ℕ) (lt : t < c.tasks) (good : IsGood c w) (ws : Words) (v : View)
    (words : SameLevelWords w.words ws) (counts : SameLevelCounts (w.views t) v) (was : IsOffLevels (w.views t).phase)
    (now : IsOffLevels v.phase) where
  pub level_left : (i : ℕ) → Holds c (record { words = ws; views = update w.views t v }) (AtLevel i)
  level_left i =
      left_alone c w t lt (AtLevel i) ws v (ap (λ f. f i) words.block_same, ap (λ f. f i) words.level_same, words.whole_same)
      (level_view_as (ap (λ (f : ℕ → Bool). if f i then 1 else 0) counts.held_same) (ap (λ f. f i) counts.added_same)
      (ap (λ f. f i) counts.taken_same) ((λ j. (now j).count i) ∙ sym (λ j. (was j).count i))) (good (AtLevel i))

  pub sync_left : (i : ℕ) → Holds c (record { words = ws; views = update w.views t v }) (SyncAt i)
  sync_left i =
      left_alone c w t lt (SyncAt i) ws v
      (ap (λ f. f i) words.sync_same, ap (λ f. f i) words.block_same, words.section_same, words.whole_same)
      ((λ j. (now j).sync i) ∙ sym (λ j. (was j).sync i)) (good (SyncAt i))

  pub sections_left : Holds c (record { words = ws; views = update w.views t v }) Sections
  sections_left = left_alone c w t lt Sections ws v words.section_same ((λ j. (now j).inside) ∙ sym (λ j. (was j).inside)) (good Sections)
