-- What a step at a freeze level leaves alone, where it leaves the word `block` of each.
use Rattle.gate_schedules.proofs.Prelude.{AtLevel, AtMount, Config, DownRead, Files, Fitting, Holding, Holds, IsGood, Known, Next, Option, Owner}
use Rattle.gate_schedules.proofs.Prelude.{Phase, Roles, Sections, Some, Stages, SyncAt, Tree, View, ViewFits, Words, World, added_by, ap, arith}
use Rattle.gate_schedules.proofs.Prelude.{at_level, closing, each_updated, has_open, held_at, holders_in, holds_level, inside, is_frozen_whole}
use Rattle.gate_schedules.proofs.Prelude.{map_next, no_roles, node_shown, owns, phase_after, refl, ro_bit, roles_of, shown, sym, sync_role_of}
use Rattle.gate_schedules.proofs.Prelude.{taken_by, update, update_same, ℕ, ◌<◌, ◌==◌, ◌||◌, ◌∙◌, ◌≡◌}
use Rattle.{gate_world.specs.Owners.KnowsWords, percpu_rwsem.specs.declared.readers.UpRead.UpRead}
use Rattle.gate_schedules.proofs.frames.{ByPhase.closing_as, Frames.{left_alone, shown_as, unwritten, view_as}, Known.known_same}

-- the words that are no level's own, and `block`
abbrev pub beside_levels : Words → Words
beside_levels w = record w { level = λ i p. 0; sync = λ i. 0; section = λ t. 0 }

-- are as they were
abbrev pub SameOffLevels : Words → Words → Type 0
SameOffLevels old new = beside_levels new ≡ beside_levels old

-- these roles but for those at levels
abbrev pub off_levels : Roles → Roles
off_levels r = record r { count = no_roles.count; sync = no_roles.sync; inside = 0 }

-- a phase at levels alone has no other
abbrev pub IsAtLevels : Option Phase → Type 0
IsAtLevels p = off_levels (roles_of p) ≡ no_roles

-- a view's accesses at mounts, and what it added to their words and took away, are as they were
pub record SameAtMounts (old new : View) : Type 0 where
  pub held_same : held_at new ≡ held_at old
  pub added_same : added_by new.events ≡ added_by old.events
  pub taken_same : taken_by new.events ≡ taken_by old.events
  pub open_same : has_open new ≡ has_open old

-- frozen or not as before
pub whole_same : (old new : Words) → SameOffLevels old new → is_frozen_whole new ≡ is_frozen_whole old
whole_same old new words = λ k. is_frozen_whole (words k)

pub reads_at_levels : (next : Next DownRead) → IsAtLevels (phase_after (map_next Phase.DownReads next))
reads_at_levels next = grind arith

pub end_at_levels : (u : UpRead) → IsAtLevels (Some (Phase.UpReads u))
end_at_levels u = refl

module _ (c : Config) (w : World) (good : IsGood c w) (t : ℕ) (lt : t < c.tasks) (ws : Words) (v : View) (words : SameOffLevels w.words ws)
    (was : IsAtLevels (w.views t).phase) (now : IsAtLevels v.phase) where
  -- the state after the step
  abbrev pub then_world : World
  then_world = record { words = ws; views = update w.views t v }

  -- and the roles that have nothing to do with levels are the same
  same : off_levels (roles_of v.phase) ≡ off_levels (roles_of (w.views t).phase)
  same = now ∙ sym was

  owner_left : Holds c then_world Owner
  owner_left =
      left_alone c w t lt Owner ws v (unwritten words Owner) (λ j. (same j).owns, λ j. (same j).remounts) (good Owner)

  known_left : Holds c then_world Known
  known_left x lx =
      each_updated (λ y (u : View). owns u.phase ≡ 1 → KnowsWords ws u.trace) w.views t v x
      (λ o. absurd (let none : owns v.phase ≡ 0 = λ j. (now j).owns in omega (arith, o, none)))
      (λ ne o. known_same w.words ws (unwritten words Known) (w.views x).trace
      (good Known x lx o))

  mount_left : SameAtMounts (w.views t) v → (m : ℕ) → Holds c then_world (AtMount m)
  mount_left mounts m =
      left_alone c w t lt (AtMount m) ws v
      (unwritten words (AtMount m))
      (view_as (ap (λ f. f m) mounts.held_same) (ap (λ f. f m) mounts.added_same) (ap (λ f. f m) mounts.taken_same)
      (λ j. (same j).mount m)) (good (AtMount m))

  tree_left : Holds c then_world Tree
  tree_left =
      left_alone c w t lt Tree ws v (unwritten words Tree)
      ((λ j. (now j).tree v.trace) ∙ sym (λ j. (was j).tree (w.views t).trace)) (good Tree)

  files_left : SameAtMounts (w.views t) v → Holds c then_world Files
  files_left mounts = left_alone c w t lt Files ws v (unwritten words Files) (mounts.open_same, λ j. (same j).file) (good Files)

  -- all parts, from those of the levels
  pub level_parts : SameAtMounts (w.views t) v → ViewFits c t v → ((i : ℕ) → Holds c then_world (AtLevel i)) →
      ((i : ℕ) → Holds c then_world (SyncAt i)) → Holds c then_world Sections → IsGood c then_world
  level_parts mounts fits levels syncs sections Owner = owner_left
  level_parts mounts fits levels syncs sections Stages =
      left_alone c w t lt Stages ws v (unwritten words Stages)
      (λ j. (same j).stage) (good Stages)
  level_parts mounts fits levels syncs sections Holding =
      left_alone c w t lt Holding ws v (unwritten words Holding) (λ j. (same j).holder) (good Holding)
  level_parts mounts fits levels syncs sections Fitting = λ x lx.
      each_updated (λ y (u : View). ViewFits c y u) w.views t v x fits (λ ne. good Fitting x lx)
  level_parts mounts fits levels syncs sections Known = known_left
  level_parts mounts fits levels syncs sections Tree = tree_left
  level_parts mounts fits levels syncs sections Files = files_left mounts
  level_parts mounts fits levels syncs sections (AtMount m) = mount_left mounts m
  level_parts mounts fits levels syncs sections (AtLevel i) = levels i
  level_parts mounts fits levels syncs sections (SyncAt i) = syncs i
  level_parts mounts fits levels syncs sections Sections = sections

  -- a level is closed as before
  pub closing_same : (i : ℕ) → closing i v.phase ≡ closing i (w.views t).phase
  closing_same = closing_as (w.views t).phase v.phase (λ j. (same j).stage)

  -- the shown state, where the task's accesses at levels alone may be others
  pub level_shown : SameAtMounts (w.views t) v → shown c then_world ≡
      record (shown c w) {
        mounts = update (λ x. held_at (w.views x)) t (held_at (w.views t));
        levels = update (λ x. holds_level (w.views x)) t (holds_level v);
      }
  level_shown mounts =
      shown_as c w t lt ws v (λ j. (words j).block) closing_same ∙
      (λ j. record (shown c w) {
        mounts = update (λ x. held_at (w.views x)) t (mounts.held_same j);
        levels = update (λ x. holds_level (w.views x)) t (holds_level v);
        opens = (ap (update (λ x. has_open (w.views x)) t) mounts.open_same ∙ update_same (λ x. has_open (w.views x)) t) j;
        mount_ro = λ m. ro_bit ((words j).flags m) == 1;
        sb_ro = (words j).remount == 1 || (words j).sb == 1;
        stage = (words j).stage;
        holders = holders_in (words j).holders;
        tree = λ n. node_shown ((words j).node n);
      })

  pub level_still : SameAtMounts (w.views t) v → holds_level v ≡ holds_level (w.views t) → shown c then_world ≡ shown c w
  level_still mounts el =
      level_shown mounts ∙
      (λ j. record (shown c w) {
        mounts = update_same (λ x. held_at (w.views x)) t j;
        levels = (ap (update (λ x. holds_level (w.views x)) t) el ∙ update_same (λ x. holds_level (w.views x)) t) j;
      })

  -- the rcu_sync of a level, where the task's part in it is as it was
  pub sync_left_at : ws.sync ≡ w.words.sync → ws.section ≡ w.words.section →
      ((i : ℕ) → sync_role_of i v.phase ≡ sync_role_of i (w.views t).phase) → (i : ℕ) → Holds c then_world (SyncAt i)
  sync_left_at syncs section same i =
      left_alone c w t lt (SyncAt i) ws v
      (ap (λ f. f i) syncs, λ j. (words j).block i, section, whole_same w.words ws words) (same i) (good (SyncAt i))

  -- and the sections, where it is inside one or not as before
  pub sections_left_at : ws.section ≡ w.words.section → inside v.phase ≡ inside (w.views t).phase → Holds c then_world Sections
  sections_left_at section same = left_alone c w t lt Sections ws v section same (good Sections)

  pub counts_left_at : ws.level ≡ w.words.level → ((i : ℕ) → at_level i v ≡ at_level i (w.views t)) → (i : ℕ) →
      Holds c then_world (AtLevel i)
  counts_left_at counts same i =
      left_alone c w t lt (AtLevel i) ws v
      (λ j. (words j).block i, ap (λ f. f i) counts, whole_same w.words ws words) (same i) (good (AtLevel i))
