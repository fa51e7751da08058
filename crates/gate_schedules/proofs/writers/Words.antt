-- Steps of a down-write and of an up-write: the words that they leave, the counts, and what they add.
use Rattle.gate_schedules.proofs.Prelude.{Action, Clearing, Config, DownWrite, DownWriteStep, Holds, IsGood, IsWithin, None, Option, Out, Some}
use Rattle.gate_schedules.proofs.Prelude.{StageEvent, State, Tree, UpWrite, UpWriteStep, View, ViewFits, Words, World, arith, down_write_after}
use Rattle.gate_schedules.proofs.Prelude.{down_write_next, holder_role_of, holders_in, is_bare_at, left, model_limits, node_shown, opens_in, owns}
use Rattle.gate_schedules.proofs.Prelude.{put, read, refl, shown, state_after, subst, sym, tree_bounds, tree_of, tree_role_of, tree_roles, turned}
use Rattle.gate_schedules.proofs.Prelude.{up_write_after, up_write_next, update, ℕ, ◌<◌, ◌∙◌, ◌≡◌}
use Rattle.{access_model.specs.Actions.after_action, freeze_laws.specs.stages.Events.action_of as stage_action_of}
use Rattle.gate_world.specs.{Levels.{level_added_after, level_taken_after}, Trees.is_sealed, Views.{added_after, taken_after}}
use Rattle.gate_schedules.proofs.frames.{Frames.{left_alone, unwritten}, Holders.holders_stay, Stages.{IsStageEvent, stages_in}}
use Rattle.gate_schedules.proofs.{levels.LevelPositions.{LevelsHold, left_world}, trees.worlds.Trees.{tree_after, tree_then}}
use Rattle.gate_schedules.proofs.writers.{Owner.owner_stays, Parts.{AsksWhere, IsWriter, LeavesRest, SameAtMounts, WriterLaw, writer_law}}
use Rattle.gate_schedules.specs.trees.Events.{BeginsClearing, Event}

-- the words that are no level's own
abbrev pub off_level_words : Words → Words
off_level_words w = record w { block = λ i. 0; sync = λ i. 0; level = λ i p. 0; section = λ t. 0 }

-- are as they were
abbrev pub IsAtLevels : Words → Words → Type 0
IsAtLevels old new = off_level_words new ≡ off_level_words old

pub down_write_words : (w : Words) (d : DownWrite) (s : DownWriteStep) →
    IsAtLevels w (put w (down_write_next d s).0 (left (down_write_next d s).1 (read w (down_write_next d s).0)))
down_write_words w d s = grind arith

pub up_write_words : (w : Words) (u : UpWrite) (s : UpWriteStep) →
    IsAtLevels w (put w (up_write_next u s).0 (left (up_write_next u s).1 (read w (up_write_next u s).0)))
up_write_words w u s = grind arith

-- a down-write counts nothing, at mounts or at levels
pub down_write_counts_none : (d : DownWrite) (s : DownWriteStep) (f : ℕ → ℕ → ℕ) →
    (added_after (down_write_next d s).0 (down_write_next d s).1 f ≡ f) ×
    (taken_after (down_write_next d s).0 (down_write_next d s).1 f ≡ f) ×
    (level_added_after (down_write_next d s).0 (down_write_next d s).1 f ≡ f) ×
    (level_taken_after (down_write_next d s).0 (down_write_next d s).1 f ≡ f)
down_write_counts_none d s f = grind arith

pub up_write_counts_none : (u : UpWrite) (s : UpWriteStep) (f : ℕ → ℕ → ℕ) →
    (added_after (up_write_next u s).0 (up_write_next u s).1 f ≡ f) × (taken_after (up_write_next u s).0 (up_write_next u s).1 f ≡ f) ×
    (level_added_after (up_write_next u s).0 (up_write_next u s).1 f ≡ f) ×
    (level_taken_after (up_write_next u s).0 (up_write_next u s).1 f ≡ f)
up_write_counts_none u s f = grind arith

-- What a step of a down-write adds: nothing, or that its level is passed.
module _ (d : DownWrite) (P : Option Action → Type 0) (none : P None) (pass : P (Some (Action.Pass d.level))) where
  -- each step
  pub down_write_adds : (s : DownWriteStep) (found : ℕ) → P (down_write_after d s found).1
  down_write_adds s found = grind arith

-- and what one of an up-write adds: nothing, or that its level is reopened
pub up_write_adds : (u : UpWrite) (P : Option Action → Type 0) → P None → P (Some (Action.Reopen u.level)) → (s : UpWriteStep) (found : ℕ) →
    P (up_write_after u s found).1
up_write_adds u P none opens s found = grind arith

pub pass_leaves : (s : State) (t i : ℕ) → LeavesRest s (after_action s t (Action.Pass i)) s.tree s.holders
pass_leaves s t i = record { mounts_same = refl; levels_same = refl; opens_same = refl; ro_same = refl; tree_same = refl; holders_same = refl }

pub reopen_leaves : (s : State) (t i : ℕ) → LeavesRest s (after_action s t (Action.Reopen i)) s.tree s.holders
reopen_leaves s t i = record { mounts_same = refl; levels_same = refl; opens_same = refl; ro_same = refl; tree_same = refl; holders_same = refl }

-- the tree is left, where its task does there what it did
pub tree_beside : (c : Config) (w : World) → IsGood c w → (t : ℕ) → t < c.tasks → (ws : Words) (v : View) → IsAtLevels w.words ws →
    tree_role_of v.trace v.phase ≡ tree_role_of (w.views t).trace (w.views t).phase → Holds c (left_world w t ws v) Tree
tree_beside c w good t lt ws v words same =
    left_alone c w t lt Tree ws v (unwritten words Tree) same (good Tree)

-- and where a clearing of marks begins
pub tree_begins : (c : Config) (w : World) → IsGood c w → (t : ℕ) → t < c.tasks → (ws : Words) (v : View) → IsWithin c →
    IsAtLevels w.words ws → tree_role_of (w.views t).trace (w.views t).phase ≡ Out → tree_role_of v.trace v.phase ≡ Clearing 1 →
    Holds c (left_world w t ws v) Tree
tree_begins c w good t lt ws v within words was now =
    let same : tree_then c w good t lt ws v ≡ turned (tree_of w) t (Clearing 1) =
    λ j. record {
      sealed = is_sealed (words j);
      bare = is_bare_at (words j);
      used = (words j).used;
      removed = (words j).removed;
      node = (words j).node;
      kids = (words j).kids;
      at = update (tree_roles w) t (now j);
    } in
    tree_after c w good t lt ws v within None (subst (λ s. Event (tree_bounds c) (tree_of w) t s None) (sym same) (BeginsClearing was))

-- the law of a step of a freeze or a thaw on a word of a level, which leaves who owns `umount`
pub writer_at_level : (c : Config) (w : World) (good : IsGood c w) (t : ℕ) (lt : t < c.tasks) (ws : Words) (v : View)
    (action : Option Action) (kind : StageEvent) → IsWriter (w.views t).phase → IsWriter v.phase → IsAtLevels w.words ws →
    SameAtMounts (w.views t) v → ViewFits c t v → owns v.phase ≡ owns (w.views t).phase → LevelsHold c (left_world w t ws v) →
    Holds c (left_world w t ws v) Tree → IsStageEvent c w good t lt ws v kind → stage_action_of kind (stages_in w) ≡ action →
    AsksWhere (model_limits c) (shown c w) action →
    LeavesRest (shown c w) (state_after (shown c w) t action) (shown c w).tree (shown c w).holders →
    holder_role_of v.phase ≡ holder_role_of (w.views t).phase → WriterLaw c w t ws v action
writer_at_level c w good t lt ws v action kind was now words mounts fits own levels tree happens adds asks rest holder =
    writer_law c w good t lt ws v action kind (record {
      words = record {
        flags_same = λ j. (words j).flags;
        count_same = λ j. (words j).count;
        remount_same = λ j. (words j).remount;
        sb_same = λ j. (words j).sb;
      };
      counts = mounts;
      was = was;
      now = now;
      owner = owner_stays c w good t lt v was now ws (λ j. (words j).umount) (λ j. (words j).remount) own;
      levels = levels;
      tree = tree;
      opens = λ n j. opens_in ((words j).node n);
      fits = fits;
      holding = holders_stay c w good t lt ws v (λ j. (words j).stage) (λ j. (words j).holders) holder;
      happens = happens;
      adds = adds;
      asks = asks;
      rest = record {
        mounts_same = rest.mounts_same;
        levels_same = rest.levels_same;
        opens_same = rest.opens_same;
        ro_same = rest.ro_same;
        tree_same = rest.tree_same ∙ sym (λ j n. node_shown ((words j).node n));
        holders_same = rest.holders_same ∙ sym (λ j. holders_in (words j).holders);
      };
    })
