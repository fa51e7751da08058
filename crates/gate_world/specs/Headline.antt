-- The theorem: what holds of every execution.
use Rattle.std.specs.Prelude.{Bool, Err, List, None, Option, Some, [], false, if◌then◌else◌, true, ℕ, ◌%◌, ◌+◌, ◌<◌, ◌==◌, ◌≡◌, ◌≤◌, ◌⊎◌}
use Rattle.access_model.specs.{Histories.{Done, IsLegal, IsMerge, end_of}, Holders.held_by, Laws.{IsFrozenStill, NeverLeaves, NobodyHoldsClosed}}
use Rattle.access_model.specs.{States.{is_removed, one_if}, declared.{actions.Holder.Holder, errors.GateError.GateError}}
use Rattle.access_model.specs.declared.replies.Next.TheVariants.{Done as Ended}
use Rattle.cpu_words.specs.{Sums.lead, declared.{events.Touch.{TheVariants.Store, Touch}, names.WordName.{TheVariants.Holders, WordName}}}
use Rattle.cpu_words.specs.gate_counts.{Gates.{counted as counted_of, unread}, Levels.{Summing, level_as_gate}}
use Rattle.{finite_sums.specs.Sums.total, freeze_laws.specs.levels.Roles.fast}
use Rattle.freeze_levels.specs.{Holders.word_of, declared.freezes.FreezeStep.FreezeStep}
use Rattle.gated_tree.specs.{Calls.words_loaded, Roles.{seen_as, tree_word}, Trees.{IsClean, IsSound}}
use Rattle.gated_tree.specs.declared.{phases.TreePhase.TheVariants.Snapshot as Snapshots, snapshots.Snapshot.Snapshot}
use Rattle.{mount_counts.specs.{Phases.has_flag, Roles.counted}, percpu_rwsem.specs.{SyncWords.unpack, declared.sync_word.SyncWord.SyncWord}}
use Rattle.gate_world.specs.{Configs.model_limits, Levels.{at_level, is_frozen_whole, level_role_of, sync_role_of}, Moments.AllHaveMoments}
use Rattle.gate_world.specs.{Owners.last_left, Rules.{Moves, at_mount, owns}, Shown.shown, Views.{HoldsAsBefore, held_at, holds_level}}
use Rattle.gate_world.specs.{Worlds.{World, action_of, happens, history, opening, run, task_of}, declared.{config.Config.Config, entries.Entry.Entry}}
use Rattle.gate_world.specs.declared.{operations.Op.Op, views.{Traced.Traced, View.View}, work.Phase.{Phase, TheVariants.{Freezes, Thaws, Trees}}}
use Rattle.gate_world.specs.traces.{Found.{newest, stores_stage}, Snapshots.values_noted, TraceStates.{IsTraced, state_of_trace}}
use Rattle.gate_world.specs.traces.Traces.{IsShort, Tells, most_events}

-- the state after an execution, and the actions that its steps added, the newest first
abbrev pub world_after : Config → List Entry → World
world_after c entries = run c opening entries

-- the actions that an execution has added, the newest first
abbrev pub actions_so_far : Config → List Entry → List Done
actions_so_far c entries = history c opening [] entries

-- after any execution, whatever transition comes next: a step that adds an action adds one that is allowed in the shown state, whose
-- effect gives the new shown state; every other transition leaves it as it was
abbrev pub MovesTheModel : Config → List Entry → Entry → Type 0
MovesTheModel c entries e = Moves c (shown c (world_after c entries)) (task_of e) (action_of c (world_after c entries) e)
    (shown c (happens c (world_after c entries) e))

-- the actions so far are an allowed trace, whose end is the shown state, of which each task's own list is its part, and in which each last
-- snapshot has its moment
pub record IsOneRun (c : Config) (entries : List Entry) : Type 0 where
  pub legal : IsLegal (model_limits c) (actions_so_far c entries)
  pub end : end_of (actions_so_far c entries) ≡ shown c (world_after c entries)
  pub lists : IsMerge (λ t. ((world_after c entries).views t).actions) (actions_so_far c entries)
  pub snapshots : AllHaveMoments c (actions_so_far c entries) (world_after c entries)

-- each mount's words sum to what is held and sought there, and so do each level's
pub record SumsHold (c : Config) (w : World) : Type 0 where
  pub mounts : (m : ℕ) → m < c.mounts → total c.processors (w.words.count m) % 18446744073709551616 ≡ total c.tasks
      (λ t. counted (at_mount m (w.views t)))
  pub levels : (i : ℕ) → 1 ≤ i → i ≤ 3 → total c.processors (w.words.level i) % 18446744073709551616 ≡ total c.tasks
      (λ t. counted_of (level_as_gate (at_level i (w.views t))))

-- an access at a level that is held, or that a reader on the fast path is granted by its next step
abbrev pub admitted_at : ℕ → View → ℕ
admitted_at i v = (at_level i v).held + fast (sync_role_of i v.phase)

-- While a freeze sums a level's words, from its swap of `block` to the pass of the level: `block` is 1, and what it has read, with the
-- present values of the words to come, is at least what is admitted there, with who seeks an access and has added to a word to come.
abbrev pub LevelsLead : Config → World → Type 0
LevelsLead c w = (t i read sum : ℕ) → t < c.tasks → 1 ≤ i → i ≤ 3 → level_role_of i (w.views t).phase ≡ Summing read sum →
    (w.words.block i ≡ 1) × (total c.tasks (λ x. admitted_at i (w.views x)) +
    total c.tasks (λ x. unread read (level_as_gate (at_level i (w.views x)))) ≤ lead c.processors (w.words.level i) read sum)

-- to the accesses held
pub record HeldSumsHold (c : Config) (w : World) : Type 0 where
  pub mounts : (m : ℕ) → m < c.mounts → total c.processors (w.words.count m) % 18446744073709551616 ≡ total c.tasks
      (λ t. held_at (w.views t) m)
  pub levels : (i : ℕ) → 1 ≤ i → i ≤ 3 → total c.processors (w.words.level i) % 18446744073709551616 ≡ total c.tasks
      (λ t. if holds_level (w.views t) i then 1 else 0)

-- with no operation under way
abbrev pub IdleSumsHold : Config → World → Type 0
IdleSumsHold c w = ((t : ℕ) → t < c.tasks → (w.views t).phase ≡ None) → HeldSumsHold c w

-- a sync word whose callback nobody has taken
abbrev pub IsUntaken : Option SyncWord → Type 0
IsUntaken None = ⊥
IsUntaken (Some word) = word.taken ≡ false

-- the blocks and children charged are those that there are, and each parent is a directory
abbrev pub TreeIsSound : Config → World → Type 0
TreeIsSound c w = IsSound c.nodes w.words.used (shown c w).tree w.words.kids

-- no file is dirty
abbrev pub TreeIsClean : Config → World → Type 0
TreeIsClean c w = IsClean c.nodes (shown c w).tree

-- At stage 4 the tree is sound and clean: nobody is under way who has charged anything, or could make a file dirty.
abbrev pub FrozenTreeIsWhole : Config → World → Type 0
FrozenTreeIsWhole c w = w.words.stage ≡ 4 → TreeIsSound c w × TreeIsClean c w

-- the actions that transitions add which come after an execution, the newest first
abbrev pub actions_since : Config → List Entry → List Entry → List Done
actions_since c entries more = history c (world_after c entries) [] more

-- From a state that shows that this holder holds a freeze on, whatever transitions come, until it leaves: all stays frozen for it, with the
-- same levels closed and the same tree, each node with its kind, its parent, its size and its marks. Which files are open may change.
abbrev pub FrozenTreeStays : Config → List Entry → List Entry → Type 0
FrozenTreeStays c entries more =
    (h : Holder) → held_by (shown c (world_after c entries)).holders h ≡ true → NeverLeaves h (actions_since c entries more) →
    IsFrozenStill h (shown c (world_after c entries)) (shown c (run c (world_after c entries) more))

-- From its load of stage 4 to its release a snapshot stands in a frozen tree: each word of the tree that it has loaded is still what it
-- was, but for how many tasks have files open.
abbrev pub SnapshotsStand : Config → World → Type 0
SnapshotsStand c w = (t : ℕ) (x : Snapshot) (words : ℕ) → t < c.tasks → (w.views t).phase ≡ Some (Trees (Snapshots x)) →
    words_loaded x.nodes x.step ≡ Some words → (w.words.stage ≡ 4) ×
    ((i : ℕ) → i < words → seen_as c.nodes i (values_noted x.nodes (w.views t).trace i) ≡
    seen_as c.nodes i (tree_word c.nodes w.words.used w.words.node w.words.kids i))

-- the step stores that nobody holds a freeze
abbrev pub stores_nobody : WordName → Touch → Bool
stores_nobody Holders (Store value) = value == 0
stores_nobody word touch = false

-- A freeze that has just stored stage 4, and not yet its holder, or a thaw that has just stored that nobody holds a freeze, and not yet
-- stage 0: these are two steps, one right after the other.
abbrev pub is_between : Option Phase → List Traced → Bool
is_between (Some (Freezes x)) trace = newest (λ e. stores_stage 4 e.word e.touch) trace
is_between (Some (Thaws x)) trace = newest (λ e. stores_nobody e.word e.touch) trace
is_between phase trace = false

-- nobody is between two such stores
abbrev pub NobodyIsBetween : Config → World → Type 0
NobodyIsBetween c w = (t : ℕ) → t < c.tasks → is_between (w.views t).phase (w.views t).trace ≡ false

-- Who holds a freeze, and the stage: they tell of each other, but between two stores of one freeze or thaw.
pub record HoldersAreTold (c : Config) (w : World) : Type 0 where
  -- where some freeze is held all is frozen, and nobody is between two stores
  pub held_where_frozen : (w.words.holders ≡ 0 → ⊥) → (w.words.stage ≡ 4) × NobodyIsBetween c w
  -- where all is frozen, and nobody is between two stores, some freeze is held
  pub frozen_where_held : w.words.stage ≡ 4 → NobodyIsBetween c w → w.words.holders ≡ 0 → ⊥
  -- the word says who holds one in the shown state, and no more
  pub as_shown : w.words.holders ≡ word_of (shown c w).holders
  -- the owner of `umount` has the word as it last found or left it, up to its release
  pub as_found : (t : ℕ) → t < c.tasks → owns (w.views t).phase ≡ 1 → (value : ℕ) → last_left Holders (w.views t).trace ≡ Some value →
      w.words.holders ≡ value

-- some freeze is held exactly where all is frozen
abbrev pub HeldWhereFrozen : World → Type 0
HeldWhereFrozen w = ((w.words.holders ≡ 0 → ⊥) → w.words.stage ≡ 4) × (w.words.stage ≡ 4 → w.words.holders ≡ 0 → ⊥)

-- No lock, no remount and no hold stands: `umount` is free, `remount` is clear, and so is HOLD, which is 2, at each mount. No section is
-- under way, a level is closed only where the file system is frozen as a whole, no callback is taken, no freeze is half done, some
-- freeze is held exactly where all is frozen, and the tree is sound.
pub record IsAtRest (c : Config) (w : World) : Type 0 where
  pub umount_free : w.words.umount ≡ 0
  pub remount_clear : w.words.remount ≡ 0
  pub hold_clear : (m : ℕ) → m < c.mounts → has_flag (w.words.flags m) 2 ≡ false
  pub sections_even : (t : ℕ) → t < c.tasks → w.words.section t % 2 ≡ 0
  pub levels_open : (i : ℕ) → 1 ≤ i → i ≤ 3 → w.words.block i ≡ is_frozen_whole w.words
  pub callbacks_free : (i : ℕ) → 1 ≤ i → i ≤ 3 → IsUntaken (unpack (w.words.sync i))
  pub stage_settled : (w.words.stage ≡ 0) ⊎ (w.words.stage ≡ 4)
  pub holders_settled : HeldWhereFrozen w
  pub removals_counted : w.words.removed ≡ total c.nodes (λ n. one_if (is_removed ((shown c w).tree n)))
  pub tree_sound : TreeIsSound c w

-- nothing is left behind: with no operation under way, none of them stands
abbrev pub NothingIsLeft : Config → World → Type 0
NothingIsLeft c w = ((t : ℕ) → t < c.tasks → (w.views t).phase ≡ None) → IsAtRest c w

-- the stage that a freeze stored last, between its store of 1 and its store of 4 or 0
abbrev pub stage_stored : FreezeStep → Option ℕ
stage_stored FreezeStep.Unlocks = Some 1
stage_stored (FreezeStep.Closes d) = Some d.level
stage_stored (FreezeStep.Waits d) = Some d.level
stage_stored (FreezeStep.Undoes level transition code) = Some level
stage_stored (FreezeStep.LocksToUndo code) = Some 1
stage_stored (FreezeStep.GivesUp level code) = Some level
stage_stored FreezeStep.LocksAgain = Some 1
stage_stored FreezeStep.SetsPageFault = Some 1
stage_stored (FreezeStep.Cleans marks) = Some 2
stage_stored FreezeStep.SetsFs = Some 2
stage_stored FreezeStep.SetsComplete = Some 3
stage_stored step = None

-- the same of what a task is at
abbrev pub freezing_at : Option Phase → Option ℕ
freezing_at (Some (Freezes x)) = stage_stored x.step
freezing_at phase = None

-- At stages 1 to 3 one task is in a freeze, between its store of 1 and its store of 4 or 0, and the stage is the one that it stored last.
abbrev pub FreezeIsUnderWay : Config → World → Type 0
FreezeIsUnderWay c w = 1 ≤ w.words.stage → w.words.stage ≤ 3 →
    (t : ℕ) × (t < c.tasks) × (freezing_at (w.views t).phase ≡ Some w.words.stage) ×
    ((u : ℕ) → u < c.tasks → (u ≡ t → ⊥) → freezing_at (w.views u).phase ≡ None)

-- nobody holds an access at a read-only mount, or a level that a freeze has passed
abbrev pub NobodyIsInside : Config → World → Type 0
NobodyIsInside c w = NobodyHoldsClosed (model_limits c) (shown c w)

-- What a task's last operation, or the one under way, has done, by its own trace alone: an operation that replied has added exactly
-- its stated actions, a refusal has its cause in the trace, and waiting is reported only where it may be; after a refusal the task
-- holds what it held when the operation began; and where the operation waits for nobody, its steps are few.
pub record OperationTells (c : Config) (t : ℕ) (v : View) (op : Op) : Type 0 where
  pub tells : Tells c op v.trace (state_of_trace c t op v.trace).comes (state_of_trace c t op v.trace).added
  pub refused : (refusal : GateError) → (state_of_trace c t op v.trace).comes ≡ Ended (Err refusal) → HoldsAsBefore v
  pub short : IsShort (most_events c op) v.trace

-- the same of a view that may have no operation
abbrev pub ViewTells : Config → ℕ → View → Option Op → Type 0
ViewTells c t v None = Unit {0}
ViewTells c t v (Some op) = OperationTells c t v op

-- each task's trace follows the order of steps of its operation, and tells the rest
pub record OperationsAreKept (c : Config) (entries : List Entry) (t : ℕ) : Type 0 where
  pub traced : IsTraced c t ((world_after c entries).views t) ((world_after c entries).views t).op
  pub tells : ViewTells c t ((world_after c entries).views t) ((world_after c entries).views t).op
