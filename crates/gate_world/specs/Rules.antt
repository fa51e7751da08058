-- The invariant: what holds of words and views between any two steps. One predicate for each mount, one for the owner's words.
use Rattle.std.specs.Prelude.{Bool, None, Option, Some, false, suc, true, ℕ, ◌<◌, ◌≡◌, ◌≤◌}
use Rattle.access_model.specs.{Actions.{IsAllowed, after_action}, States.{State, openers}, declared.actions.Action.Action}
use Rattle.{cpu_words.specs.{Hooks.HookAnswer, Words.Words, gate_counts.Levels.LevelHolds}, finite_sums.specs.Sums.total}
use Rattle.freeze_laws.specs.{levels.Roles.SyncNumberHolds, stages.Roles.{Aside, StageRole, StagesHold}}
use Rattle.{freeze_levels.specs.holder_laws.Roles.{Apart, HolderRole, HoldersHold}, gated_tree.specs.Roles.TreeHolds}
use Rattle.{mount_counts.specs.Roles.{MountHolds, MountView, Out, Role}, node_words.specs.Nodes.{dirty_in, opens_in}}
use Rattle.gate_world.specs.{Configs.model_limits, Fits.{Fits, HasFile, file_of}, Levels.{SectionsAreOdd, at_level, inside, is_frozen_whole}}
use Rattle.gate_world.specs.{Levels.sync_role_of, Owners.KnowsWords, Remounts.{remount_owns, remount_role, remount_sets}}
use Rattle.gate_world.specs.Roles.{freeze_holder_role, freeze_owns, freeze_stage_role, mount_owns, mount_role, remount_stage_role, thaw_holder_role}
use Rattle.gate_world.specs.{Roles.{thaw_owns, thaw_stage_role, tree_owns, tree_stage_role, write_role}, Shown.{closing, shown}, Trees.is_bare_at}
use Rattle.gate_world.specs.{Trees.{is_sealed, tree_bounds, tree_of, tree_role_of}, Views.{added_by, has_open, held_at, held_of, taken_by}}
use Rattle.gate_world.specs.{Worlds.{World, after_step, phase_action}, declared.{config.Config.Config, views.View.View, work.Phase.Phase}}

-- what a task is doing at a mount
abbrev pub role_of : ℕ → Option Phase → Role
role_of m (Some (Phase.Mounts phase)) = mount_role m phase
role_of m (Some (Phase.Remounts x)) = remount_role m x.step
role_of m (Some (Phase.Writes x)) = write_role m x
role_of m p = Out

-- what a mount's predicate reads of a view
abbrev pub at_mount : ℕ → View → MountView
at_mount m v = record { held = held_at v m; added = added_by v.events m; taken = taken_by v.events m; role = role_of m v.phase }

-- 1 between its lock of `umount` and its release
abbrev pub owns : Option Phase → ℕ
owns (Some (Phase.Mounts phase)) = mount_owns phase
owns (Some (Phase.Remounts x)) = remount_owns x.step
owns (Some (Phase.Freezes x)) = freeze_owns x.step
owns (Some (Phase.Thaws x)) = thaw_owns x.step
owns (Some (Phase.Trees phase)) = tree_owns phase
owns p = 0

-- 1 while it has `remount` set
abbrev pub remounts : Option Phase → ℕ
remounts (Some (Phase.Remounts x)) = remount_sets x.step
remounts p = 0

-- what a task is doing with the stage
abbrev pub stage_role_of : Option Phase → StageRole
stage_role_of (Some (Phase.Remounts x)) = remount_stage_role x.nodes x.step
stage_role_of (Some (Phase.Freezes x)) = freeze_stage_role x.nodes x.step
stage_role_of (Some (Phase.Thaws x)) = thaw_stage_role x.step
stage_role_of (Some (Phase.Trees phase)) = tree_stage_role phase
stage_role_of p = Aside

-- and with those who hold a freeze
abbrev pub holder_role_of : Option Phase → HolderRole
holder_role_of (Some (Phase.Freezes x)) = freeze_holder_role x.step
holder_role_of (Some (Phase.Thaws x)) = thaw_holder_role x.holder x.step
holder_role_of p = Apart

-- what each task is doing with the stage
abbrev pub stage_roles : World → ℕ → StageRole
stage_roles w t = stage_role_of (w.views t).phase

-- and with those who hold a freeze
abbrev pub holder_roles : World → ℕ → HolderRole
holder_roles w t = holder_role_of (w.views t).phase

-- what the owner's words and the levels say of a task is the same at both phases
pub record IsSteady (p q : Option Phase) : Type 0 where
  pub owns_same : owns q ≡ owns p
  pub remounts_same : remounts q ≡ remounts p
  pub closing_same : (i : ℕ) → closing i q ≡ closing i p

-- The owner's words. `umount` is 1 and the number of the task that is between its lock and its release, and `remount` is set
-- exactly while one task has it set.
pub record OwnerHolds (tasks umount remount : ℕ) (phases : ℕ → Option Phase) : Type 0 where
  pub locked : (t : ℕ) → t < tasks → owns (phases t) ≡ 1 → umount ≡ suc t
  pub owned : (t : ℕ) → t < tasks → umount ≡ suc t → owns (phases t) ≡ 1
  pub known : umount ≤ tasks
  pub bit : remount ≤ 1
  pub remounting : remount ≡ total tasks (λ t. remounts (phases t))

-- each phase fits its task's accesses
abbrev pub ViewFits : Config → ℕ → View → Type 0
ViewFits c t v = Fits c t (held_of v) v.phase

-- The conjuncts of the invariant, each one predicate.
pub data Part : Type 0 where
  -- `umount`, `remount` and who has them
  Owner : Part
  -- how far a freeze has come, and the superblock's flags
  Stages : Part
  -- who holds a freeze
  Holding : Part
  -- each phase and its task's accesses
  Fitting : Part
  -- what the owner of `umount` has found or left is still there
  Known : Part
  -- the tree: its nodes, what is charged, its dirty marks
  Tree : Part
  -- the open files: how many tasks have each open, and what phases rely on
  Files : Part
  -- one mount
  AtMount : (m : ℕ) → Part
  -- one freeze level: its counts
  AtLevel : (i : ℕ) → Part
  -- and its rcu_sync, its `block` and the sections that its grace periods wait for
  SyncAt : (i : ℕ) → Part
  -- the read-side sections
  Sections : Part

-- what the part of one mount says of a state that has the mount
abbrev pub MountHoldsIn : Config → World → ℕ → Type 0
MountHoldsIn c w m =
    MountHolds c.tasks c.processors (w.words.flags m) w.words.remount w.words.sb (w.words.count m) (λ t. at_mount m (w.views t))

-- what the counts of one level say of a state
abbrev pub LevelHoldsIn : Config → World → ℕ → Type 0
LevelHoldsIn c w i =
    LevelHolds c.tasks c.processors (w.words.block i) (is_frozen_whole w.words) (w.words.level i) (λ t. at_level i (w.views t))

-- and what its rcu_sync says
abbrev pub SyncHoldsIn : Config → World → ℕ → Type 0
SyncHoldsIn c w i =
    SyncNumberHolds c.tasks (w.words.sync i) (w.words.block i) (is_frozen_whole w.words) w.words.section
    (λ t. sync_role_of i (w.views t).phase)

-- the dirty mark of each node, 0 or 1
abbrev pub marks_of : Words → ℕ → ℕ
marks_of words n = dirty_in (words.node n)

-- a node's word says how many tasks have its file open; and each phase's task has open, or not, what the phase relies on
pub record FilesHold (c : Config) (node : ℕ → ℕ) (opens : ℕ → ℕ → Bool) (file : ℕ → Option (ℕ × Bool)) : Type 0 where
  pub counted : (n : ℕ) → n < c.nodes → opens_in (node n) ≡ openers opens n
  pub own : (t : ℕ) → t < c.tasks → HasFile (opens t) (file t)

-- what a part says of a state
abbrev pub Holds : Config → World → Part → Type 0
Holds c w Owner = OwnerHolds c.tasks w.words.umount w.words.remount (λ t. (w.views t).phase)
Holds c w Stages = StagesHold c.tasks w.words.stage w.words.sb w.words.remount w.words.block (stage_roles w)
Holds c w Holding = HoldersHold c.tasks w.words.stage w.words.holders (holder_roles w)
Holds c w Fitting = (t : ℕ) → t < c.tasks → ViewFits c t (w.views t)
Holds c w Known = (t : ℕ) → t < c.tasks → owns (w.views t).phase ≡ 1 → KnowsWords w.words (w.views t).trace
Holds c w Tree = TreeHolds (tree_bounds c) (tree_of w)
Holds c w Files = FilesHold c w.words.node (λ t. has_open (w.views t)) (λ t. file_of (w.views t).phase)
Holds c w (AtMount m) = m < c.mounts → MountHoldsIn c w m
Holds c w (AtLevel i) = 1 ≤ i → i ≤ 3 → LevelHoldsIn c w i
Holds c w (SyncAt i) = 1 ≤ i → i ≤ 3 → SyncHoldsIn c w i
Holds c w Sections = SectionsAreOdd c.tasks w.words.section (λ t. (w.views t).phase)

-- what a part reads of the words: these are as they were
abbrev pub SameWords : Words → Words → Part → Type 0
SameWords old new Owner = (new.umount ≡ old.umount) × (new.remount ≡ old.remount)
SameWords old new Stages = (new.stage ≡ old.stage) × (new.sb ≡ old.sb) × (new.remount ≡ old.remount) × (new.block ≡ old.block)
SameWords old new Holding = (new.stage ≡ old.stage) × (new.holders ≡ old.holders)
SameWords old new Fitting = Unit {0}
SameWords old new Known =
    (new.stage ≡ old.stage) × (new.sb ≡ old.sb) × (new.remount ≡ old.remount) × (new.flags ≡ old.flags) × (new.holders ≡ old.holders)
SameWords old new Tree =
    (new.used ≡ old.used) × (new.removed ≡ old.removed) × (new.node ≡ old.node) × (new.kids ≡ old.kids) × (is_sealed new ≡ is_sealed old) ×
    (is_bare_at new ≡ is_bare_at old)
SameWords old new Files = new.node ≡ old.node
SameWords old new (AtMount m) = (new.flags m ≡ old.flags m) × (new.remount ≡ old.remount) × (new.sb ≡ old.sb) × (new.count m ≡ old.count m)
SameWords old new (AtLevel i) = (new.block i ≡ old.block i) × (new.level i ≡ old.level i) × (is_frozen_whole new ≡ is_frozen_whole old)
SameWords old new (SyncAt i) =
    (new.sync i ≡ old.sync i) × (new.block i ≡ old.block i) × (new.section ≡ old.section) × (is_frozen_whole new ≡ is_frozen_whole old)
SameWords old new Sections = new.section ≡ old.section

-- what a part reads of a task's view: this is as it was

abbrev pub SameView : View → View → Part → Type 0
SameView old new Owner = (owns new.phase ≡ owns old.phase) × (remounts new.phase ≡ remounts old.phase)
SameView old new Stages = stage_role_of new.phase ≡ stage_role_of old.phase
SameView old new Holding = holder_role_of new.phase ≡ holder_role_of old.phase
SameView old new Fitting = (held_of new ≡ held_of old) × (new.phase ≡ old.phase)
SameView old new Known = (owns new.phase ≡ owns old.phase) × (new.trace ≡ old.trace)
SameView old new Tree = tree_role_of new.trace new.phase ≡ tree_role_of old.trace old.phase
SameView old new Files = (has_open new ≡ has_open old) × (file_of new.phase ≡ file_of old.phase)
SameView old new (AtMount m) = at_mount m new ≡ at_mount m old
SameView old new (AtLevel i) = at_level i new ≡ at_level i old
SameView old new (SyncAt i) = sync_role_of i new.phase ≡ sync_role_of i old.phase
SameView old new Sections = inside new.phase ≡ inside old.phase

-- the invariant: each conjunct
abbrev pub IsGood : Config → World → Type 0
IsGood c w = (part : Part) → Holds c w part

-- the parts that a step of want, drop or change may touch
abbrev pub at_gates : Part → Bool
at_gates Owner = true
at_gates Fitting = true
at_gates (AtMount m) = true
at_gates part = false

-- each of these parts holds
abbrev pub GatesHold : Config → World → Type 0
GatesHold c w = (part : Part) → at_gates part ≡ true → Holds c w part

-- a step that adds an action adds one that is allowed in the shown state, whose effect gives the new one; any other step leaves
-- the shown state as it was
abbrev pub Moves : Config → State → ℕ → Option Action → State → Type 0
Moves c old t None new = new ≡ old
Moves c old t (Some a) new = IsAllowed (model_limits c) old t a × (new ≡ after_action old t a)

-- the law of one step: the invariant holds after it, and it moves the shown state by its action
abbrev pub StepKeeps : Config → World → ℕ → HookAnswer → Phase → Type 0
StepKeeps c w t hook phase =
    IsGood c (after_step w t phase hook) × Moves c (shown c w) t (phase_action w hook (Some phase)) (shown c (after_step w t phase hook))

-- the law of one step of want, drop or change: the parts that it may touch, and the shown state
abbrev pub GateStepKeeps : Config → World → ℕ → HookAnswer → Phase → Type 0
GateStepKeeps c w t hook phase =
    GatesHold c (after_step w t phase hook) × Moves c (shown c w) t (phase_action w hook (Some phase)) (shown c (after_step w t phase hook))
