-- The laws of the stage.
use Rattle.std.{proofs.Common.Bool, specs.Prelude.{◌≡◌, ℕ, ◌<◌, ◌≤◌, Option, Some, None, List, [], ◌∷◌}}
use Rattle.access_model.specs.{Actions.IsAllowed, States.{Limits, State}}
use Rattle.access_model.specs.declared.actions.{Action.{Action, TheVariants.{Stage, Hold, Leave, Pass, Reopen, Clean}}, Holder.TheVariants.User}
use Rattle.freeze_laws.specs.stages.Events.{Stages, Holds, RepresentsStages, StageEvent, Happens, action_of}
use Rattle.freeze_laws.specs.stages.Roles.{Aside, Owning, freezes, has_position, closes, passed_by, is_full, Freezing, Place, up_to}
use Rattle.freeze_laws.specs.stages.Shown.{is_passed, passed_shown, ShowsStages, AsksOthers, state_after}

-- nothing is frozen, no flag and no mark is set, and everybody is aside
abbrev pub opening : Stages
opening = record { stage = 0; sb = 0; remount = 0; block = λ i. 0; dirty = λ n. 0; at = λ t. Aside }

-- a step of a task at a moment at which all holds
pub record StageStep (tasks nodes : ℕ) (x x' : Stages) (t : ℕ) (kind : StageEvent) : Type 0 where
  pub right : Holds tasks nodes x
  pub there : t < tasks
  pub happens : Happens tasks nodes t x x' kind

-- Each step keeps what holds of the stage and of the marks.
abbrev pub EventsKeep : Type 0
EventsKeep = (tasks nodes : ℕ) (x x' : Stages) (t : ℕ) (kind : StageEvent) → StageStep tasks nodes x x' t kind → Holds tasks nodes x'

-- The action of each step is allowed in each state that shows the moment before it.
abbrev pub ActionsAreAllowed : Type 0
ActionsAreAllowed = (l : Limits) (x x' : Stages) (t : ℕ) (kind : StageEvent) → StageStep l.tasks l.nodes x x' t kind → (s : State) →
    RepresentsStages l x s →
    (action : Action) → action_of kind x ≡ Some action → AsksOthers l s action → IsAllowed l s t action

-- And its effect shows the stage after it; a step with no action leaves the stage that was shown.
abbrev pub ActionsHaveTheirEffect : Type 0
ActionsHaveTheirEffect = (tasks nodes : ℕ) (x x' : Stages) (t : ℕ) (kind : StageEvent) → StageStep tasks nodes x x' t kind → (s : State) →
    ShowsStages tasks x.stage x.sb x.remount x.block x.at s →
    ShowsStages tasks x'.stage x'.sb x'.remount x'.block x'.at (state_after s t (action_of kind x))

-- At stages 1 to 3 one task is in a freeze, and the stage is the one that it stored last.
abbrev pub FreezeIsUnderWay : Type 0
FreezeIsUnderWay = (tasks nodes : ℕ) (x : Stages) → Holds tasks nodes x → 1 ≤ x.stage → x.stage ≤ 3 →
    (t : ℕ) × (t < tasks) × (place : Place) × (owner : Bool) × (x.at t ≡ Freezing x.stage place owner)

-- Where a task is in a freeze, the stage is 1 to 3, the superblock writable and `remount` clear, and no owner relies on stage 0: a second
-- freeze finds another stage, and no remount is past its look at it.
abbrev pub FreezeKeepsOthersOut : Type 0
FreezeKeepsOthersOut = (tasks nodes : ℕ) (x : Stages) → Holds tasks nodes x → (t : ℕ) → t < tasks → freezes (x.at t) ≡ 1 →
    (1 ≤ x.stage) × (x.stage ≤ 3) × (x.sb ≡ 0) × (x.remount ≡ 0) ×
    ((u : ℕ) (sb : Option ℕ) → u < tasks → x.at u ≡ Owning (Some 0) sb → ⊥)

-- Two positions are one task's: beside a freeze or a thaw under way there is no second one, nor is the file system frozen as a whole.
abbrev pub PositionsAreAlone : Type 0
PositionsAreAlone = (tasks nodes : ℕ) (x : Stages) → Holds tasks nodes x → (t : ℕ) → t < tasks → has_position (x.at t) ≡ 1 →
    (is_full x.stage x.sb ≡ 0) × ((u : ℕ) → u < tasks → (u ≡ t → ⊥) → has_position (x.at u) ≡ 0)

-- Only the freeze under way moves the stage: a step of another task leaves it, at stages 1 to 3.
abbrev pub OnlyTheFreezeMovesTheStage : Type 0
OnlyTheFreezeMovesTheStage = (tasks nodes : ℕ) (x x' : Stages) (t : ℕ) (kind : StageEvent) → StageStep tasks nodes x x' t kind →
    1 ≤ x.stage → x.stage ≤ 3 → freezes (x.at t) ≡ 0 → x'.stage ≡ x.stage

-- A task with a position has levels 1 to a number closed and passed, and no other is.
abbrev pub PositionsTellTheLevels : Type 0
PositionsTellTheLevels = (tasks nodes : ℕ) (x : Stages) → Holds tasks nodes x → (t : ℕ) → t < tasks → has_position (x.at t) ≡ 1 →
    (passed_shown tasks x.block x.at ≡ passed_by (x.at t)) × ((i : ℕ) → 1 ≤ i → i ≤ 3 → x.block i ≡ closes i (x.at t))

-- The file system is frozen as a whole exactly where the blocks of all levels are set and no task's own; then all are passed.
abbrev pub FrozenAsAWhole : Type 0
FrozenAsAWhole = (tasks nodes : ℕ) (x : Stages) → Holds tasks nodes x →
    ((x.stage ≡ 4) × (x.sb ≡ 0) →
    ((i : ℕ) → 1 ≤ i → i ≤ 3 → x.block i ≡ 1) × (passed_shown tasks x.block x.at ≡ 3) ×
    ((t : ℕ) → t < tasks → has_position (x.at t) ≡ 0)) ×
    ((i : ℕ) → 1 ≤ i → i ≤ 3 → x.block i ≡ 1 → ((t : ℕ) → t < tasks → closes i (x.at t) ≡ 0) → (x.stage ≡ 4) × (x.sb ≡ 0))

-- At stage 4 no task has a position.
abbrev pub NobodyAtStageFour : Type 0
NobodyAtStageFour = (tasks nodes : ℕ) (x : Stages) → Holds tasks nodes x → x.stage ≡ 4 → (t : ℕ) → t < tasks → has_position (x.at t) ≡ 0

-- Levels are passed in order: a level is shown as passed just where the number of levels passed is at least its own.
abbrev pub LevelsPassInOrder : Type 0
LevelsPassInOrder = (tasks nodes : ℕ) (x : Stages) → Holds tasks nodes x → (i : ℕ) → 1 ≤ i → i ≤ 3 →
    is_passed tasks x.block x.at i ≡ up_to i (passed_shown tasks x.block x.at)

-- Where no task has a position and the file system is not frozen as a whole, no block is set and no level passed.
abbrev pub OpenElsewhere : Type 0
OpenElsewhere = (tasks nodes : ℕ) (x : Stages) → Holds tasks nodes x → ((t : ℕ) → t < tasks → has_position (x.at t) ≡ 0) →
    is_full x.stage x.sb ≡ 0 → (passed_shown tasks x.block x.at ≡ 0) × ((i : ℕ) → 1 ≤ i → i ≤ 3 → x.block i ≡ 0)

-- one action more, if there is one
abbrev pub with_one : Option Action → List Action → List Action
with_one None actions = actions
with_one (Some action) actions = action ∷ actions

-- a run of steps of task 0, with the actions that it adds, the first one first
pub data StageRun (tasks nodes : ℕ) : Stages → List Action → Stages → Type 0 where
  Ends : (x : Stages) → StageRun tasks nodes x [] x
  Goes : (x x' last : Stages) (actions : List Action) (kind : StageEvent) → Happens tasks nodes 0 x x' kind →
      StageRun tasks nodes x' actions last →
      StageRun tasks nodes x (with_one (action_of kind x) actions) last

-- Whole operations do happen: from the beginning, where a node is marked dirty, a task freezes the file system, and another time thaws it.
abbrev pub FreezeAndThawHappen : Type 0
FreezeAndThawHappen =
    (frozen : Stages) × (thawed : Stages) × (frozen.stage ≡ 4) × (frozen.at 0 ≡ Aside) × (thawed.stage ≡ 0) × (thawed.at 0 ≡ Aside) ×
    StageRun 1 2 opening (Stage 1 ∷ Pass 1 ∷ Stage 2 ∷ Pass 2 ∷ Clean 1 ∷ Stage 3 ∷ Pass 3 ∷ Stage 4 ∷ Hold User ∷ []) frozen ×
    StageRun 1 2 frozen (Leave User ∷ Stage 0 ∷ Reopen 3 ∷ Reopen 2 ∷ Reopen 1 ∷ []) thawed
