-- What the stage, the blocks and the flags show of the access model, and what its state after a step is to be.
use Rattle.std.specs.Prelude.{◌≡◌, ℕ, ◌+◌, ◌<◌, ◌==◌, ◌&&◌, ◌||◌, if◌then◌else◌, zero, true, false, Option, Some, None}
use Rattle.finite_sums.specs.Sums.{total}
use Rattle.access_model.specs.{Actions.after_action, Holders.{held_by, is_unheld}, States.{Limits, State, NobodyHolds, IsFile, is_dirty, NoneRemoved}}
use Rattle.access_model.specs.declared.actions.{Action.{Action, TheVariants.{SbRo, Stage, Hold, Leave, Pass, Clean}}, Gate.TheVariants.{Mount, Level}}
use Rattle.freeze_laws.specs.stages.Roles.{StageRole, sums}

-- 1 where a level's `block` is set and no task is still closing it
abbrev pub is_passed : ℕ → (ℕ → ℕ) → (ℕ → StageRole) → ℕ → ℕ
is_passed tasks block at i = if block i == 1 && total tasks (λ t. sums i (at t)) == 0 then 1 else 0

-- the number of levels passed
abbrev pub passed_shown : ℕ → (ℕ → ℕ) → (ℕ → StageRole) → ℕ
passed_shown tasks block at = is_passed tasks block at 1 + (is_passed tasks block at 2 + is_passed tasks block at 3)

-- a state of the model shows this stage, these flags and blocks: how far a freeze has come, and whether the superblock is read-only
pub record ShowsStages (tasks stage sb remount : ℕ) (block : ℕ → ℕ) (at : ℕ → StageRole) (s : State) : Type 0 where
  pub stage_same : s.stage ≡ stage
  pub passed_same : s.passed ≡ passed_shown tasks block at
  pub sb_same : s.sb_ro ≡ (remount == 1 || sb == 1)

-- it shows no mark at a node without one
abbrev pub ShowsMarks : ℕ → (ℕ → ℕ) → State → Type 0
ShowsMarks nodes dirty s = (n : ℕ) → n < nodes → dirty n ≡ 0 → is_dirty (s.tree n) ≡ false

-- What an action asks of other parts: nobody holds a mount, and no file is removed; where all is frozen, no freeze is held; this one holds no freeze, or
-- holds one; nobody holds the level, whose sum was 0; the node is a file.
abbrev pub AsksOthers : Limits → State → Action → Type 0
AsksOthers l s SbRo = ((m : ℕ) → m < l.mounts → NobodyHolds l s (Mount m)) × NoneRemoved l s
AsksOthers l s (Stage zero) = s.stage ≡ 4 → is_unheld s.holders ≡ true
AsksOthers l s (Hold holder) = held_by s.holders holder ≡ false
AsksOthers l s (Leave holder) = held_by s.holders holder ≡ true
AsksOthers l s (Pass i) = NobodyHolds l s (Level i)
AsksOthers l s (Clean n) = (n < l.nodes) × IsFile (s.tree n)
AsksOthers l s action = Unit {0}

-- the state after a step that adds this action, or none
abbrev pub state_after : State → ℕ → Option Action → State
state_after s t None = s
state_after s t (Some action) = after_action s t action
