-- How far a freeze has come: the stage, the superblock's flags, `remount`, the blocks of the levels and the marks of the nodes, and what
-- each task is doing with them.
use Rattle.std.specs.Prelude.{◌≡◌, ℕ, suc, ◌+◌, ◌-◌, ◌<◌, ◌≤◌, ◌==◌, ◌&&◌, nat_le, nat_lt, if◌then◌else◌, Bool, Option, Some, None}
use Rattle.finite_sums.specs.Sums.{total}

-- Where a freeze is with the level of its stage.
pub data Place : Type 0 where
  -- its `block` is not set yet
  Before : Place
  -- its `block` is set, and no sum was 0 yet
  Closing : Place
  -- a sum was 0; the nodes below this one are clean
  HasPassed : (clean : ℕ) → Place

-- What a task is doing with the stage. An owner is between its lock of `umount` and its release.
pub data StageRole : Type 0 where
  -- no owner, and in no freeze
  Aside : StageRole
  -- an owner, which relies on this stage and on these flags of the superblock: it found or left them, where something is told
  Owning : (stage sb : Option ℕ) → StageRole
  -- an owner that has set `remount` at stage 0, and found or left these flags; the nodes below this one are clean
  Remounting : (sb clean : ℕ) → StageRole
  -- in a freeze, which stored this stage last, and is there with the level of the same number; an owner or not
  Freezing : (stage : ℕ) (place : Place) (owner : Bool) → StageRole
  -- an owner that stored stage 0, as a thaw or in a freeze that failed, and has levels 1 to this one still closed
  Reopening : (closed : ℕ) → StageRole

-- 1 for what is so
abbrev pub bit : Bool → ℕ
bit b = if b then 1 else 0

-- 1 between the lock of `umount` and its release
abbrev pub owns : StageRole → ℕ
owns Aside = 0
owns (Freezing stage place owner) = bit owner
owns r = 1

-- 1 between a freeze's store of stage 1 and its store of 4 or 0
abbrev pub freezes : StageRole → ℕ
freezes (Freezing stage place owner) = 1
freezes r = 0

-- 1 from the store of 0 that leaves levels closed to the release
abbrev pub reopens : StageRole → ℕ
reopens (Reopening closed) = 1
reopens r = 0

-- 1 where a task has a position: levels that it has closed, or is to close or to open, are its own
abbrev pub has_position : StageRole → ℕ
has_position r = freezes r + reopens r

-- 1 between the stores of `remount` 1 and 0
abbrev pub remounts : StageRole → ℕ
remounts (Remounting sb clean) = 1
remounts r = 0

-- the levels 1 to this one are closed at a place
abbrev pub closed_at : ℕ → Place → ℕ
closed_at stage Before = stage - 1
closed_at stage place = stage

-- and passed
abbrev pub passed_at : ℕ → Place → ℕ
passed_at stage (HasPassed clean) = stage
passed_at stage place = stage - 1

-- the levels 1 to this one are closed by a task
abbrev pub closed_by : StageRole → ℕ
closed_by (Freezing stage place owner) = closed_at stage place
closed_by (Reopening closed) = closed
closed_by r = 0

-- and passed by it
abbrev pub passed_by : StageRole → ℕ
passed_by (Freezing stage place owner) = passed_at stage place
passed_by (Reopening closed) = closed
passed_by r = 0

-- 1 for each of the levels 1 to n
abbrev pub up_to : ℕ → ℕ → ℕ
up_to i n = if nat_le i n then 1 else 0

-- 1 where a task has closed level i
abbrev pub closes : ℕ → StageRole → ℕ
closes i r = up_to i (closed_by r)

-- 1 where it has passed it
abbrev pub passes : ℕ → StageRole → ℕ
passes i r = up_to i (passed_by r)

-- 1 where it has closed level i and not passed it
abbrev pub sums : ℕ → StageRole → ℕ
sums i (Freezing stage Closing owner) = if i == stage then 1 else 0
sums i r = 0

-- the nodes below this one are clean at a place: marks are cleared once level 2 is passed
abbrev pub clean_at : ℕ → Place → ℕ
clean_at (suc (suc stage)) (HasPassed clean) = clean
clean_at stage place = 0

-- the nodes below this one are clean, as a task has left them
abbrev pub clean_by : StageRole → ℕ
clean_by (Freezing stage place owner) = clean_at stage place
clean_by (Remounting sb clean) = clean
clean_by r = 0

-- a word is what is known of it, where something is
abbrev pub IsKnown : Option ℕ → ℕ → Type 0
IsKnown None word = Unit {0}
IsKnown (Some value) word = word ≡ value

-- What a task relies on is so: an owner on what it found or left, a freeze on the stage that it stored last.
abbrev pub KnowsStage : ℕ → ℕ → StageRole → Type 0
KnowsStage stage sb Aside = Unit {0}
KnowsStage stage sb (Owning known_stage known_sb) = IsKnown known_stage stage × IsKnown known_sb sb
KnowsStage stage sb (Remounting known_sb clean) = (stage ≡ 0) × (sb ≡ known_sb)
KnowsStage stage sb (Freezing known place owner) = stage ≡ known
KnowsStage stage sb (Reopening closed) = (stage ≡ 0) × (closed ≤ 3)

-- 1 at stages 1 to 3
abbrev pub under_way : ℕ → ℕ
under_way stage = bit (nat_lt 0 stage && nat_lt stage 4)

-- 1 at stage 4 of a writable superblock: the file system is frozen as a whole, and its levels are closed and no task's own
abbrev pub is_full : ℕ → ℕ → ℕ
is_full stage sb = if stage == 4 && sb == 0 then 1 else 0

-- The stage between any two steps.
pub record StagesHold (tasks stage sb remount : ℕ) (block : ℕ → ℕ) (at : ℕ → StageRole) : Type 0 where
  pub stages : stage ≤ 4
  pub superblock : sb ≤ 1
  -- at most one task owns `umount`
  pub alone : total tasks (λ t. owns (at t)) ≤ 1
  -- the stage is 1 to 3 exactly while one freeze is under way
  pub freezing : total tasks (λ t. freezes (at t)) ≡ under_way stage
  -- and then the superblock is writable
  pub writable : under_way stage ≡ 1 → sb ≡ 0
  -- `remount` is set exactly while one task has it set
  pub remounting : remount ≡ total tasks (λ t. remounts (at t))
  -- a level's `block` is set exactly where a task has closed it, or the file system is frozen as a whole
  pub blocks : (i : ℕ) → 1 ≤ i → i ≤ 3 → block i ≡ total tasks (λ t. closes i (at t)) + is_full stage sb
  -- what each task relies on is so; so the stage is the one that the freeze under way stored last
  pub knows : (t : ℕ) → t < tasks → KnowsStage stage sb (at t)

-- each node below n is clean: `dirty` is 0 at a node without its mark
abbrev pub CleanBelow : ℕ → (ℕ → ℕ) → Type 0
CleanBelow n dirty = (m : ℕ) → m < n → dirty m ≡ 0

-- The marks of the nodes between any two steps: none is left at stages 3 and 4, nor where the superblock's flag is set.
pub record MarksHold (tasks nodes stage sb : ℕ) (dirty : ℕ → ℕ) (at : ℕ → StageRole) : Type 0 where
  pub frozen : 3 ≤ stage → CleanBelow nodes dirty
  pub read_only : sb ≡ 1 → CleanBelow nodes dirty
  -- and the nodes that a freeze or a remount has cleared are clean, those below its loop's number
  pub cleared : (t : ℕ) → t < tasks → CleanBelow (clean_by (at t)) dirty
