-- One level without its counts: its sync word, its block and the sections, and what each task is doing there.
use Rattle.std.specs.Prelude.{None, Option, Some, true, ℕ, ◌%◌, ◌+◌, ◌<◌, ◌≡◌, ◌≤◌}
use Rattle.finite_sums.specs.Sums.{total}
use Rattle.percpu_rwsem.specs.{SyncWords.{bit, is_lawful, unpack}, declared.{grace.Grace.Grace, sync_word.GpState.GpState}}
use Rattle.percpu_rwsem.specs.declared.sync_word.{GpState.TheVariants.{Enter, Idle}, SyncWord.SyncWord}

-- What a task is doing at one level, as far as its rcu_sync goes. A writer is a freeze or a thaw; one that has not entered is out.
pub data SyncRole : Type 0 where
  Out : SyncRole
  -- a reader that found GP_IDLE, and has not yet added
  Fast : SyncRole
  -- a writer that found GP_IDLE: in its grace period
  Waiting : (grace : Grace) → SyncRole
  -- and past it, before its transition
  Past : SyncRole
  -- a writer that has entered, and whose block is not set: before its swap, or after its store of 0
  Entered : SyncRole
  -- a writer that has entered, and whose block is set
  Closed : SyncRole
  -- a callback that has claimed: in its grace period
  Claimed : (grace : Grace) → SyncRole
  -- and past it, before its transition
  Ready : SyncRole

-- 1 for a reader on the fast path
abbrev pub fast : SyncRole → ℕ
fast Fast = 1
fast r = 0

-- 1 from an enter that found GP_IDLE to the transition after its grace period
abbrev pub entering : SyncRole → ℕ
entering (Waiting g) = 1
entering Past = 1
entering r = 0

-- 1 from an enter to its exit
abbrev pub entered : SyncRole → ℕ
entered (Waiting g) = 1
entered Past = 1
entered Entered = 1
entered Closed = 1
entered r = 0

-- 1 from a swap of the block to the store of 0
abbrev pub closed : SyncRole → ℕ
closed Closed = 1
closed r = 0

-- 1 from a claim to its transition
abbrev pub claimed : SyncRole → ℕ
claimed (Claimed g) = 1
claimed Ready = 1
claimed r = 0

-- 1 for GP_ENTER
abbrev pub enter_bit : GpState → ℕ
enter_bit Enter = 1
enter_bit s = 0

-- 1 for GP_IDLE
abbrev pub idle_bit : GpState → ℕ
idle_bit Idle = 1
idle_bit s = 0

module _ (section : ℕ → ℕ) (at : ℕ → SyncRole) where
  -- no task below this number is on the fast path
  abbrev pub NoneBelow : ℕ → Type 0
  NoneBelow j = (u : ℕ) → u < j → fast (at u) ≡ 0

  -- if the task is on the fast path, its section word is still the first value read
  abbrev pub StillFirst : ℕ → Option ℕ → Type 0
  StillFirst j None = Unit {0}
  StillFirst j (Some first) = fast (at j) ≡ 1 → section j ≡ first

  -- What a role says of the others. A writer in its grace period: no number that it has passed is on the fast path, and the number
  -- that it waits for only in the section that it was first found in. A writer past it: nobody is.
  abbrev pub RoleHolds : ℕ → SyncRole → Type 0
  RoleHolds tasks (Waiting g) = (g.tasks ≡ tasks) × (g.task < tasks) × NoneBelow g.task × StillFirst g.task g.first
  RoleHolds tasks Past = NoneBelow tasks
  RoleHolds tasks r = Unit {0}

-- What holds at one level between any two steps. `full` is 1 while the level is frozen, where its count and `block` are no task's own.
pub record SyncHolds (tasks : ℕ) (word : SyncWord) (block full : ℕ) (section : ℕ → ℕ) (at : ℕ → SyncRole) : Type 0 where
  pub lawful : is_lawful word.state word.taken word.count ≡ true
  -- the count is the number of writers that have entered, and is at most 1
  pub count : total tasks (λ t. entered (at t)) + full ≡ word.count
  pub once : word.count ≤ 1
  -- the state is GP_ENTER exactly where a writer is in its grace period or past it
  pub enter : total tasks (λ t. entering (at t)) ≡ enter_bit word.state
  -- the callback is taken exactly where one task has claimed it
  pub taken : total tasks (λ t. claimed (at t)) ≡ bit word.taken
  -- readers are on the fast path only in GP_IDLE and GP_ENTER
  pub slow : idle_bit word.state + enter_bit word.state ≡ 0 → total tasks (λ t. fast (at t)) ≡ 0
  pub roles : (t : ℕ) → t < tasks → RoleHolds section at tasks (at t)
  -- the block is set exactly from a swap to the store of 0
  pub blocked : total tasks (λ t. closed (at t)) + full ≡ block

-- the same, of the word as the number that it is in memory
pub record SyncNumberHolds (tasks sync block full : ℕ) (section : ℕ → ℕ) (at : ℕ → SyncRole) : Type 0 where
  pub word : SyncWord
  pub packed : unpack sync ≡ Some word
  pub holds : SyncHolds tasks word block full section at

-- The sections: a task's word is odd exactly where its phase is inside a section, and a reader on the fast path is inside one.
pub record SectionsHold (tasks : ℕ) (section inside : ℕ → ℕ) (at : ℕ → SyncRole) : Type 0 where
  pub odd : (t : ℕ) → t < tasks → section t % 2 ≡ inside t
  pub fast_inside : (t : ℕ) → t < tasks → fast (at t) ≤ inside t
