-- One mount: what its predicate reads of the words and of each task's view, as one gate.
use Rattle.std.specs.Prelude.{◌≡◌, ℕ, zero, suc, ◌+◌, ◌%◌, ◌/◌, ◌<◌}
use Rattle.cpu_words.specs.gate_counts.Gates.{Barring, Apart, Reading, ReadZero, Silent, bars, below, GateView, admitted as is_admitted, counted as is_counted, GateHolds}

-- What a task is doing at one mount. Of the tasks that count there: `Out` is none of them, the next five seek an access, the
-- last four own `umount`.
pub data Role : Type 0 where
  Out : Role
  -- added on this processor, and has not found HOLD clear
  Asking : (cpu : ℕ) → Role
  -- found HOLD clear
  Cleared : (cpu : ℕ) → Role
  -- and `remount` 0
  PastRemount : (cpu : ℕ) → Role
  -- and READONLY clear
  PastFlags : (cpu : ℕ) → Role
  -- is to subtract what it added
  BackingOff : (cpu : ℕ) → Role
  -- set HOLD, and read this many words, with this sum
  Summing : (read : ℕ) (sum : ℕ) → Role
  -- set HOLD, and its sum was 0
  Empty : Role
  -- set HOLD, and its sum was not 0
  Leaving : Role
  -- a remount's loop found the mount read-only, and did not hold it
  Skipped : Role

-- what a mount's predicate reads of a task's view: accesses held, what it added to each count word and what it took away, its role
pub record MountView : Type 0 where
  pub held : ℕ
  pub added : ℕ → ℕ
  pub taken : ℕ → ℕ
  pub role : Role

-- how many of the mount's questions an access sought is past: HOLD, `remount`, READONLY, and the superblock's flag, which grants it
abbrev pub questions_of : Role → ℕ
questions_of (Cleared p) = 1
questions_of (PastRemount p) = 2
questions_of (PastFlags p) = 3
questions_of _ = 0

-- one more than the processor on which an access is sought that is not admitted; else 0
abbrev pub processor_of : Role → ℕ
processor_of (Asking p) = suc p
processor_of (BackingOff p) = suc p
processor_of _ = 0

-- what a role has to do with HOLD
abbrev pub barring_of : Role → Barring
barring_of (Summing k sum) = Reading k sum
barring_of Empty = ReadZero
barring_of Leaving = Silent
barring_of _ = Apart

-- 1 where a remount counts on the mount staying read-only
abbrev pub skips : Role → ℕ
skips Skipped = 1
skips _ = 0

-- a view as its mount reads it, which is a gate
abbrev pub mount_as_gate : MountView → GateView
mount_as_gate v = record {
  held = v.held;
  added = v.added;
  taken = v.taken;
  questions = questions_of v.role;
  sought_on = processor_of v.role;
  barring = barring_of v.role;
}

-- 1 for what is sought and admitted: HOLD was found clear, and none of the three read-only words set
abbrev pub passed_hold : Role → ℕ
passed_hold r = below 0 (questions_of r)

-- 1 for what is sought, admitted, and past its load of `remount`
abbrev pub past_remount : Role → ℕ
past_remount r = below 1 (questions_of r)

-- 1 for what is sought, admitted, and past its load of READONLY
abbrev pub past_flags : Role → ℕ
past_flags r = below 2 (questions_of r)

-- 1 between an addition and its grant or subtraction
abbrev pub sought : Role → ℕ
sought r = passed_hold r + below 0 (processor_of r)

-- 1 while the task has HOLD set
abbrev pub has_hold : Role → ℕ
has_hold r = bars (barring_of r)

-- what a task is counted for: accesses held, and sought
abbrev pub counted : MountView → ℕ
counted v = is_counted (mount_as_gate v)

-- what is admitted of it
abbrev pub admitted : MountView → ℕ
admitted v = is_admitted (mount_as_gate v)

-- the bits of a flags word, as numbers
abbrev pub ro_bit : ℕ → ℕ
ro_bit flags = flags % 2

-- HOLD of a flags word, as 0 or 1
abbrev pub hold_bit : ℕ → ℕ
hold_bit flags = flags / 2

-- While `remount` is set, nobody holds an access or is past its load of `remount`. At a mount with READONLY nobody holds one or is
-- past its load of READONLY. On a read-only superblock nobody holds one.
abbrev pub mount_shut : (flags remount sb : ℕ) → ℕ → Type 0
mount_shut flags remount sb (suc zero) = (remount ≡ 1) × (sb ≡ 0) × (ro_bit flags ≡ 0)
mount_shut flags remount sb (suc (suc zero)) = ro_bit flags ≡ 1
mount_shut flags remount sb (suc (suc (suc zero))) = sb ≡ 1
mount_shut flags remount sb _ = ⊥

-- what holds at one mount between any two steps
pub record MountHolds (tasks processors flags remount sb : ℕ) (count : ℕ → ℕ) (at : ℕ → MountView) : Type 0 where
  pub bits : flags < 4
  -- the mount's counts, and HOLD, which is some task's own where it is set
  pub gate : GateHolds tasks processors (hold_bit flags) 0 (mount_shut flags remount sb) count (λ t. mount_as_gate (at t))
  -- a mount that a remount skipped is read-only
  pub skipped : (t : ℕ) → t < tasks → skips (at t).role ≡ 1 → ro_bit flags ≡ 1
