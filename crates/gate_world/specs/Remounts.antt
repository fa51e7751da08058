-- A remount between two of its steps: what it does at each mount, what it owns and has set, and what its numbers are.
use Rattle.std.specs.Prelude.{Bool, false, nat_lt, true, ℕ, ◌<◌, ◌==◌, ◌≡◌, ◌≤◌}
use Rattle.cpu_words.specs.declared.sums.Sum.{Sum}
use Rattle.mount_counts.specs.{Roles.{Empty, Leaving, Out, Role, Skipped, Summing}, Sets.has_mount, declared.remounts.RemountStep.RemountStep}
use Rattle.mount_counts.specs.declared.remounts.RemountStep.TheVariants.{ClearsHold, ClearsMark, ClearsRemount, GivesUp, LeavesHolds, LoadsFlags}
use Rattle.mount_counts.specs.declared.remounts.RemountStep.TheVariants.{LoadsRemovedAgain, Locks, SetsHold, SetsReadOnly, SetsRemount, Sums}
use Rattle.mount_counts.specs.declared.sets.MountSet.{MountSet}
use Rattle.gate_world.specs.declared.config.Config.{Config}

-- in its loop: a mount that it holds is empty, one that it has passed and doesn't hold is skipped
abbrev pub loop_role : (held passed : Bool) → Role
loop_role true passed = Empty
loop_role false true = Skipped
loop_role false false = Out

-- the mount at which its loop stands is summed, the others are as in the loop
abbrev pub summing_role : (here : Bool) → Sum → Role → Role
summing_role true sum other = Summing sum.words sum.total
summing_role false sum other = other

-- with `remount` set, a mount is empty until its HOLD is cleared
abbrev pub held_role : (held : Bool) → Role
held_role true = Empty
held_role false = Out

-- where a sum was not 0, so is each mount but the one of that sum
abbrev pub giving_role : (here held : Bool) → Role
giving_role true true = Leaving
giving_role false true = Empty
giving_role here false = Out

-- what a step of a remount is doing at a mount
abbrev pub remount_role : ℕ → RemountStep → Role
remount_role m (LoadsFlags at held) = loop_role (has_mount held m) (nat_lt m at)
remount_role m (SetsHold at held) = loop_role (has_mount held m) (nat_lt m at)
remount_role m (Sums at held sum) = summing_role (m == at) sum (loop_role (has_mount held m) (nat_lt m at))
remount_role m (LoadsRemovedAgain held) = loop_role (has_mount held m) true
remount_role m (LeavesHolds held) = held_role (has_mount held m)
remount_role m (SetsRemount held) = loop_role (has_mount held m) true
remount_role m (ClearsHold held) = held_role (has_mount held m)
remount_role m (GivesUp at held) = giving_role (m == at) (has_mount held m)
remount_role m step = Out

-- 1 between the lock of `umount` and its release
abbrev pub remount_owns : RemountStep → ℕ
remount_owns Locks = 0
remount_owns step = 1

-- 1 while it has `remount` set
abbrev pub remount_sets : RemountStep → ℕ
remount_sets (ClearsHold held) = 1
remount_sets (ClearsMark n) = 1
remount_sets SetsReadOnly = 1
remount_sets ClearsRemount = 1
remount_sets step = 0

-- all mounts of a set are below this one
abbrev pub AllBelow : ℕ → MountSet → Type 0
AllBelow m held = (held.bits < 256) × ((n : ℕ) → has_mount held n ≡ true → n < m)

-- A remount's loop holds mounts that it has passed, a sum has a word more to read, each mount to be let go is there, and each node to be
-- cleared is one but the root.
abbrev pub RemountFits : Config → RemountStep → Type 0
RemountFits c (LoadsFlags m held) = (m < c.mounts) × AllBelow m held
RemountFits c (SetsHold m held) = (m < c.mounts) × AllBelow m held
RemountFits c (Sums m held sum) = (m < c.mounts) × AllBelow m held × (sum.words < c.processors)
RemountFits c (LoadsRemovedAgain held) = AllBelow c.mounts held
RemountFits c (LeavesHolds held) = (0 < held.bits) × AllBelow c.mounts held
RemountFits c (SetsRemount held) = AllBelow c.mounts held
RemountFits c (ClearsHold held) = (0 < held.bits) × AllBelow c.mounts held
RemountFits c (GivesUp m held) = (0 < held.bits) × AllBelow c.mounts held × (m < c.mounts)
RemountFits c (ClearsMark n) = (1 ≤ n) × (n < c.nodes)
RemountFits c step = Unit {0}
