-- Sets of mounts 0 to 7, one bit for each.
use Rattle.std.specs.{Prelude.{ℕ, ◌*◌, ◌%◌, ◌^◌, ◌==◌, Bool, bit_and, bit_or}, Int.{bit_at, bit_not, trailing_zeros, w8}}
use Rattle.mount_counts.specs.declared.sets.MountSet.{MountSet}

-- the set has this mount
abbrev pub has_mount : MountSet → ℕ → Bool
has_mount set m = bit_at set.bits m == 1

-- the bits of the set of one mount
abbrev pub one_mount : ℕ → ℕ
one_mount m = 1 * 2 ^ (m % 8) % 256

-- the empty set
abbrev pub no_mounts : MountSet
no_mounts = record { bits = 0 }

-- the set with this mount too
abbrev pub with_mount : MountSet → ℕ → MountSet
with_mount set m = record { bits = bit_or set.bits (one_mount m) }

-- the lowest mount of a set
abbrev pub lowest : MountSet → ℕ
lowest set = trailing_zeros w8 set.bits

-- the set without it
abbrev pub without_lowest : MountSet → MountSet
without_lowest set = record { bits = bit_and set.bits (bit_not w8 (one_mount (lowest set))) }
