-- What the tasks of a run meet on their way, counted.
use Rattle.std.specs.Prelude.{◌≡◌, ℕ, ◌+◌, min, max, Bool, cond, Option, Some, None, List, [], ◌∷◌}
use Rattle.run_plans.specs.declared.counts.Tried.{Tried, TheVariants.{Copied, GaveUp}}
use Rattle.run_plans.specs.declared.counts.{Copies.{Copies}, Details.{Details}, Remounts.{Remounts}, Sizes.{Sizes}, Writes.{Writes}}
pub use Rattle.gate_world.specs.Counted.{counted}

-- before a writer's first round
abbrev pub no_writes : Writes
no_writes = record { granted = 0; read_only = 0; again = 0; waits = 0 }

-- a round more, in which the access was denied so often and the growth raced so often before they were done, and after which so many waits
-- are counted
abbrev pub with_round : ℕ → ℕ → ℕ → Writes → Writes
with_round denied raced waits so_far = record {
  granted = counted (so_far.granted + 1);
  read_only = counted (so_far.read_only + denied);
  again = counted (so_far.again + raced);
  waits = waits;
}

-- two together
abbrev pub both : Writes → Writes → Writes
both a b = record {
  granted = counted (a.granted + b.granted);
  read_only = counted (a.read_only + b.read_only);
  again = counted (a.again + b.again);
  waits = counted (a.waits + b.waits);
}

-- all together
abbrev pub all_writes : List Writes → Writes
all_writes [] = no_writes
all_writes (w ∷ ws) = both w (all_writes ws)

-- before a remounter's first round
abbrev pub no_remounts : Remounts
no_remounts = record { busy = 0; waits = 0 }

-- what the changes of the mount have met, as a run tells it
abbrev pub remounts_of : Details → Remounts
remounts_of d = record { busy = d.busy; waits = d.remount_waits }

-- how often all tasks of a run waited
abbrev pub all_waits : Details → ℕ
all_waits d = counted (counted (d.writes.waits + d.remount_waits) + d.copies.waits)

-- one more where a callback ran
abbrev pub with_ran : Bool → ℕ → ℕ
with_ran ran so_far = so_far + cond ran 1 0

-- the least and the most blocks, with one more snapshot's
abbrev pub sizes_with : ℕ → Option Sizes → Option Sizes
sizes_with blocks None = Some (record { least = blocks; most = blocks })
sizes_with blocks (Some s) = Some (record { least = min s.least blocks; most = max s.most blocks })

-- before a backup's first round
abbrev pub no_copies : Copies
no_copies = record { frozen = 0; gave_up = 0; snapshots = 0; callbacks = 0; waits = 0; sizes = None }

-- A round of a backup more, which began so, in which so many callbacks ran, and after which so many waits are counted. It counts a freeze with its
-- snapshot, if that is sound and clean, or a freeze that gave up.
abbrev pub with_try : Tried → ℕ → ℕ → Copies → Copies
with_try (Copied (Some blocks)) ran waits so_far = record {
  frozen = so_far.frozen + 1;
  gave_up = so_far.gave_up;
  snapshots = so_far.snapshots + 1;
  callbacks = so_far.callbacks + ran;
  waits = waits;
  sizes = sizes_with blocks so_far.sizes;
}
with_try (Copied None) ran waits so_far = record so_far {
  frozen = so_far.frozen + 1;
  callbacks = so_far.callbacks + ran;
  waits = waits;
}
with_try GaveUp ran waits so_far = record so_far {
  gave_up = so_far.gave_up + 1;
  callbacks = so_far.callbacks + ran;
  waits = waits;
}

-- What a backup has counted in so many rounds: in each it froze and took a snapshot, or its freeze gave up; none did that has no limit to its patience.
pub record CountsRounds (patience : Option ℕ) (rounds : ℕ) (copies : Copies) : Type 0 where
  pub each : copies.frozen + copies.gave_up ≡ rounds
  pub snapshots : copies.snapshots ≡ copies.frozen
  pub endless : patience ≡ None → copies.gave_up ≡ 0

-- how often freezes gave up, as a run tells it: not where its patience has no limit
abbrev pub gave_up_told : Option ℕ → ℕ → Option ℕ
gave_up_told None gave_up = None
gave_up_told (Some turns) gave_up = Some gave_up
