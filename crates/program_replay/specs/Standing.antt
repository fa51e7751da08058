-- Where the tasks stand that one thread drives.
use Rattle.std.specs.Prelude.{List, Some, length, slice_index_or, ℕ, ◌<◌, ◌≡◌, ◌≢◌, ◌≤◌}
use Rattle.gate_steps.specs.{Seating.IsPrefix, call_events.Grown.HasSeen}
use Rattle.gate_world.specs.{Beginnings.first_phase, Headline.world_after, Worlds.World, declared.{entries.Entry.Entry, operations.Op.Op}}
use Rattle.vfs_gates.specs.TaskStates.{SeatedTask, own_number, own_view}

-- a task of which an operation has begun
abbrev pub with_begun : Op → SeatedTask → SeatedTask
with_begun op s = record s { begins = Some op; phase = Some (first_phase s.config (own_number s.items) op) }

-- nothing of the task has changed but what it has seen
abbrev pub HasOnlySeen : SeatedTask → SeatedTask → Type 0
HasOnlySeen old left = left ≡ record old { seen = left.seen }

-- the own number of a task stands in this state as the task knows it: at this phase, after these steps
pub record Stands (w : World) (number : ℕ) (s : SeatedTask) : Type 0 where
  pub phase : (w.views number).phase ≡ (own_view s.items).phase
  pub events : (w.views number).events ≡ (own_view s.items).events

-- it stands so after an execution that goes on from this one
pub record StandsLater (entries : List Entry) (s : SeatedTask) : Type 0 where
  pub later : List Entry
  pub goes_on : IsPrefix entries later
  pub stands : Stands (world_after s.config later) (own_number s.items) s

-- A task has met another, the first here: what that had seen it has seen, too, and after all of that it stands as it knows.
pub record HasMet (first old left : SeatedTask) : Type 0 where
  pub same : HasOnlySeen old left
  pub seen : (entries : List Entry) → HasSeen entries first.seen → HasSeen entries left.seen
  pub stands : (entries : List Entry) → HasSeen entries first.seen → 1 ≤ length old.items → StandsLater entries left

-- All tasks have seen what the task of a number had seen, and after all of that each other one stands as it knows. Nothing else of them has changed.
pub record AreGathered (number : ℕ) (before after : List SeatedTask) : Type 0 where
  pub count : length after ≡ length before
  pub same : (k : ℕ) (t : SeatedTask) → k < length before → HasOnlySeen (slice_index_or before k t) (slice_index_or after k t)
  pub seen : (entries : List Entry) (d : SeatedTask) → HasSeen entries (slice_index_or before number d).seen →
      (k : ℕ) (t : SeatedTask) → k < length before → HasSeen entries (slice_index_or after k t).seen
  pub stands : (entries : List Entry) (d : SeatedTask) → HasSeen entries (slice_index_or before number d).seen →
      (k : ℕ) (t : SeatedTask) → k < length before → k ≢ number → 1 ≤ length (slice_index_or before k t).items →
      StandsLater entries (slice_index_or after k t)
