-- Freeze levels: what each predicate of one reads of the words and of each task's view.
use Rattle.std.specs.Prelude.{List, Option, Some, [], if◌then◌else◌, ℕ, ◌%◌, ◌+◌, ◌<◌, ◌==◌, ◌∷◌, ◌≡◌}
use Rattle.composite_ops.specs.declared.{file_closes.phases.ClosePhase.ClosePhase, write_access.phases.WritePhase.WritePhase}
use Rattle.cpu_words.specs.{Words.Words, declared.events.{Event.Event, Touch.{TheVariants.{Add, Sub}, Touch}}}
use Rattle.cpu_words.specs.{declared.names.WordName.{TheVariants.LevelCount, WordName}, gate_counts.Levels.{LevelRole, LevelView, Out as CountsNot}}
use Rattle.finite_sums.specs.Sums.{update}
use Rattle.freeze_laws.specs.{levels.{Operations.{callback_role, down_read_inside}, Roles.{Out as IsApart, SyncRole}}, stages.Roles.is_full}
use Rattle.gate_world.specs.Roles.{freeze_position, position_count, position_sync, read_level_role, read_sync_role, sync_role_if, thaw_position}
use Rattle.gate_world.specs.{Views.holds_level, declared.{views.View.View, work.Phase.Phase}}

-- net additions are what was added to a level's count word less what was taken away: each is a sum over the steps
abbrev pub level_added_after : WordName → Touch → (ℕ → ℕ → ℕ) → ℕ → ℕ → ℕ
level_added_after (LevelCount i p) (Add n) added = update added i (update (added i) p (added i p + n))
level_added_after word touch added = added

-- what was taken away after one step more
abbrev pub level_taken_after : WordName → Touch → (ℕ → ℕ → ℕ) → ℕ → ℕ → ℕ
level_taken_after (LevelCount i p) (Sub n) taken = update taken i (update (taken i) p (taken i p + n))
level_taken_after word touch taken = taken

-- what these steps added to each count word of the levels
abbrev pub level_added_by : List Event → ℕ → ℕ → ℕ
level_added_by [] = λ i p. 0
level_added_by (e ∷ earlier) = level_added_after e.word e.touch (level_added_by earlier)

-- what these steps took from each
abbrev pub level_taken_by : List Event → ℕ → ℕ → ℕ
level_taken_by [] = λ i p. 0
level_taken_by (e ∷ earlier) = level_taken_after e.word e.touch (level_taken_by earlier)

-- what a task is doing at a level's counts
abbrev pub level_role_of : ℕ → Option Phase → LevelRole
level_role_of i (Some (Phase.DownReads r)) = read_level_role i r
level_role_of i (Some (Phase.Writes (WritePhase.Takes m r))) = read_level_role i r
level_role_of i (Some (Phase.Closes (ClosePhase.Enters f node r))) = read_level_role i r
level_role_of i (Some (Phase.Freezes x)) = position_count i (freeze_position x.step)
level_role_of i (Some (Phase.Thaws x)) = position_count i (thaw_position x.step)
level_role_of i p = CountsNot

-- and at its rcu_sync
abbrev pub sync_role_of : ℕ → Option Phase → SyncRole
sync_role_of i (Some (Phase.DownReads r)) = read_sync_role i r
sync_role_of i (Some (Phase.Writes (WritePhase.Takes m r))) = read_sync_role i r
sync_role_of i (Some (Phase.Closes (ClosePhase.Enters f node r))) = read_sync_role i r
sync_role_of i (Some (Phase.Callbacks b)) = sync_role_if (i == b.level) (callback_role b.step)
sync_role_of i (Some (Phase.Freezes x)) = position_sync i (freeze_position x.step)
sync_role_of i (Some (Phase.Thaws x)) = position_sync i (thaw_position x.step)
sync_role_of i p = IsApart

-- 1 while it is inside a read-side section
abbrev pub inside : Option Phase → ℕ
inside (Some (Phase.DownReads r)) = down_read_inside r.step
inside (Some (Phase.Writes (WritePhase.Takes m r))) = down_read_inside r.step
inside (Some (Phase.Closes (ClosePhase.Enters f node r))) = down_read_inside r.step
inside p = 0

-- what a level's counts read of a view
abbrev pub at_level : ℕ → View → LevelView
at_level i v = record {
  held = (if holds_level v i then 1 else 0);
  added = level_added_by v.events i;
  taken = level_taken_by v.events i;
  role = level_role_of i v.phase;
}

-- 1 while the file system is frozen as a whole, by closed levels: at stage 4 of a writable superblock
abbrev pub is_frozen_whole : Words → ℕ
is_frozen_whole w = is_full w.stage w.sb

-- a section word is odd exactly while its task is inside a read-side section
abbrev pub SectionsAreOdd : ℕ → (ℕ → ℕ) → (ℕ → Option Phase) → Type 0
SectionsAreOdd tasks section phases = (t : ℕ) → t < tasks → section t % 2 ≡ inside (phases t)
