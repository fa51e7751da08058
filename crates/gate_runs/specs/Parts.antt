-- What each task of a run has done, from where it began, and how it stands at the end.
use Rattle.std.specs.Prelude.{List, Option, [], length, suc, ℕ, ◌+◌, ◌-◌, ◌∷◌, ◌≡◌, ◌⊎◌}
use Rattle.gate_world.specs.declared.views.View.{View}
use Rattle.run_plans.specs.declared.counts.{Copies.Copies, Details.Details, Remounts.Remounts, Writes.Writes}
use Rattle.vfs_gates.specs.{Seating.{DealtNumbers, numbered}, Splitting.HasBegun, TaskStates.{SeatedTask, own_number, own_view}}
use Rattle.gate_runs.specs.{Counts.{all_writes, no_copies, no_remounts, no_writes, remounts_of}, Observers.{was_frozen, was_held}}
use Rattle.gate_runs.specs.Rounds.{BackupRound, CreatesFiles, RemountRound, Repeats, WriterRound}

-- each of a list, by its number from this one on
abbrev pub EachFrom : {A : Type 0} → (ℕ → A → Type 0) → ℕ → List A → Type 0
EachFrom Is n [] = Unit {0}
EachFrom Is n (x ∷ xs) = Is n x × EachFrom Is (suc n) xs

-- the task's own number stands among these, with its view
abbrev pub Among : DealtNumbers → SeatedTask → Type 0
Among [] s = ⊥
Among (x ∷ xs) s = (x ≡ numbered (own_number s.items) (own_view s.items)) ⊎ Among xs s

-- its own number has in the end the view that it knew
abbrev pub EndsAs : (ℕ → View) → SeatedTask → Type 0
EndsAs views s = views (own_number s.items) ≡ own_view s.items

-- What each task has done. `Ends` says of the last state of each how it stands at the end.
module _ (Ends : SeatedTask → Type 0) where
  -- the remounter: from its beginning on so many rounds, which met this, and nothing else
  pub record Remounted (rounds : ℕ) (remounts : Remounts) : Type 0 where
    pub first : SeatedTask
    pub last : SeatedTask
    pub begun : HasBegun 1 first
    pub did : Repeats RemountRound rounds (first, no_remounts) (last, remounts)
    pub own : own_number last.items ≡ 1
    pub ends : Ends last

  module _ {N : Type 0} (link : SeatedTask → ℕ → N → N → Type 0) where
    -- a writer, the first being 0: from its beginning and these notes on so many rounds, which met this, and nothing else
    pub record Wrote (processors rounds writer : ℕ) (before after : N) (writes : Writes) : Type 0 where
      pub first : SeatedTask
      pub last : SeatedTask
      pub begun : HasBegun (writer + 2) first
      pub did : Repeats (WriterRound link processors writer) rounds (first, before, no_writes) (last, after, writes)
      pub own : own_number last.items ≡ writer + 2
      pub ends : Ends last

    -- all writers from this one on, of so many: each its part, and what they met together
    pub record AllWrote (processors rounds from count : ℕ) (before after : N) (writes : Writes) : Type 0 where
      pub each : List Writes
      pub all : count ≡ from + length each
      pub parts : EachFrom (λ writer. Wrote processors rounds writer before after) from each
      pub sum : writes ≡ all_writes each

    -- The backup: it has created a file for each writer, then given all other numbers away, which adds nothing to its list, and then done so
    -- many rounds with this patience, which met this, and nothing else.
    pub record BackedUp (writers freezes : ℕ) (patience : Option ℕ) (before after : N) (copies : Copies) : Type 0 where
      pub begins : SeatedTask
      pub made : SeatedTask
      pub first : SeatedTask
      pub last : SeatedTask
      pub begun : HasBegun 0 begins
      pub creates : CreatesFiles writers begins made
      pub same : own_view first.items ≡ own_view made.items
      pub did : Repeats (BackupRound link patience) freezes (first, before, no_copies) (last, after, copies)
      pub own : own_number last.items ≡ 0
      pub ends : Ends last

-- what all tasks of a run have done and met
pub record AllDid (Ends : SeatedTask → Type 0) (held : ℕ → ℕ → Type 0) (seen : ℕ → Type 0) (tasks processors rounds freezes : ℕ)
    (patience : Option ℕ) (details : Details) : Type 0 where
  pub backup : BackedUp Ends (was_frozen seen) (tasks - 2) freezes patience tt tt details.copies
  pub remounter : Remounted Ends rounds (remounts_of details)
  pub writers : AllWrote Ends (was_held held) processors rounds 0 (tasks - 2) tt tt details.writes
