-- Where `keep_waiting` says to give up whenever it is asked, no freeze waits for who holds a level.
use Rattle.std.specs.Prelude.{Bool, List, Option, Some, false, length, true, ℕ, ◌*◌, ◌+◌, ◌<◌, ◌≡◌, ◌≤◌, ◌⊎◌}
use Rattle.{finite_sums.specs.Sums.total, gate_schedules.specs.operations.Progress.{HasReply, IsUnderWay}}
use Rattle.gate_world.specs.{Levels.is_frozen_whole, Worlds.World, declared.{config.Config.Config, entries.Entry.Entry, work.Phase.Phase}}
use Rattle.progress_laws.specs.{Answers.{IsImpatient, RoundsAnswerSo}, FairRounds.{AreRounds, nobody, run_all}}
use Rattle.progress_laws.specs.{LostTasks.{AllWait, FreezeSums, LeavesBehind}, StepsLeft.{most_turns, turns_left}, Waiting.is_outside}

-- the most loads that a sum has still to do before the hook is asked
abbrev pub load_room_of : ℕ → Option Phase → ℕ
load_room_of processors (Some (Phase.Freezes x)) = processors
load_room_of processors p = 0

-- of all tasks
abbrev pub load_room : Config → World → ℕ
load_room c w = total c.tasks (λ t. load_room_of c.processors (w.views t).phase)

-- So many turns are left if freezes give up: to each of those that are left anyhow come the loads of the sums under way.
abbrev pub turns_to_give_up : Config → World → ℕ
turns_to_give_up c w = turns_left c w * (load_room c w + 1)

-- no more are left from any state
abbrev pub most_turns_to_give_up : Config → ℕ
most_turns_to_give_up c = most_turns c * (c.tasks * c.processors + 1)

-- an operation waits for a thaw: all is frozen, and it stands outside a level
abbrev pub WaitsForThaw : World → ℕ → Type 0
WaitsForThaw w t =
    (is_frozen_whole w.words ≡ 1) × (phase : Phase) × ((w.views t).phase ≡ Some phase) × (is_outside w.words phase ≡ true)

-- With no task lost and nobody told to wait on, after so many rounds each operation has its reply, so each freeze, whatever idle tasks hold; or
-- all is frozen, and it stands outside.
abbrev pub RepliesOrWaitsForThaw : Config → ℕ → World → Type 0
RepliesOrWaitsForThaw c n w =
    (rounds : List (List Entry)) → AreRounds c nobody w rounds → RoundsAnswerSo IsImpatient c w rounds → n ≤ length rounds →
    (t : ℕ) → t < c.tasks → HasReply (run_all c w rounds) t ⊎ WaitsForThaw (run_all c w rounds) t

-- what keeps somebody then: all is frozen, or a lost task has left something behind
abbrev pub RemainsUnpassed : Config → (ℕ → Bool) → World → Type 0
RemainsUnpassed c lost w = (is_frozen_whole w.words ≡ 1) ⊎ ((y : ℕ) × (y < c.tasks) × (lost y ≡ true) × LeavesBehind w y)

-- Beside lost tasks: each operation has to wait, no freeze at a sum, and what keeps them is no idle task.
abbrev pub NoFreezeSums : Config → (ℕ → Bool) → World → Type 0
NoFreezeSums c lost w =
    AllWait c lost w × ((i : ℕ) → FreezeSums c lost w i → ⊥) ×
    ((t : ℕ) → t < c.tasks → lost t ≡ false → IsUnderWay w t → RemainsUnpassed c lost w)

abbrev pub SettlesImpatiently : Config → (ℕ → Bool) → ℕ → World → Type 0
SettlesImpatiently c lost n w =
    (rounds : List (List Entry)) → AreRounds c lost w rounds → RoundsAnswerSo IsImpatient c w rounds → n ≤ length rounds →
    NoFreezeSums c lost (run_all c w rounds)
