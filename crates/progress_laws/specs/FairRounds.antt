-- Rounds: in each of them every task under way that isn't lost takes a step, in any order and any number, and nothing new begins.
use Rattle.std.specs.Prelude.{◌≡◌, ℕ, ◌<◌, ◌≤◌, ◌⊎◌, Bool, true, false, Option, None, Some, List, [], ◌∷◌, ◌++◌, length}
use Rattle.cpu_words.specs.{Hooks.HookAnswer, Words.Words}
use Rattle.gate_world.specs.{Worlds.{World, happens, run, task_of}, declared.{config.Config.Config, entries.Entry.{Entry, TheVariants.{Begins, Steps}}, work.Phase.Phase}}
use Rattle.gate_schedules.specs.operations.Progress.{AllAreBlocked, IsUnderWay}
use Rattle.progress_laws.specs.{Answers.{AllAnswerSo, IsPatient, RoundsAnswerSo}, LostTasks.AllWait, Waiting.is_outside}

-- what a task is at is no start that stands outside a closed level
abbrev pub IsAwake : World → ℕ → Type 0
IsAwake w t = (phase : Phase) → (w.views t).phase ≡ Some phase → is_outside w.words phase ≡ false

-- nothing begins, no lost task steps, and a start that waits outside a closed level sleeps until it is open
abbrev pub MayStep : (ℕ → Bool) → World → Entry → Type 0
MayStep lost w (Begins t op) = ⊥
MayStep lost w (Steps t hook) = (lost t ≡ false) × IsAwake w t

abbrev pub MayAllStep : Config → (ℕ → Bool) → World → List Entry → Type 0
MayAllStep c lost w [] = Unit {0}
MayAllStep c lost w (e ∷ es) = MayStep lost w e × MayAllStep c lost (happens c w e) es

-- nothing is under way of a task, or it sleeps
abbrev pub rests_at : Words → Option Phase → Bool
rests_at w None = true
rests_at w (Some phase) = is_outside w phase

-- a task takes a step among these transitions, or rests at some point of them
abbrev pub IsServed : Config → ℕ → World → List Entry → Type 0
IsServed c t w [] = rests_at w.words (w.views t).phase ≡ true
IsServed c t w (e ∷ es) = (rests_at w.words (w.views t).phase ≡ true) ⊎ ((task_of e ≡ t) ⊎ IsServed c t (happens c w e) es)

-- each task that isn't lost takes a step, or rests at some point
abbrev pub IsRound : Config → (ℕ → Bool) → World → List Entry → Type 0
IsRound c lost w es = MayAllStep c lost w es × ((t : ℕ) → t < c.tasks → lost t ≡ false → IsServed c t w es)

abbrev pub AreRounds : Config → (ℕ → Bool) → World → List (List Entry) → Type 0
AreRounds c lost w [] = Unit {0}
AreRounds c lost w (es ∷ rounds) = IsRound c lost w es × AreRounds c lost (run c w es) rounds

-- the state after these rounds
abbrev pub run_all : Config → World → List (List Entry) → World
run_all c w [] = w
run_all c w (es ∷ rounds) = run_all c (run c w es) rounds

-- After so many rounds, whoever schedules them, each operation under way of a task that isn't lost has to wait, if `keep_waiting` says to.
abbrev pub SettlesFairly : Config → (ℕ → Bool) → ℕ → World → Type 0
SettlesFairly c lost n w =
    (rounds : List (List Entry)) → AreRounds c lost w rounds → RoundsAnswerSo IsPatient c w rounds → n ≤ length rounds →
    AllWait c lost (run_all c w rounds)

-- Whatever it answers, so it was after the last of so many rounds, or after one of those before.
abbrev pub SettlesOnce : Config → (ℕ → Bool) → ℕ → World → Type 0
SettlesOnce c lost n w =
    (rounds : List (List Entry)) → AreRounds c lost w rounds → n ≤ length rounds →
    (first : List (List Entry)) × (rest : List (List Entry)) × (rounds ≡ first ++ rest) × AllWait c lost (run_all c w first)

-- And that stays: where all have to wait, no transitions of these kinds change a word or bring a reply, if `keep_waiting` says to wait on.
abbrev pub StaysSettled : Config → (ℕ → Bool) → World → Type 0
StaysSettled c lost w =
    AllWait c lost w → (es : List Entry) → MayAllStep c lost w es → AllAnswerSo IsPatient c w es →
    AllWait c lost (run c w es) × ((run c w es).words ≡ w.words) × ((t : ℕ) → t < c.tasks → IsUnderWay w t → IsUnderWay (run c w es) t)

-- no task is lost
abbrev pub nobody : ℕ → Bool
nobody t = false

-- With no task lost: after so many rounds each operation has its reply, or is blocked (`IsBlockedAt`), if `keep_waiting` says to wait on.
abbrev pub BlockedAfterRounds : Config → ℕ → World → Type 0
BlockedAfterRounds c n w =
    (rounds : List (List Entry)) → AreRounds c nobody w rounds → RoundsAnswerSo IsPatient c w rounds → n ≤ length rounds →
    AllAreBlocked c (run_all c w rounds)

-- There are so many rounds, from each state, whatever `keep_waiting` answers: the theorems above speak of some executions.
abbrev pub RoundsExist : Config → (ℕ → Bool) → World → Type 0
RoundsExist c lost w =
    (answer : HookAnswer) (n : ℕ) →
    (rounds : List (List Entry)) × AreRounds c lost w rounds × RoundsAnswerSo (λ t hook. hook ≡ answer) c w rounds × (length rounds ≡ n)
