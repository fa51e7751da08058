-- What runs of a level say.
use Rattle.std.specs.Prelude.{◌≡◌, ℕ, suc, ◌+◌, ◌<◌, ◌≤◌, ◌⊎◌, true, Some}
use Rattle.percpu_rwsem.specs.{Graces.started, SyncWords.is_queued, declared.sync_word.GpState.TheVariants.{Idle, Enter, Passed, Exit}}
use Rattle.freeze_laws.specs.levels.{Changes.state_found, Events.{SyncLevel, SyncLevelHolds, Calls, SyncStep, SyncRun}}
use Rattle.freeze_laws.specs.levels.Roles.{SyncRole, Out, Fast, Waiting, Past, Claimed, Ready, fast, entering, entered, closed, claimed}

-- nobody is on the fast path
abbrev pub NoneFast : ℕ → SyncLevel → Type 0
NoneFast tasks l = (u : ℕ) → u < tasks → fast (l.at u) ≡ 0

-- Where a writer's grace period that began in GP_ENTER has ended, nobody is on the fast path, and nobody is until the state has been
-- GP_IDLE again.
abbrev pub StaysSlow : Type 0
StaysSlow = (tasks n : ℕ) (m : ℕ → SyncLevel) → SyncRun tasks n m → (i j t : ℕ) → t < tasks → i ≤ j → j ≤ n → (m i).at t ≡ Past →
    ((k : ℕ) → i ≤ k → k < j → state_found (m k).sync ≡ Some Idle → ⊥) → NoneFast tasks (m j)

-- A state becomes GP_IDLE only by the transition of a callback that has claimed it and is past its grace period, from GP_EXIT.
abbrev pub OnlyCallbacksIdle : Type 0
OnlyCallbacksIdle = (tasks : ℕ) (l l' : SyncLevel) → SyncLevelHolds tasks l → (s : SyncStep tasks l l') →
    (state_found l.sync ≡ Some Idle → ⊥) → state_found l'.sync ≡ Some Idle →
    (s.kind ≡ Calls) × (l.at s.task ≡ Ready) × (state_found l.sync ≡ Some Exit)

-- between moments a and i, task u is at some moment in no section
abbrev pub OutsideSince : (ℕ → SyncLevel) → ℕ → ℕ → ℕ → Type 0
OutsideSince m a i u = (k : ℕ) × (a ≤ k) × (k ≤ i) × ((m k).inside u ≡ 0)

-- Before moment i there is a moment a at which the task's role was this one, since then it is all the time of a kind, and each
-- section that was under way at a has ended.
abbrev pub WholeGrace : ℕ → (ℕ → SyncLevel) → ℕ → ℕ → SyncRole → (SyncRole → ℕ) → Type 0
WholeGrace tasks m t i start kind =
    (a : ℕ) × (a ≤ i) × ((m a).at t ≡ start) × ((k : ℕ) → a ≤ k → k ≤ i → kind ((m k).at t) ≡ 1) ×
    ((u : ℕ) → u < tasks → OutsideSince m a i u)

-- In a run in which everybody begins out, each writer past its grace period had a whole one since its enter, and each callback that
-- is to make its transition since its claim.
abbrev pub GracesAreWhole : Type 0
GracesAreWhole = (tasks n : ℕ) (m : ℕ → SyncLevel) → SyncRun tasks n m → ((t : ℕ) → t < tasks → (m 0).at t ≡ Out) → (i t : ℕ) → i ≤ n →
    t < tasks →
    ((m i).at t ≡ Past → WholeGrace tasks m t i (Waiting (started tasks)) entering) ×
    ((m i).at t ≡ Ready → WholeGrace tasks m t i (Claimed (started tasks)) claimed)

-- In such a run the state becomes GP_IDLE only by a callback, from GP_EXIT, with a whole grace period since its claim.
abbrev pub IdleIsEarned : Type 0
IdleIsEarned = (tasks n : ℕ) (m : ℕ → SyncLevel) → (run : SyncRun tasks n m) → ((t : ℕ) → t < tasks → (m 0).at t ≡ Out) → (i : ℕ) →
    (lt : i < n) →
    (state_found (m i).sync ≡ Some Idle → ⊥) → state_found (m (suc i)).sync ≡ Some Idle →
    ((run.steps i lt).kind ≡ Calls) × (state_found (m i).sync ≡ Some Exit) × WholeGrace tasks m (run.steps i lt).task i
    (Claimed (started tasks)) claimed

-- a level as it begins: all words are 0, and everybody is out
abbrev pub opening : SyncLevel
opening = record { sync = 0; block = 0; full = 0; section = λ t. 0; inside = λ t. 0; at = λ t. Out }

-- Whoever is on the fast path finds GP_IDLE or GP_ENTER, the block clear, and the level not frozen; so its grant is allowed.
abbrev pub FastFindsOpen : Type 0
FastFindsOpen = (tasks : ℕ) (l : SyncLevel) → SyncLevelHolds tasks l → (t : ℕ) → t < tasks → l.at t ≡ Fast →
    ((state_found l.sync ≡ Some Idle) ⊎ (state_found l.sync ≡ Some Enter)) × (l.block ≡ 0) × (l.full ≡ 0)

-- A writer that has entered isn't joined by another, nor is the level frozen then, and a claimed callback isn't joined by another.
abbrev pub EntersAlone : Type 0
EntersAlone = (tasks : ℕ) (l : SyncLevel) → SyncLevelHolds tasks l → (t u : ℕ) → t < tasks → u < tasks → (u ≡ t → ⊥) →
    (entered (l.at t) + entered (l.at u) + l.full ≤ 1) × (claimed (l.at t) + claimed (l.at u) ≤ 1)

-- A writer that has entered and is past its grace period finds a count of 1, a level that isn't frozen, the block set just
-- where it has set it, GP_PASSED, GP_EXIT or GP_REPLAY, and nobody on the fast path.
abbrev pub WritersFind : Type 0
WritersFind = (tasks : ℕ) (l : SyncLevel) → (right : SyncLevelHolds tasks l) → (t : ℕ) → t < tasks → entered (l.at t) ≡ 1 →
    entering (l.at t) ≡ 0 →
    (right.level.word.count ≡ 1) × (l.full ≡ 0) × (l.block ≡ closed (l.at t)) ×
    ((state_found l.sync ≡ Some Passed) ⊎ (is_queued right.level.word.state ≡ true)) × NoneFast tasks l

-- Each step at a level keeps what holds there.
abbrev pub EventsKeep : Type 0
EventsKeep = (tasks : ℕ) (l l' : SyncLevel) → SyncLevelHolds tasks l → SyncStep tasks l l' → SyncLevelHolds tasks l'
