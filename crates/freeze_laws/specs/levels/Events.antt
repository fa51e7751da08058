-- One level from step to step, and runs of it.
use Rattle.std.specs.Prelude.{Some, suc, ℕ, ◌+◌, ◌-◌, ◌<◌, ◌≡◌}
use Rattle.{cpu_words.specs.Touches.wrap_add, finite_sums.specs.Sums.{total, update}}
use Rattle.percpu_rwsem.specs.{Graces.{looked, started}, SyncWords.{on_callback, on_claim, on_enter, on_exit}, declared.grace.Grace.Grace}
use Rattle.percpu_rwsem.specs.declared.sync_word.GpState.TheVariants.{Idle}
use Rattle.freeze_laws.specs.levels.{Changes.{claims, role_found, state_found, transition, waits}, Roles.{Claimed, Closed, Entered, Fast, Out, Past}}
use Rattle.freeze_laws.specs.levels.Roles.{Ready, SectionsHold, SyncNumberHolds, SyncRole, Waiting, entered, fast}

-- One level at one moment: its sync word and block, 1 while it is frozen, the section word of each task, 1 for each task inside a section,
-- and the roles.
pub record SyncLevel : Type 0 where
  pub sync : ℕ
  pub block : ℕ
  pub full : ℕ
  pub section : ℕ → ℕ
  pub inside : ℕ → ℕ
  pub at : ℕ → SyncRole

-- what holds at it, and of the sections
pub record SyncLevelHolds (tasks : ℕ) (l : SyncLevel) : Type 0 where
  pub level : SyncNumberHolds tasks l.sync l.block l.full l.section l.at
  pub sections : SectionsHold tasks l.section l.inside l.at

-- the kinds of steps that change something of a level
pub data SyncEvent : Type 0 where
  -- an addition to its own section word, by a task that is not on the fast path
  TurnsSection : SyncEvent
  -- a reader's load of the word, which finds GP_IDLE
  FindsIdle : SyncEvent
  -- a reader's addition on the fast path
  AddsFast : SyncEvent
  -- a writer's transitions, loads, swap and store
  Enters : SyncEvent
  Looks : SyncEvent
  Passes : SyncEvent
  Swaps : SyncEvent
  Opens : SyncEvent
  Exits : SyncEvent
  -- a callback's
  Claims : SyncEvent
  LooksClaimed : SyncEvent
  Calls : SyncEvent
  -- the end of a freeze, which leaves the level closed, and the thaw that is to open it
  Freezes : SyncEvent
  Thaws : SyncEvent
  -- a step that finds something else, or is about other words
  Stays : SyncEvent

-- The step of this kind by task t: what has to hold before it, and what is there after it. Besides the task's own role this asks
-- the layer above for three things: a task that finds GP_IDLE is inside a section, nobody has entered where a writer enters, and a
-- thaw finds the level frozen.
abbrev pub Happens : ℕ → ℕ → SyncLevel → SyncLevel → SyncEvent → Type 0
Happens tasks t l l' TurnsSection =
    (fast (l.at t) ≡ 0) ×
    (l' ≡ record l { section = update l.section t (wrap_add (l.section t) 1); inside = update l.inside t (1 - l.inside t) })
Happens tasks t l l' FindsIdle =
    (l.at t ≡ Out) × (l.inside t ≡ 1) × (state_found l.sync ≡ Some Idle) × (l' ≡ record l { at = update l.at t Fast })
Happens tasks t l l' AddsFast = (l.at t ≡ Fast) × (l' ≡ record l { at = update l.at t Out })
Happens tasks t l l' Enters =
    (l.at t ≡ Out) × (total tasks (λ x. entered (l.at x)) + l.full ≡ 0) × (transition on_enter l.sync ≡ Some l'.sync) ×
    (l' ≡ record l { sync = l'.sync; at = update l.at t (role_found tasks (state_found l.sync)) })
Happens tasks t l l' Looks =
    (g : Grace) × (l.at t ≡ Waiting g) × (l' ≡ record l { at = update l.at t (waits (looked g (l.section g.task))) })
Happens tasks t l l' Passes =
    (l.at t ≡ Past) × (transition on_callback l.sync ≡ Some l'.sync) × (l' ≡ record l { sync = l'.sync; at = update l.at t Entered })
Happens tasks t l l' Swaps = (l.at t ≡ Entered) × (l' ≡ record l { block = 1; at = update l.at t Closed })
Happens tasks t l l' Opens = (l.at t ≡ Closed) × (l' ≡ record l { block = 0; at = update l.at t Entered })
Happens tasks t l l' Exits =
    (l.at t ≡ Entered) × (transition on_exit l.sync ≡ Some l'.sync) × (l' ≡ record l { sync = l'.sync; at = update l.at t Out })
Happens tasks t l l' Claims =
    (l.at t ≡ Out) × (transition on_claim l.sync ≡ Some l'.sync) ×
    (l' ≡ record l { sync = l'.sync; at = update l.at t (Claimed (started tasks)) })
Happens tasks t l l' LooksClaimed =
    (g : Grace) × (l.at t ≡ Claimed g) × (l' ≡ record l { at = update l.at t (claims (looked g (l.section g.task))) })
Happens tasks t l l' Calls =
    (l.at t ≡ Ready) × (transition on_callback l.sync ≡ Some l'.sync) × (l' ≡ record l { sync = l'.sync; at = update l.at t Out })
Happens tasks t l l' Freezes = (l.at t ≡ Closed) × (l' ≡ record l { full = 1; at = update l.at t Out })
Happens tasks t l l' Thaws = (l.at t ≡ Out) × (l.full ≡ 1) × (l' ≡ record l { full = 0; at = update l.at t Closed })
Happens tasks t l l' Stays = l' ≡ l

-- some step of some task
pub record SyncStep (tasks : ℕ) (l l' : SyncLevel) : Type 0 where
  pub task : ℕ
  pub there : task < tasks
  pub kind : SyncEvent
  pub happens : Happens tasks task l l' kind

-- a run: its moments up to number n, from one of which all holds
pub record SyncRun (tasks n : ℕ) (at_moment : ℕ → SyncLevel) : Type 0 where
  pub right : SyncLevelHolds tasks (at_moment 0)
  pub steps : (i : ℕ) → i < n → SyncStep tasks (at_moment i) (at_moment (suc i))
