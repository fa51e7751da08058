-- The race of a text.
use Rattle.std.specs.Prelude.{List, None, Ok, Option, Some, ℕ, ◌<◌, ◌≡◌}
use Rattle.{gate_core.specs.{Drivers.CoreShows, Memory.Memory}, races.specs.{Counts.AreRecent, declared.calls.Call.Call}}
use Rattle.transcripts.specs.Transcript.{ReplayState}
use Rattle.race_files.specs.{Left.{BeginRace, Left, behind, calls_left}, SettingUp.SetsUp}

-- no task has an operation under way
abbrev pub AllAreIdle : ReplayState → Type 0
AllAreIdle play = (t : ℕ) → t < play.config.tasks → (play.world.views t).phase ≡ None

-- The race in a text: the lines before its first line `race` are each understood and have no fault, and make of the opening a play in which all
-- tasks are idle, whose state the core shows on which the race begins; and all lines behind it call this.
pub record IsRaceIn (all : Left) (core : Memory) (calls : List (List (Option Call))) : Type 0 where
  pub left : Left
  pub begin : BeginRace all left
  pub play : ReplayState
  pub set_up : SetsUp None (Some play) all left
  pub idle : AllAreIdle play
  pub shows : CoreShows core play.config play.world
  pub called : calls_left core.config.tasks (behind left) ≡ Ok calls

-- no task of a core is in a grace period that has waited through 2^62 sections or more
abbrev pub IsRecent : Memory → Type 0
IsRecent core = AreRecent core.words core.seats
