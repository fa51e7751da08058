-- What a verdict says of a history.
use Rattle.std.specs.Prelude.{List, codes, decimal, length, slice_index_or, ℕ, ◌++◌, ◌+◌, ◌<◌, ◌≡◌}
use Rattle.{exploration.specs.Tables.AreTooMany, gate_core.specs.Memory.{Memory, Represents}, gate_world.specs.Worlds.World, races.specs.Normal.normal}
use Rattle.histories.specs.{Eager.next_eager, Executions.{HasMost, IsAdmitted, beginning}, Places.alike, declared.markers.Marker.Marker}
use Rattle.schedule_lines.specs.{Printed.Prints, declared.output.Output.Output}
use Rattle.history_files.specs.Files.{IsHistoryIn}

-- On this core some execution has all markers, whatever state the core shows.
abbrev pub IsPossible : Memory → List Marker → Type 0
IsPossible core markers = (w : World) → Represents core w → IsAdmitted core.config markers w

-- Some execution has the first so many, and none of fewer than 2^62 moves has the next one too.
pub record IsImpossible (core : Memory) (markers : List Marker) (passed : ℕ) : Type 0 where
  pub some : passed < length markers
  pub most : (w : World) → Represents core w → HasMost core.config markers w passed

-- more states than the limit come up where executions on this core are searched for these markers
abbrev pub HasTooMany : Memory → List Marker → ℕ → Type 0
HasTooMany core markers limit =
    AreTooMany (next_eager core.config.tasks markers) (core.config.tasks + 1) alike (beginning core.config (normal core)) limit

-- the history in a text is possible
pub record HasPossible (bytes : List ℕ) : Type 0 where
  pub core : Memory
  pub markers : List Marker
  pub lines : List ℕ
  pub history : IsHistoryIn bytes core markers lines
  pub possible : IsPossible core markers

-- The history in a text is possible up to the line of this number, and with it no execution has it.
pub record IsImpossibleAt (bytes : List ℕ) (number : ℕ) : Type 0 where
  pub core : Memory
  pub markers : List Marker
  pub lines : List ℕ
  pub history : IsHistoryIn bytes core markers lines
  pub passed : ℕ
  pub impossible : IsImpossible core markers passed
  pub at : number ≡ slice_index_or lines passed 0

-- the history in a text has too many states
pub record IsTooLarge (bytes : List ℕ) (limit : ℕ) : Type 0 where
  pub core : Memory
  pub markers : List Marker
  pub lines : List ℕ
  pub history : IsHistoryIn bytes core markers lines
  pub many : HasTooMany core markers limit

-- The verdict on the history in a text is printed: `possible`; or `impossible at`, and the number of its first line that can't be.
pub data TellsVerdict (bytes : List ℕ) (old new : Output) : Type 0 where
  Possible : HasPossible bytes → Prints old new (codes "possible\n") → TellsVerdict bytes old new
  Impossible : (number : ℕ) → IsImpossibleAt bytes number → Prints old new (codes "impossible at " ++ decimal number ++ codes "\n") →
      TellsVerdict bytes old new
