-- The history of a text.
use Rattle.std.specs.Prelude.{◌≡◌, ℕ, zero, suc, ◌+◌, if◌then◌else◌, List, ◌++◌, length, take, drop, codes, bytes_eq, Option, Some, None, Ok}
use Rattle.gate_core.specs.Memory.{Memory}
use Rattle.histories.specs.declared.markers.Marker.{Marker}
use Rattle.race_files.specs.{FirstFaults.{IsFaultTold as IsSetUpFault}, Left.{Left, lines_in}, Races.{IsRaceIn}}
use Rattle.races.specs.declared.calls.Call.{Call}
use Rattle.schedule_lines.specs.{Lines.{front_of}, declared.{bytes.replay_faults.ReplayFault.{ReplayFault}, lines.Front.TheVariants.{Line, TooLong, Part}}}
use Rattle.history_files.specs.{Faults.{FailsInRecord, IsFaultAt, IsMemory}, Records.{Reading, reading_left}, declared.{faults.HistoryFault.{HistoryFault}, files.HistoryPlace.{HistoryPlace}}}

-- where the first line `history` stands among so many lines from a place on, which has this number of lines before it: how many bytes are before
-- the line, how many with it, and its number
unfoldable pub history_from : ℕ → ℕ → ℕ → List ℕ → Option HistoryPlace
history_from zero done at bytes = None
history_from (suc more) done at bytes =
    elim (front_of (drop at bytes)) [
      | Line n ↦ (
          if bytes_eq (take n (drop at bytes)) (codes "history") then Some (record { before = at; behind = at + n + 1; number = done + 1 }) else
          history_from more (done + 1) (at + n + 1) bytes)
      | TooLong ↦ None
      | Part ↦ None
    ]

-- The history in a text: the lines before its first line `history`, with `race` behind them, are a race that begins on this core; and all lines behind
-- it record these markers, each at the line of this number.
pub record IsHistoryIn (bytes : List ℕ) (core : Memory) (markers : List Marker) (lines : List ℕ) : Type 0 where
  pub place : HistoryPlace
  pub found : history_from 1048576 0 0 bytes ≡ Some place
  pub calls : List (List (Option Call))
  pub set_up : IsRaceIn (lines_in 1048576 (take place.before bytes ++ codes "race\n")) core calls
  pub reading : Reading
  pub recorded : reading_left core.config.tasks (place.number + 1) (lines_in 1048576 (drop place.behind bytes)) ≡ Ok reading
  pub read : reading.markers ≡ markers
  pub numbered : reading.lines ≡ lines

-- The first line behind the line `history` that has a fault, or what stands behind the last one, is told: the lines before `history` are as above, and
-- the number of the line is one more than that of the line `history` and of those between them.
pub record IsFaultBehind (bytes : List ℕ) (told : ReplayFault) : Type 0 where
  pub place : HistoryPlace
  pub found : history_from 1048576 0 0 bytes ≡ Some place
  pub core : Memory
  pub calls : List (List (Option Call))
  pub set_up : IsRaceIn (lines_in 1048576 (take place.before bytes ++ codes "race\n")) core calls
  pub left : Left
  pub fault : HistoryFault
  pub fails : FailsInRecord core.config.tasks (place.number + 1) (lines_in 1048576 (drop place.behind bytes)) left fault
  pub done : ℕ
  pub before : done + length left.lines ≡ length (lines_in 1048576 (drop place.behind bytes)).lines
  pub at : IsFaultAt (place.number + done + 1) fault told

-- A fault of a text is told: of the lines before its line `history`, read as those before `race`, or of those behind it, or that it has no such line;
-- or that memory was refused.
pub data IsFaultTold (bytes : List ℕ) (told : ReplayFault) : Type 0 where
  BeforeHistory : (place : HistoryPlace) → history_from 1048576 0 0 bytes ≡ Some place →
      IsSetUpFault (lines_in 1048576 (take place.before bytes ++ codes "race\n")) told → IsFaultTold bytes told
  BehindHistory : IsFaultBehind bytes told → IsFaultTold bytes told
  NoHistory : history_from 1048576 0 0 bytes ≡ None → IsFaultTold bytes told
  NoMemory : (number : ℕ) (fault : HistoryFault) → IsMemory fault → IsFaultAt number fault told → IsFaultTold bytes told
