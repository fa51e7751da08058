-- The lines of a text.
use Rattle.std.specs.Prelude.{◌≡◌, ℕ, zero, suc, ◌+◌, ◌-◌, List, [], ◌∷◌, length, take, drop, Option, Some, None, Result, Ok, true}
use Rattle.race_files.specs.{Calls.{calls_of, is_race, no_calls}, declared.{faults.RaceFault.{RaceFault}, lines.Lines.{Lines}}}
use Rattle.races.specs.declared.calls.Call.{Call}
use Rattle.schedule_lines.specs.{Lines.{front_of}, declared.faults.Fault.{Fault, TheVariants.{TooManyLines, LineTooLong, CutOff}}}
use Rattle.schedule_lines.specs.declared.lines.Front.TheVariants.{Line as WholeLine, TooLong, Part}

-- the lines that follow one another, and the fault behind the last of them, if they don't end there
pub record Left : Type 0 where
  pub lines : List (List ℕ)
  pub fault : Option Fault

-- no line follows, but a fault, or the end
abbrev pub none_left : Option Fault → Left
none_left fault = record { lines = []; fault = fault }

-- bytes in which no line ends
abbrev pub part_left : Fault → List ℕ → Left
part_left fault [] = none_left None
part_left fault (byte ∷ rest) = none_left (Some fault)

-- a line before others
abbrev pub line_before : List ℕ → Left → Left
line_before line left = record { lines = line ∷ left.lines; fault = left.fault }

-- without the first line
abbrev pub behind : Left → Left
behind left = record { lines = drop 1 left.lines; fault = left.fault }

-- the lines of these bytes, where so many may follow
unfoldable pub lines_in : ℕ → List ℕ → Left
lines_in zero bytes = part_left TooManyLines bytes
lines_in (suc more) bytes =
    elim (front_of bytes) [
      | WholeLine n ↦ line_before (take n bytes) (lines_in more (drop (n + 1) bytes))
      | TooLong ↦ none_left (Some LineTooLong)
      | Part ↦ part_left CutOff bytes
    ]

-- those that are left
abbrev pub left_in : Lines → Left
left_in lines = lines_in (1048576 - lines.done) lines.rest.now

-- how many lines there are, with those that were taken
abbrev pub line_count : Lines → ℕ
line_count lines = lines.done + length (left_in lines).lines

-- without so many lines
unfoldable pub after_lines : ℕ → Left → Left
after_lines zero left = left
after_lines (suc n) left = behind (after_lines n left)

-- these lines are what is left after some of those
abbrev pub AreLeftOf : Left → Left → Type 0
AreLeftOf all left = (n : ℕ) × (left ≡ after_lines n all)

-- and the first of them is `race`
pub record BeginRace (all left : Left) : Type 0 where
  pub after : AreLeftOf all left
  pub line : List ℕ
  pub first : left.lines ≡ line ∷ (behind left).lines
  pub race : is_race line ≡ Ok true

-- what all lines left behind `race` call, where there are so many tasks
abbrev pub calls_left : ℕ → Left → Result (List (List (Option Call))) RaceFault
calls_left tasks left = calls_of tasks left.fault left.lines (no_calls tasks)
