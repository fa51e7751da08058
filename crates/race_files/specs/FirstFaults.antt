-- The first fault of a race's text.
use Rattle.std.specs.Prelude.{Bool, Err, List, None, Ok, Option, Result, Some, [], false, length, true, ℕ, ◌++◌, ◌+◌, ◌∷◌, ◌≡◌, ◌⊎◌}
use Rattle.access_model.specs.declared.errors.GateError.TheVariants.{NoMemory}
use Rattle.schedule_lines.specs.declared.{bytes.replay_faults.ReplayFault.ReplayFault, faults.Fault.{Fault, TheVariants.{ConfigExpected, Refused}}}
use Rattle.{schedule_text.specs.{Parsing.parsed, declared.commands.Line.Line}, transcripts.specs.Transcript.{ReplayState, line_effect}}
use Rattle.race_files.specs.{Calls.{TaskCalls, calls_after, calls_of, ended, is_race, no_calls}, Faults.IsFaultAfter, Left.{BeginRace, Left, behind}}
use Rattle.race_files.specs.{Races.AllAreIdle, SettingUp.SetsUp, declared.faults.RaceFault.RaceFault}
use Rattle.race_files.specs.declared.faults.RaceFault.TheVariants.{RaceExpected, Schedule, UnderWay}

-- the fault of a line that is read so, if it has one, where there is a play, or none yet
abbrev pub fault_of_line : Option ReplayState → Result Line Fault → Option Fault
fault_of_line play (Err fault) = Some fault
fault_of_line play (Ok line) = (line_effect play line).fault

-- the same by whether it is `race`, which ends the lines before the race
abbrev pub fault_unless_race : ReplayState → List ℕ → Result Bool Fault → Option Fault
fault_unless_race play text (Err fault) = Some fault
fault_unless_race play text (Ok true) = None
fault_unless_race play text (Ok false) = fault_of_line (Some play) (parsed text (Some play.config.tasks))

-- the fault of a line before the race
abbrev pub fault_at : Option ReplayState → List ℕ → Option Fault
fault_at None text = fault_of_line None (parsed text None)
fault_at (Some play) text = fault_unless_race play text (is_race text)

-- the fault where no line follows, and no `race` was there: that of what stands behind the last line, or what is expected there
abbrev pub fault_at_end : Option ReplayState → Option Fault → RaceFault
fault_at_end play (Some fault) = Schedule fault
fault_at_end None None = Schedule ConfigExpected
fault_at_end (Some play) None = RaceExpected

-- The lines before a race have this fault at the first of those that are left: the others are done, and this one has it, or none follows.
pub data FailsBeforeRace (from : Option ReplayState) (all left : Left) (fault : RaceFault) : Type 0 where
  AtLine : (play : Option ReplayState) (text : List ℕ) (of_line : Fault) → SetsUp from play all left →
      left.lines ≡ text ∷ (behind left).lines → fault_at play text ≡ Some of_line → fault ≡ Schedule of_line → FailsBeforeRace from all left fault
  AtEnd : (play : Option ReplayState) → SetsUp from play all left → left.lines ≡ [] → fault ≡ fault_at_end play left.fault →
      FailsBeforeRace from all left fault

-- The lines before a race have a fault, or no line `race` follows.
abbrev pub HasFaultBeforeRace : Left → Type 0
HasFaultBeforeRace all = (left : Left) × (fault : RaceFault) × FailsBeforeRace None all left fault

-- Of all lines behind `race` some come before those that are left, and what the tasks call in them is this, where there are so many tasks.
pub record AreCalled (tasks : ℕ) (all left : Left) (calls : List TaskCalls) : Type 0 where
  pub before : List (List ℕ)
  pub lines : all.lines ≡ before ++ left.lines
  pub end : left.fault ≡ all.fault
  pub called : calls_of tasks None before (no_calls tasks) ≡ Ok calls

-- the calls after the next line, or after the last one, or the fault there
abbrev pub calls_with_next : ℕ → Option Fault → List (List ℕ) → List TaskCalls → Result (List TaskCalls) RaceFault
calls_with_next tasks end [] calls = ended end calls
calls_with_next tasks end (line ∷ others) calls = calls_after tasks calls line

-- The lines behind `race` have this fault at the first of those that are left.
pub record FailsInCalls (tasks : ℕ) (all left : Left) (fault : RaceFault) : Type 0 where
  pub calls : List TaskCalls
  pub before : AreCalled tasks all left calls
  pub fails : calls_with_next tasks left.fault left.lines calls ≡ Err fault

-- The line `race` and those behind it have this fault at the first of those that are left, where there is this play: a task is not idle at the
-- line `race`, or a line behind it has the fault.
pub data FailsFromRace (play : ReplayState) (all left : Left) (fault : RaceFault) : Type 0 where
  NotIdle : (AllAreIdle play → ⊥) → left ≡ all → fault ≡ UnderWay → FailsFromRace play all left fault
  InCalls : AllAreIdle play → FailsInCalls play.config.tasks (behind all) left fault → FailsFromRace play all left fault

-- The first fault of a race's text, which stands at the first of the lines that are left.
pub data IsFirstFault (all left : Left) (fault : RaceFault) : Type 0 where
  BeforeRace : FailsBeforeRace None all left fault → IsFirstFault all left fault
  FromRace : (race : Left) (play : ReplayState) → BeginRace all race → SetsUp None (Some play) all race → FailsFromRace play race left fault →
      IsFirstFault all left fault

-- memory was refused
abbrev pub IsMemory : RaceFault → Type 0
IsMemory fault = fault ≡ Schedule (Refused NoMemory)

-- The first fault of a race's text is told, at its line, or that memory was refused. The number of the line is one more than that of the lines
-- before it.
pub record IsFaultTold (all : Left) (told : ReplayFault) : Type 0 where
  pub fault : RaceFault
  pub left : Left
  pub first : IsFirstFault all left fault ⊎ IsMemory fault
  pub done : ℕ
  pub before : done + length left.lines ≡ length all.lines
  pub at : IsFaultAfter done fault told
