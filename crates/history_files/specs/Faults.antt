-- The kinds of a history's faults, and where the first one stands.
use Rattle.std.specs.Prelude.{◌≡◌, ◌⊎◌, ℕ, ◌+◌, List, [], ◌∷◌, ◌++◌, length, Option, None, Result, Ok, Err}
use Rattle.access_model.specs.declared.errors.GateError.TheVariants.{NoMemory}
use Rattle.race_files.specs.{Faults.{kind_of as race_kind}, Left.{Left}, declared.faults.RaceFault.TheVariants.{Schedule}}
use Rattle.schedule_lines.specs.declared.{bytes.replay_faults.ReplayFault.{ReplayFault}, faults.Fault.{Fault, TheVariants.{Refused}}}
use Rattle.schedule_lines.specs.declared.faults.FaultKind.{FaultKind, TheVariants.{HistoryExpected as HistoryExpectedKind, NothingUnderWay as NothingUnderWayKind, BadAnswer as BadAnswerKind}}
use Rattle.history_files.specs.{Records.{Reading, ended, nothing_read, reading_after, reading_of}, declared.faults.HistoryFault.{HistoryFault, TheVariants.{Race, HistoryExpected, NothingUnderWay, BadAnswer}}}

-- the kind that is told of a fault
abbrev pub kind_of : HistoryFault → FaultKind
kind_of (Race fault) = race_kind fault
kind_of HistoryExpected = HistoryExpectedKind
kind_of NothingUnderWay = NothingUnderWayKind
kind_of BadAnswer = BadAnswerKind

-- the answer tells this fault, at the line of this number
pub record IsFaultAt (number : ℕ) (fault : HistoryFault) (answer : ReplayFault) : Type 0 where
  pub line : answer.line ≡ number
  pub kind : answer.kind ≡ kind_of fault

-- memory was refused
abbrev pub IsMemory : HistoryFault → Type 0
IsMemory fault = fault ≡ Race (Schedule (Refused NoMemory))

-- it was, or this is told to be the fault
abbrev pub IsToldOrMemory : {A : Type 0} → Result A HistoryFault → HistoryFault → Type 0
IsToldOrMemory told fault = IsMemory fault ⊎ (told ≡ Err fault)

-- Of all lines behind `history` some come before those that are left, and record this, where there are so many tasks and the first line has this number.
pub record AreRecorded (tasks number : ℕ) (all left : Left) (reading : Reading) : Type 0 where
  pub before : List (List ℕ)
  pub lines : all.lines ≡ before ++ left.lines
  pub end : left.fault ≡ all.fault
  pub recorded : reading_of tasks None number before (nothing_read tasks) ≡ Ok reading

-- what is read after the next line, or after the last one, or the fault there
abbrev pub reading_with_next : ℕ → Option Fault → ℕ → List (List ℕ) → Reading → Result Reading HistoryFault
reading_with_next tasks end number [] reading = ended end reading
reading_with_next tasks end number (line ∷ others) reading = reading_after tasks reading number line

-- The lines behind `history` have this fault at the first of those that are left.
pub record FailsInRecord (tasks number : ℕ) (all left : Left) (fault : HistoryFault) : Type 0 where
  pub reading : Reading
  pub before : AreRecorded tasks number all left reading
  pub fails : reading_with_next tasks left.fault (number + length before.before) left.lines reading ≡ Err fault
