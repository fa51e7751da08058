-- The kinds of a race's faults.
use Rattle.std.specs.Prelude.{◌≡◌, ℕ, ◌+◌, ◌⊎◌, Result, Err}
use Rattle.access_model.specs.declared.errors.GateError.TheVariants.{NoMemory}
use Rattle.race_files.specs.declared.faults.RaceFault.{RaceFault}
use Rattle.race_files.specs.declared.faults.RaceFault.TheVariants.{Schedule, RaceExpected, RaceTwice, UnderWay, CallExpected, TooManyCalls, HookTwice, BranchExpected, NoCallBefore, NameExpected, NoSuchCall}
use Rattle.schedule_lines.specs.declared.{bytes.replay_faults.ReplayFault.{ReplayFault}, faults.Fault.TheVariants.{Refused}}
use Rattle.schedule_lines.specs.declared.faults.FaultKind.{FaultKind}
use Rattle.schedule_lines.specs.declared.faults.FaultKind.TheVariants.{Schedule as ScheduleKind, RaceExpected as RaceExpectedKind, RaceTwice as RaceTwiceKind, UnderWay as UnderWayKind, CallExpected as CallExpectedKind, TooManyCalls as TooManyCallsKind, HookTwice as HookTwiceKind, BranchExpected as BranchExpectedKind, NoCallBefore as NoCallBeforeKind, NameExpected as NameExpectedKind, NoSuchCall as NoSuchCallKind}

-- the kind that is told of a fault
abbrev pub kind_of : RaceFault → FaultKind
kind_of (Schedule fault) = ScheduleKind fault
kind_of RaceExpected = RaceExpectedKind
kind_of RaceTwice = RaceTwiceKind
kind_of UnderWay = UnderWayKind
kind_of CallExpected = CallExpectedKind
kind_of TooManyCalls = TooManyCallsKind
kind_of HookTwice = HookTwiceKind
kind_of BranchExpected = BranchExpectedKind
kind_of NoCallBefore = NoCallBeforeKind
kind_of NameExpected = NameExpectedKind
kind_of NoSuchCall = NoSuchCallKind

-- the answer tells this fault, at the line after so many
pub record IsFaultAfter (done : ℕ) (fault : RaceFault) (answer : ReplayFault) : Type 0 where
  pub line : answer.line ≡ done + 1
  pub kind : answer.kind ≡ kind_of fault

-- memory was refused, or this is told to be the fault
abbrev pub IsToldOrMemory : {A : Type 0} → Result A RaceFault → RaceFault → Type 0
IsToldOrMemory told fault = (fault ≡ Schedule (Refused NoMemory)) ⊎ (told ≡ Err fault)
