use Rattle.std.proofs.Common.{None, Some, inl, inr, ◌⊎◌}
use Rattle.{exploration.proofs.Lists.err_from, transcripts.specs.Transcript.ReplayState}
use Rattle.race_files.{proofs.FirstFaults.fault_weaker, specs.FirstFaults.{FailsBeforeRace, FailsFromRace, IsFirstFault}}
use Rattle.race_files.specs.{FirstFaults.{IsFirstFault.{BeforeRace, FromRace}, IsMemory}, Left.{BeginRace, Left, left_in}, SettingUp.SetsUp}
use Rattle.race_files.specs.declared.faults.RaceFault.{RaceFault}
use Rattle.race_files.proofs.files.read_lines.Goals as goal

before_race : (all left : Left) (fault : RaceFault) → FailsBeforeRace None all left fault ⊎ IsMemory fault → IsFirstFault all left fault ⊎ IsMemory fault
before_race all left fault (inl fails) = inl (BeforeRace fails)
before_race all left fault (inr memory) = inr memory

from_race : (all race left : Left) (play : ReplayState) → BeginRace all race → SetsUp None (Some play) all race → (fault : RaceFault) →
    FailsFromRace play race left fault ⊎ IsMemory fault → IsFirstFault all left fault ⊎ IsMemory fault
from_race all race left play begin set_up fault (inl fails) = inl (FromRace race play begin set_up fails)
from_race all race left play begin set_up fault (inr memory) = inr memory

pub returns-in_err-session-clause-fault : goal.returns-in_err-session-clause-fault
returns-in_err-session-clause-fault c =
    err_from _ c.in_err-session.field-0.0 _ c.from_residual.ensures.1
    (before_race (left_in c.args.lines.now) (left_in c.set_up.new.lines) c.in_err-session.field-0.0 c.in_err-session.ensures.fault)

pub returns-clause-fault : goal.returns-clause-fault
returns-clause-fault c =
    let made = c.in_ok-session.ensures.made in
    fault_weaker c.read.result _ _ (from_race (left_in c.args.lines.now) (left_in c.set_up.new.lines) (left_in c.read.new.lines) made.0 c.in_ok-session.ensures.begin made.1)
    (c.read.ensures.fault made.0 made.2)
