-- What the program writes of a race.
use Rattle.std.specs.{Io.KnownBytes.{Appends, Keeps}, Prelude.{All, Bool, IfSome, List, Option, [], false, is_some, true, ℕ, ◌++◌, ◌≡◌}}
use Rattle.command_line.specs.declared.words.Outcomes.{Outcomes}
use Rattle.exit_status.specs.{Endings.IsInput, declared.ends.ProgramEnding.{ProgramEnding, TheVariants.{Listed, Refused}}}
use Rattle.{exploration.specs.declared.stops.Stop.TheVariants.TooMany, gate_core.specs.Memory.Memory}
use Rattle.outcome_forms.specs.{Told.{TellsAll, TellsSome, margin_of, mark_of}, declared.details.{Details.Details, Schedules.Schedules}}
use Rattle.outcome_forms.specs.declared.details.Schedules.TheVariants.{Columns, Lines, Untold}
use Rattle.program_checks.specs.{Claims.{HasBadClaim, TellsClaims, race_lines}, declared.claims.Judged.{Judged, TheVariants.Hold}}
use Rattle.race_files.specs.{Calls.is_claim, FirstFaults.IsFaultTold, Left.lines_in, Races.IsRaceIn}
use Rattle.race_outcomes.specs.{Outcomes.HaveOwnTexts, declared.listing.Method.{Method, TheVariants.{Full, Reduced}}}
use Rattle.{races.specs.declared.{calls.Call.Call, courses.CallAnswers.CallAnswers}, replay_forms.specs.Styles.style_of}
use Rattle.schedule_lines.specs.{bytes.Writing.AppendsPart, declared.faults.Fault.TheVariants.WriteFailed}
use Rattle.mntgate.specs.declared.unlisted.Unlisted.{TheVariants.{BadClaim, Faulty, Stopped, Unsaved, Unwritten}, Unlisted}
use Rattle.command_line.specs.declared.words.ScheduleForm as words
use Rattle.command_line.specs.declared.words.ScheduleForm.TheVariants as words_as

-- in which form schedules are printed
abbrev pub schedules_as : words.ScheduleForm → Schedules
schedules_as words_as.Untold = Untold
schedules_as words_as.Lines = Lines
schedules_as words_as.Columns = Columns

-- what is printed under the line of an outcome
abbrev pub details_of : Outcomes → Details
details_of asked = record {
  schedules = schedules_as asked.schedules;
  model = asked.model;
  style = style_of asked.style.kernel_names asked.style.raw;
}

-- by which method states are visited: with a reduction, or in full
abbrev pub method_of : Bool → Method
method_of true = Reduced
method_of false = Full

-- All outcomes of a race are printed, or those so far.
abbrev pub TellsAs : Bool → Memory → List (List (Option Call)) → Outcomes → List ℕ → List ℕ → Type 0
TellsAs true core calls asked before after = TellsAll (method_of asked.reduction) core calls (details_of asked) before after
TellsAs false core calls asked before after =
    TellsSome (method_of asked.reduction) core core.config.tasks calls asked.limit (details_of asked) before after

-- which they are
abbrev pub outcomes_told : (whole : Bool) (core : Memory) (calls : List (List (Option Call))) (asked : Outcomes) (before after : List ℕ) →
    TellsAs whole core calls asked before after → List (List CallAnswers)
outcomes_told true core calls asked before after tells = tells.outcomes
outcomes_told false core calls asked before after tells = tells.outcomes

-- The outcomes of the race that these bytes call are printed behind what was there, as was asked for: all of them, or those so far; and behind them
-- the verdicts on what they claim. The core on which the race begins is the one that the lines before the first line `race` make of the opening.
pub record TellsRace (asked : Outcomes) (whole : Bool) (judged : Judged) (bytes before after : List ℕ) : Type 0 where
  pub core : Memory
  pub calls : List (List (Option Call))
  pub race : IsRaceIn (lines_in 1048576 bytes) core calls
  pub outcomes : List ℕ
  pub tells : TellsAs whole core calls asked before outcomes
  -- No outcome's line stands twice, and no two outcomes have the same line.
  pub apart : HaveOwnTexts core.config.tasks calls (outcomes_told whole core calls asked before outcomes tells)
  pub verdicts : List ℕ
  pub judging : TellsClaims core calls (mark_of (schedules_as asked.schedules)) (margin_of (schedules_as asked.schedules)) asked.limit
      (race_lines bytes) judged verdicts
  pub claims : All (λ line. is_claim line ≡ false) (lines_in 1048576 bytes).lines → (verdicts ≡ []) × (judged ≡ Hold)
  pub written : after ≡ outcomes ++ verdicts

-- how it ends where all was written that was printed: as `Listed` if these are all outcomes, and all claims hold
abbrev pub list_ending : Bool → Judged → ProgramEnding
list_ending true Hold = Listed
list_ending _ _ = Refused

-- The outcomes of the race in these bytes are written, and the verdicts behind them; and it ends as they say.
pub record IsListed (asked : Outcomes) (bytes : List ℕ) (held holds : Option (List ℕ)) (ending : ProgramEnding) : Type 0 where
  pub whole : Bool
  pub judged : Judged
  pub text : List ℕ
  pub tells : TellsRace asked whole judged bytes [] text
  pub written : Appends held holds text
  pub ends : ending ≡ list_ending whole judged

-- A line of the race in these bytes claims something by what is no condition.
pub record HasBadCondition (bytes : List ℕ) : Type 0 where
  pub core : Memory
  pub calls : List (List (Option Call))
  pub race : IsRaceIn (lines_in 1048576 bytes) core calls
  pub bad : HasBadClaim core calls (race_lines bytes)

-- Why the outcomes of the race in these bytes aren't printed: the text has this first fault, at this line; a line claims something by what is no
-- condition; memory was refused, or no number was left for a state or a part of one; or a schedule wasn't saved that was to be. That a write
-- failed is no such reason, and neither is the limit.
abbrev pub IsWhyUnlisted : Outcomes → List ℕ → Unlisted → Type 0
IsWhyUnlisted asked bytes (Faulty fault) = IsFaultTold (lines_in 1048576 bytes) fault
IsWhyUnlisted asked bytes (BadClaim text) = HasBadCondition bytes
IsWhyUnlisted asked bytes (Stopped stop) = ¬ (stop ≡ TooMany)
IsWhyUnlisted asked bytes Unsaved = is_some asked.save ≡ true
IsWhyUnlisted asked bytes (Unwritten fault) = ⊥

-- They aren't written for this reason: they aren't printed, and nothing is written; or a write failed, and the first bytes of all are written.
pub data IsUnlisted (asked : Outcomes) (bytes : List ℕ) (held holds : Option (List ℕ)) (why : Unlisted) : Type 0 where
  IsRefused : IsWhyUnlisted asked bytes why → Keeps held holds → IsUnlisted asked bytes held holds why
  IsCutOff : (whole : Bool) (judged : Judged) (text : List ℕ) → TellsRace asked whole judged bytes [] text → AppendsPart held holds text →
      why ≡ Unwritten WriteFailed → IsUnlisted asked bytes held holds why

-- these bytes are all of what was there to be read, of standard input; of a file's no contract tells
abbrev pub AreRead : Outcomes → Option (List ℕ) → List ℕ → Type 0
AreRead asked input bytes = IsInput asked.file → IfSome input (λ all. bytes ≡ all)

-- How it ends where the outcomes of a race were asked for as text. They are written, and it ends as they say; or they aren't, for one of the
-- reasons that there are; or the race can't be read, and nothing is written.
pub data EndsTold (asked : Outcomes) (input held holds : Option (List ℕ)) (ending : ProgramEnding) : Type 0 where
  IsWritten : (bytes : List ℕ) → AreRead asked input bytes → IsListed asked bytes held holds ending → EndsTold asked input held holds ending
  IsUnwritten : (bytes : List ℕ) (why : Unlisted) → AreRead asked input bytes → IsUnlisted asked bytes held holds why → ending ≡ Refused →
      EndsTold asked input held holds ending
  IsUnread : Keeps held holds → ending ≡ Refused → EndsTold asked input held holds ending
