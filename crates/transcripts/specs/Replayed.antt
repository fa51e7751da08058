-- What a replay reads, writes and answers.
use Rattle.std.specs.Prelude.{◌≡◌, ◌≤◌, ℕ, ◌+◌, ◌⊎◌, List, ◌++◌, length, Option, Some, None, Result, Ok, Err, IfSome, count_by}
use Rattle.std.specs.Io.KnownBytes.{Appends, Consumes}
use Rattle.access_model.specs.declared.errors.GateError.TheVariants.{NoMemory}
use Rattle.schedule_lines.specs.{Lines.{is_newline}, declared.faults.{Fault.{Fault}, FaultKind.TheVariants.{Schedule}}}
use Rattle.schedule_lines.specs.declared.faults.Fault.TheVariants.{CutOff, ConfigExpected, ReadFailed, WriteFailed, Refused}
use Rattle.schedule_lines.specs.declared.bytes.replay_faults.ReplayFault.{ReplayFault}
use Rattle.transcripts.specs.Transcript.{transcript}

-- some bytes from the first on
abbrev pub IsFront : List ℕ → List ℕ → Type 0
IsFront front bytes = (others : List ℕ) × (bytes ≡ front ++ others)

-- the bytes that were read print these, and end with this fault, or with none; and so does the whole input, where it is known
abbrev pub IsTranscript : Option (List ℕ) → List ℕ → List ℕ → Option (ℕ × Fault) → Type 0
IsTranscript input taken printed fault =
    (transcript taken ≡ record { printed = printed; fault = fault }) ×
    IfSome input (λ text. transcript text ≡ record { printed = printed; fault = fault })

-- No line has a fault: there is none, or only that the text ends at this line, inside it or with no configuration yet.
abbrev pub MayGoOn : ℕ → Option (ℕ × Fault) → Type 0
MayGoOn line None = Unit {0}
MayGoOn line (Some at) = (at.0 ≡ line) × ((at.1 ≡ CutOff) ⊎ (at.1 ≡ ConfigExpected))

-- These bytes begin with all lines before this one, which have no fault and print this.
pub record PrintsBefore (bytes : List ℕ) (line : ℕ) (printed : List ℕ) : Type 0 where
  pub front : List ℕ
  pub others : List ℕ
  pub split : bytes ≡ front ++ others
  pub lines : line ≡ count_by is_newline front + 1
  pub prints : printed ≡ (transcript front).printed
  pub sound : MayGoOn line (transcript front).fault

-- How a fault ends a replay that writes all that was printed, after these bytes were read: a fault of the schedule is its transcript's; a
-- read that fails is at the line after those read whole, which have no fault; memory that was refused is at the line after those done.
abbrev pub EndsWhole : Option (List ℕ) → List ℕ → List ℕ → ℕ → Fault → Type 0
EndsWhole input taken printed line ReadFailed =
    (printed ≡ (transcript taken).printed) × (line ≡ count_by is_newline taken + 1) × MayGoOn line (transcript taken).fault
EndsWhole input taken printed line WriteFailed = ⊥
EndsWhole input taken printed line (Refused NoMemory) = IsFront printed (transcript taken).printed × PrintsBefore taken line printed
EndsWhole input taken printed line fault = IsTranscript input taken printed (Some (line, fault))

-- A write at the end of this line: what the lines up to it print and was not written yet is a whole block or more, and of that the first
-- bytes were written.
pub record FillsBlock (taken written : List ℕ) (line : ℕ) : Type 0 where
  pub before : List ℕ
  pub block : List ℕ
  pub some : List ℕ
  pub prints : PrintsBefore taken (line + 1) (before ++ block)
  pub full : 65536 ≤ length block
  pub part : IsFront some block
  pub writes : written ≡ before ++ some

-- A write at the end of a replay, or before more is read: where all had been written, this other fault could have ended it at this line.
pub record WritesFront (input : Option (List ℕ)) (taken written : List ℕ) (line : ℕ) : Type 0 where
  pub fault : Fault
  pub printed : List ℕ
  pub ends : EndsWhole input taken printed line fault
  pub part : IsFront written printed

-- How a fault ends a replay, after these bytes were read and these were written: where a write fails the line is the one under way, and
-- the rest of what is to be printed is missing.
abbrev pub EndsBy : Option (List ℕ) → List ℕ → List ℕ → ℕ → Fault → Type 0
EndsBy input taken written line WriteFailed =
    IsFront written (transcript taken).printed × (WritesFront input taken written line ⊎ FillsBlock taken written line)
EndsBy input taken written line fault = EndsWhole input taken written line fault

-- the answer reports this fault
abbrev pub Reports : ReplayFault → Fault → Type 0
Reports answer fault = answer.kind ≡ Schedule fault

-- how a replay ends: well, with the whole transcript written, or by a fault
abbrev pub EndsAs : Option (List ℕ) → List ℕ → List ℕ → Result (Unit {0}) ReplayFault → Type 0
EndsAs input taken written (Ok done) = IsTranscript input taken written None
EndsAs input taken written (Err answer) = (fault : Fault) × Reports answer fault × EndsBy input taken written answer.line fault

-- A replay, by what its reader had left and has left, what its writer held and holds, and its answer.
pub record Replayed (input left held holds : Option (List ℕ)) (answer : Result (Unit {0}) ReplayFault) : Type 0 where
  pub taken : List ℕ
  pub written : List ℕ
  pub reads : Consumes input left taken
  pub writes : Appends held holds written
  pub ends : EndsAs input taken written answer
