-- What the program does that is asked about a history.
use Rattle.std.specs.{Io.KnownBytes.{Appends, Keeps}, Prelude.{IfSome, List, Option, ℕ, ◌≡◌}}
use Rattle.command_line.specs.declared.words.Validation.{Validation}
use Rattle.exit_status.specs.{Endings.IsInput, declared.ends.ProgramEnding.{ProgramEnding, TheVariants.{Possible, Refused}}}
use Rattle.history_files.specs.{Unjudged.IsUnjudged, Verdicts.{HasPossible, IsImpossibleAt}, declared.validating.Unvalidated.Unvalidated}
use Rattle.schedule_lines.specs.bytes.Writing.{AppendsPart}

-- these bytes are all of what was there to be read, of standard input; of a file's no contract tells
abbrev pub AreRead : Validation → Option (List ℕ) → List ℕ → Type 0
AreRead asked input bytes = IsInput asked.file → IfSome input (λ all. bytes ≡ all)

-- How it ends where a history was asked about. As Possible: some execution has it, and the text that says so is written. As Refused: none has its line
-- of this number, and one has those before it, and a text is written behind what a person is told; or it has no verdict, for one of the reasons that
-- there are, and nothing is written; or a write failed, and the first bytes of the text are written; or it can't be read, and nothing is written.
pub data EndsValidated (asked : Validation) (input held holds : Option (List ℕ)) (ending : ProgramEnding) : Type 0 where
  IsPossible : (bytes text : List ℕ) → AreRead asked input bytes → HasPossible bytes → Appends held holds text → ending ≡ Possible →
      EndsValidated asked input held holds ending
  IsImpossible : (bytes : List ℕ) (number : ℕ) (text : List ℕ) → AreRead asked input bytes → IsImpossibleAt bytes number → Appends held holds text →
      ending ≡ Refused → EndsValidated asked input held holds ending
  HasNoVerdict : (bytes : List ℕ) (why : Unvalidated) → AreRead asked input bytes → IsUnjudged bytes asked.limit why → Keeps held holds →
      ending ≡ Refused → EndsValidated asked input held holds ending
  IsCutOff : (text : List ℕ) → AppendsPart held holds text → ending ≡ Refused → EndsValidated asked input held holds ending
  IsUnread : Keeps held holds → ending ≡ Refused → EndsValidated asked input held holds ending
