-- How the program ends that was asked about a history.
use Rattle.std.{proofs.Common.{IfSome, List, None, Option, Some, inl, inr, refl, ℕ, ◌≡◌, ◌⊎◌}, specs.Io.KnownBytes.Appends}
use Rattle.command_line.specs.declared.words.Validation.{Validation}
use Rattle.exit_status.specs.declared.ends.ProgramEnding.{ProgramEnding, TheVariants.{Possible, Refused}}
use Rattle.history_files.specs.{Verdicts.{HasPossible, IsImpossibleAt}, declared.telling.Impossible.Impossible}
use Rattle.schedule_lines.specs.bytes.Writing.{AppendsPart}
use Rattle.mntgate.specs.Validated.{AreRead, EndsValidated, EndsValidated.{IsCutOff, IsImpossible, IsPossible}}

-- a verdict was printed
module _ (asked : Validation) (input held holds : Option (List ℕ)) (ending : ProgramEnding) (bytes text : List ℕ) (read : AreRead asked input bytes) where
  pub told : (fault : Option Impossible) → (fault ≡ None → HasPossible bytes) → IfSome fault (λ f. IsImpossibleAt bytes f.line) →
      (fault ≡ None → ((ending ≡ Possible) × Appends held holds text) ⊎ ((ending ≡ Refused) × AppendsPart held holds text)) →
      IfSome fault (λ f. (ending ≡ Refused) × (Appends held holds text ⊎ AppendsPart held holds text)) → EndsValidated asked input held holds ending
  told None possible impossible ends fails = of_possible (ends refl)
    where
      of_possible : ((ending ≡ Possible) × Appends held holds text) ⊎ ((ending ≡ Refused) × AppendsPart held holds text) →
          EndsValidated asked input held holds ending
      of_possible (inl whole) = IsPossible bytes text read (possible refl) whole.1 whole.0
      of_possible (inr part) = IsCutOff text part.1 part.0
  told (Some fault) possible impossible ends fails = of_impossible fails.1
    where
      of_impossible : Appends held holds text ⊎ AppendsPart held holds text → EndsValidated asked input held holds ending
      of_impossible (inl whole) = IsImpossible bytes fault.line text read impossible whole fails.0
      of_impossible (inr part) = IsCutOff text part fails.0
