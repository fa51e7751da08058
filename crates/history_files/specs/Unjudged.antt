-- Why a text has no verdict.
use Rattle.std.specs.Prelude.{List, ℕ, ◌≡◌}
use Rattle.history_files.specs.{Files.IsFaultTold, Verdicts.IsTooLarge, declared.unjudged.Unjudged.TheVariants.TooMany}
use Rattle.history_files.specs.declared.validating.Unvalidated.{TheVariants.{Faulty, Unjudged}, Unvalidated}

-- The text has this fault; or more states than the limit come up; or memory was refused, of which no more is told.
abbrev pub IsUnjudged : List ℕ → ℕ → Unvalidated → Type 0
IsUnjudged bytes limit (Faulty fault) = IsFaultTold bytes fault
IsUnjudged bytes limit (Unjudged why) = why ≡ TooMany → IsTooLarge bytes limit
