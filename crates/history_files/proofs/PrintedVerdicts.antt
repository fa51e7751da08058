-- What is printed of the history in a text.
use Rattle.std.proofs.{Common.{List, codes, decimal, inl, inr, slice_index_or, ℕ, ◌++◌, ◌<◌, ◌≤◌, ◌⊎◌}, lemmas.Bool.cases_lt}
use Rattle.schedule_lines.specs.{Printed.Prints, declared.output.Output.Output}
use Rattle.history_files.specs.Verdicts.{HasPossible, IsImpossibleAt, TellsVerdict, TellsVerdict.{Impossible, Possible}}

pub tells : (bytes lines : List ℕ) (passed all : ℕ) (old new : Output) → (all ≤ passed → HasPossible bytes) →
    (passed < all → IsImpossibleAt bytes (slice_index_or lines passed 0)) → (all ≤ passed → Prints old new (codes "possible\n")) →
    (passed < all → Prints old new (codes "impossible at " ++ decimal (slice_index_or lines passed 0) ++ codes "\n")) → TellsVerdict bytes old new
tells bytes lines passed all old new possible impossible prints_possible prints_impossible = by (cases_lt passed all)
  where
    by : (passed < all) ⊎ (all ≤ passed) → TellsVerdict bytes old new
    by (inl lacks) = Impossible (slice_index_or lines passed 0) (impossible lacks) (prints_impossible lacks)
    by (inr has) = Possible (possible has) (prints_possible has)
