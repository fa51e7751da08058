-- What the program writes of checks.
use Rattle.std.specs.{Prelude.{ℕ, zero, suc, List, ◌++◌, codes, decimal, Option}, Io.KnownBytes.{Appends}}

-- how many are checked, where so many files are named: with none what is read
abbrev pub count_checked : ℕ → ℕ
count_checked zero = 1
count_checked (suc n) = suc n

-- the last line: how many passed and failed
unfoldable pub counts_text : ℕ → ℕ → List ℕ
counts_text passed failed = decimal passed ++ (codes " passed, " ++ decimal failed) ++ codes " failed\n"

-- something is written behind what was there, or nothing
abbrev pub WritesMore : Option (List ℕ) → Option (List ℕ) → Type 0
WritesMore held holds = (told : List ℕ) × Appends held holds told

-- What is written ends with the line that so many passed and none failed.
pub record TellsPassed (count : ℕ) (held holds : Option (List ℕ)) : Type 0 where
  pub told : List ℕ
  pub written : Appends held holds (told ++ counts_text count 0)
