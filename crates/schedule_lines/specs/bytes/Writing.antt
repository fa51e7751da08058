-- What a write that failed has written.
use Rattle.std.specs.{Prelude.{ℕ, ◌≤◌, List, length, take, Option}, Io.KnownBytes.{Appends}}

-- known bytes grow by the first of these
abbrev pub AppendsPart : Option (List ℕ) → Option (List ℕ) → List ℕ → Type 0
AppendsPart old new bytes = (count : ℕ) × (count ≤ length bytes) × Appends old new (take count bytes)
