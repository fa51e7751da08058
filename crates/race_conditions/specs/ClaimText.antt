-- The lines of a race's file that claim something.
use Rattle.std.specs.Prelude.{Err, List, None, Ok, Option, Result, Some, ℕ}
use Rattle.{gate_world.specs.declared.config.Config.Config, schedule_lines.specs.Words.{after_word, first_word}}
use Rattle.race_conditions.specs.{Claims.kind_named, Conditions.{Formula, formula_of}, Parsing.condition_in, declared.claims.Claim.Claim}
use Rattle.race_conditions.specs.declared.{claims.ClaimKind.ClaimKind, faults.Unexpected.Unexpected}

-- a claim: what is claimed, and of which condition
abbrev pub told_of : Claim → ClaimKind × Formula
told_of claim = (claim.kind, formula_of claim.condition)

abbrev pub claimed : ClaimKind → Result Formula Unexpected → Result (Option (ClaimKind × Formula)) Unexpected
claimed kind (Ok f) = Ok (Some (kind, f))
claimed kind (Err fault) = Err fault

abbrev pub claim_by : Config → List ℕ → List ℕ → Option ClaimKind → Result (Option (ClaimKind × Formula)) Unexpected
claim_by c calls line None = Ok None
claim_by c calls line (Some kind) = claimed kind (condition_in (after_word line) c calls)

-- what a line claims, if it claims something: its first word says what, and the condition stands behind it
unfoldable pub claim_of : Config → List ℕ → List ℕ → Result (Option (ClaimKind × Formula)) Unexpected
claim_of c calls line = claim_by c calls line (kind_named (first_word line))
