use Rattle.std.proofs.Common.{◌≡◌, ℕ, ◌<◌, false, get_or}
use Rattle.race_conditions.specs.Pieces.{is_no_blank}
use Rattle.race_conditions.proofs.pieces.blanks.Given as goal

-- no byte before this one is such
abbrev pub invariant-loop-index : goal.invariant-loop-index
invariant-loop-index l = (k : ℕ) → k < l.index → is_no_blank (get_or l.text k 0) ≡ false
