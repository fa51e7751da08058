use Rattle.std.proofs.Common.{List, codes, length, ℕ, ◌++◌, ◌≡◌}
use Rattle.program_checks.specs.Said.{PutsSaid}
use Rattle.program_checks.proofs.said.put_line.Given as goal

-- the part of the text that is said, and what is left
abbrev pub invariant-loop-rest : goal.invariant-loop-rest
invariant-loop-rest l = (done : List ℕ) × (l.text ≡ done ++ l.rest) × PutsSaid l.fn.lines l.lines (done ++ codes "\n")

abbrev pub decreases-loop-rest : goal.decreases-loop-rest
decreases-loop-rest l = length l.rest
