use Rattle.std.proofs.Common.{IsTrue, ◌+◌, ◌≡◌}
use Rattle.program_checks.specs.Checks.{WritesMore}
use Rattle.program_checks.proofs.checks.run_checks.Given as goal

-- each file so far is counted, and what was to be printed of them is written
abbrev pub invariant-loop-number : goal.invariant-loop-number
invariant-loop-number g l =
    (l.checks.passed + l.checks.failed ≡ l.number)
    × (IsTrue l.checks.is_written → WritesMore (g.W.Write.contents l.initial.writer) (g.W.Write.contents l.writer))
