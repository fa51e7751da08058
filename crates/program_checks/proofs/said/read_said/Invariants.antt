use Rattle.std.proofs.Common.{drop, take, true, ◌≡◌}
use Rattle.race_files.specs.Left.{left_in}
use Rattle.program_checks.specs.Said.{said_by}
use Rattle.program_checks.proofs.said.read_said.Given as goal

-- what the lines so far say
abbrev pub invariant-loop-taken : goal.invariant-loop-taken
invariant-loop-taken l = record {
  said : l.said.is_whole ≡ true → l.said.bytes.items ≡ said_by (take l.taken (left_in l.initial.lines).lines);
  left : (left_in l.lines).lines ≡ drop l.taken (left_in l.initial.lines).lines;
}
