use Rattle.std.{proofs.Common.{take, true, ◌≡◌}, specs.{Char.is_ascii_digit, List.list_all}}
use Rattle.schedule_lines.proofs.numbers.is_digits.Given as goal

-- the bytes so far are digits
abbrev pub invariant-loop-byte : goal.invariant-loop-byte
invariant-loop-byte l = list_all is_ascii_digit (take l.byte-index l.word) ≡ true
