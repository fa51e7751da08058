use Rattle.std.{proofs.Common.{take, ◌≡◌}, specs.Str.Parse.digits_value}
use Rattle.schedule_lines.proofs.numbers.value_of.Given as goal

-- what the digits so far write
abbrev pub invariant-loop-digit : goal.invariant-loop-digit
invariant-loop-digit l = l.value ≡ digits_value 10 (take l.digit-index l.digits)
