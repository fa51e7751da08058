use Rattle.std.proofs.Common.{◌≡◌, ℕ, ◌<◌, false, get_or}
use Rattle.schedule_lines.specs.Lines.{is_newline}
use Rattle.schedule_lines.proofs.lines.first_newline.Given as goal

-- no byte before this one is a newline
abbrev pub invariant-loop-index : goal.invariant-loop-index
invariant-loop-index l = (k : ℕ) → k < l.index → is_newline (get_or l.bytes k 0) ≡ false
