use Rattle.std.proofs.Common.{◌≡◌, ℕ, ◌<◌, false, get_or}
use Rattle.schedule_lines.specs.Words.{is_space}
use Rattle.schedule_lines.proofs.words.word_end.Given as goal

-- no byte before this one is a space
abbrev pub invariant-loop-index : goal.invariant-loop-index
invariant-loop-index l = (k : ℕ) → k < l.index → is_space (get_or l.text k 0) ≡ false
