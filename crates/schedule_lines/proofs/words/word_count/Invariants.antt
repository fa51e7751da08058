use Rattle.std.proofs.Common.{count_by, take, ◌+◌, ◌≡◌}
use Rattle.schedule_lines.specs.Words.{is_space}
use Rattle.schedule_lines.proofs.words.word_count.Given as goal

-- one more than there are spaces so far
abbrev pub invariant-loop-byte : goal.invariant-loop-byte
invariant-loop-byte l = l.words ≡ 1 + count_by is_space (take l.byte-index l.line)
