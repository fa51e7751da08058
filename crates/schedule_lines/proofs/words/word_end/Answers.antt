use Rattle.std.proofs.Common.{arith, sym}
use Rattle.schedule_lines.{proofs.Positions.nowhere_is_end, specs.Words.is_space}
use Rattle.schedule_lines.proofs.words.word_end.Goals as goal

pub returns-clause-end : goal.returns-clause-end
returns-clause-end c = sym (nowhere_is_end is_space c.args.text.now (λ k h. c.loop-index.invariant k (omega arith)))
