use Rattle.std.proofs.Common.{sym, arith}
use Rattle.schedule_lines.proofs.Positions.{nowhere_is_end}
use Rattle.race_conditions.specs.Pieces.{is_no_word}
use Rattle.race_conditions.proofs.pieces.word_length.Goals as goal

pub returns-clause-count : goal.returns-clause-count
returns-clause-count c = sym (nowhere_is_end is_no_word c.args.text.now (λ k h. c.loop-index.invariant k (omega arith)))
