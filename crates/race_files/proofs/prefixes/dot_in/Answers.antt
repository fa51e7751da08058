use Rattle.std.proofs.Common.{arith, sym}
use Rattle.schedule_lines.proofs.Positions.{nowhere_is_end}
use Rattle.race_files.specs.Prefixes.{is_dot}
use Rattle.race_files.proofs.prefixes.dot_in.Goals as goal

pub returns-clause-is : goal.returns-clause-is
returns-clause-is c = sym (nowhere_is_end is_dot c.args.word.now (λ k h. c.loop-index.invariant k (omega arith)))
