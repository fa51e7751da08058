use Rattle.std.proofs.Common.{arith, sym}
use Rattle.schedule_lines.{proofs.Positions.nowhere_is_none, specs.Lines.is_newline}
use Rattle.schedule_lines.proofs.lines.first_newline.Goals as goal

pub returns : goal.returns
returns c = sym (nowhere_is_none is_newline c.args.bytes.now (λ k h. c.loop-index.invariant k (omega arith)))
