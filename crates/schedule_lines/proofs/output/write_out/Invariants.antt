use Rattle.std.{proofs.Common.{length, take, ◌-◌, ◌≤◌}, specs.Io.KnownBytes.Appends}
use Rattle.schedule_lines.proofs.output.write_out.Given as goal

-- what is written is in the writer
abbrev pub invariant-loop-written : goal.invariant-loop-written
invariant-loop-written g l =
    (l.written ≤ length l.bytes) × Appends (g.W.Write.contents l.initial.writer) (g.W.Write.contents l.writer) (take l.written l.bytes)

-- each turn writes some bytes
abbrev pub decreases-loop-written : goal.decreases-loop-written
decreases-loop-written g l = length l.bytes - l.written
