use Rattle.std.proofs.Common.{ℕ, ◌-◌, List, Option, length}
use Rattle.schedule_lines.specs.bytes.Pending.{pending}
use Rattle.transcripts.specs.LineReplays.{ReplayGoesOn}
use Rattle.transcripts.proofs.line_replay.LineReplay.read_line.Given as goal

-- what was under way stays so
abbrev pub invariant-reads : goal.invariant-reads
invariant-reads g l = (input held : Option (List ℕ)) (done : ℕ) →
    ReplayGoesOn g.P.Player.is_known g.P.Player.plays input held done l.initial.self (g.R.Read.remaining l.initial.reader)
    (g.W.Write.contents l.initial.writer) →
    ReplayGoesOn g.P.Player.is_known g.P.Player.plays input held done l.self (g.R.Read.remaining l.reader) (g.W.Write.contents l.writer)

-- each turn that goes on reads a byte or more
abbrev pub decreases-reads : goal.decreases-reads
decreases-reads g l = 257 - length (pending l.self.input)
