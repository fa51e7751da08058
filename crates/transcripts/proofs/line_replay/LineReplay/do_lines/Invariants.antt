use Rattle.std.proofs.Common.{◌≡◌, true}
use Rattle.transcripts.specs.LineReplays.{ReplayGoesOn}
use Rattle.transcripts.proofs.line_replay.LineReplay.do_lines.Given as goal

-- where it is known what the player plays the replay goes on after so many lines
abbrev pub invariant-loop-done : goal.invariant-loop-done
invariant-loop-done g l =
    g.P.Player.is_known ≡ true →
    ReplayGoesOn g.P.Player.is_known g.P.Player.plays (g.R.Read.remaining l.initial.reader) (g.W.Write.contents l.initial.writer) l.done l.self
    (g.R.Read.remaining l.reader) (g.W.Write.contents l.writer)
